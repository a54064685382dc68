-- What the answer stands for, beside the coefficients that it is given of; and where the least is found.
use Rattle.std.specs.Prelude.{◌≡◌, false, Some, List, map, ◌+◌, position, length, ℤ}
use Rattle.std.proofs.Common.{◌∙◌, ap, subst, T, arith}
use Rattle.std.proofs.lemmas.List.{length-map}
use Rattle.std.proofs.lemmas.Iterator.Adapters.{position_from-zero}
use Rattle.std.specs.Int.Signed.{le_z, ≤ℤ_refl}
use Rattle.foundation.specs.Lists.{All}
use Rattle.foundation.specs.Least.{least_of, least_all}
use Rattle.definitions.specs.Eighths.{Eighth, place_of}
use Rattle.cell_lowest.specs.Meaning.{found_from}
use Rattle.cell_least.specs.declared.Least.{Least}

abbrev pub told : {N : Type 0} → (N → ℤ) → List ℤ → Least N → Eighth
told value c r = record { control = c; least = value r.value; number = r.number }

-- the first that is not above the least holds it
module _ {N : Type 0} (value : N → ℤ) (g : List N) (sized : length g ≡ 27) where
  abbrev vs : List ℤ
  vs = map value g

  not_all : All (λ x. le_z x (least_of vs) ≡ false) vs → ⊥
  not_all h = let l : length vs ≡ length g = length-map g value in subst T (least_all (λ x. le_z x (least_of vs) ≡ false) vs (omega (arith, sized, l)) h) (≤ℤ_refl (least_of vs)).le

  pub least_found : (v : N) → value v ≡ least_of vs → position (λ x. le_z (value x) (value v)) g ≡ Some (place_of (least_of vs) vs)
  least_found v e = ap (λ w. position (λ x. le_z (value x) w) g) e ∙ position_from-zero (λ x. le_z (value x) (least_of vs)) g ∙ found_from value (least_of vs) 0 g not_all ∙ (let p : 0 + place_of (least_of vs) vs ≡ place_of (least_of vs) vs = omega arith in ap Some p)
