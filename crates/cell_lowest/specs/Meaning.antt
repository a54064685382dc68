-- The lowest number of a low coefficient, told by the place, from 0, at which that coefficient stands.
use Rattle.std.specs.Prelude.{◌≡◌, refl, Bool, true, false, cond, Option, Some, None, is_none, List, [], ◌∷◌, map, ℕ, zero, suc, ◌+◌, ◌<◌, ◌≤◌, eqb, get_or, length, position, ℤ, pos}
use Rattle.std.proofs.Common.{sym, ◌∙◌, ap, true≢false, ne_eqb, arith}
use Rattle.std.specs.List.{position_from}
use Rattle.std.proofs.lemmas.Iterator.Adapters.{position_from-zero}
use Rattle.std.specs.Int.Signed.{le_z}
use Rattle.foundation.specs.Lists.{All}
use Rattle.definitions.specs.Eighths.{place_of}
use Rattle.search_theory.specs.Meaning.{low_from, lowest}

-- the number of the coefficient at a place; 0 for none
abbrev pub number_of : Option ℕ → ℕ
number_of None = 0
number_of (Some k) = k + 1

pub none_told : (o : Option ℕ) → is_none o ≡ eqb (number_of o) 0
none_told None = refl
none_told (Some k) = sym (ne_eqb (k + 1) 0 (λ e. absurd (omega arith)))

module _ {N : Type 0} (value : N → ℤ) where
  -- from the place k on, the n that are left
  from : (g : List ℤ) (k n : ℕ) (xs : List N) → length xs ≡ n → ((j : ℕ) → j < n → get_or (map value xs) j (pos 0) ≡ get_or g (k + j) (pos 0)) → number_of (position_from (λ x. le_z (value x) (pos 0)) k xs) ≡ low_from g k n
  from g k zero [] l h = refl
  from g k (suc n) [] l h = absurd (omega arith)
  from g k zero (x ∷ xs) l h = absurd (omega arith)
  from g k (suc n) (x ∷ xs) l h =
      let here : value x ≡ get_or g k (pos 0) = h 0 (omega arith) ∙ (let p : k + 0 ≡ k = omega arith in ap (λ i. get_or g i (pos 0)) p) in
      go (le_z (get_or g k (pos 0)) (pos 0)) (le_z (value x) (pos 0)) (ap (λ z. le_z z (pos 0)) here)
      (from g (suc k) n xs (omega arith) (λ j m. h (suc j) (omega arith) ∙ (let p : k + suc j ≡ suc k + j = omega arith in ap (λ i. get_or g i (pos 0)) p)))
    where
      go : (b c : Bool) → c ≡ b → number_of (position_from (λ x. le_z (value x) (pos 0)) (suc k) xs) ≡ low_from g (suc k) n → number_of (cond c (Some k) (position_from (λ x. le_z (value x) (pos 0)) (k + 1) xs)) ≡ elim b [ true ↦ suc k | false ↦ low_from g (suc k) n ]
      go true true e r = let p : k + 1 ≡ suc k = omega arith in p
      go false false e r = let p : k + 1 ≡ suc k = omega arith in ap (λ i. number_of (position_from (λ x. le_z (value x) (pos 0)) i xs)) p ∙ r
      go true false e r = absurd (true≢false (sym e))
      go false true e r = absurd (true≢false e)

  -- where one is not above v
  pub found_from : (v : ℤ) (k : ℕ) (xs : List N) → (All (λ x. le_z x v ≡ false) (map value xs) → ⊥) → position_from (λ x. le_z (value x) v) k xs ≡ Some (k + place_of v (map value xs))
  found_from v k [] h = absurd (h tt)
  found_from v k (x ∷ xs) h = go (le_z (value x) v) refl (λ e. found_from v (k + 1) xs (λ a. h (e, a)))
    where
      go : (b : Bool) → le_z (value x) v ≡ b → (le_z (value x) v ≡ false → position_from (λ x. le_z (value x) v) (k + 1) xs ≡ Some (k + 1 + place_of v (map value xs))) → cond b (Some k) (position_from (λ x. le_z (value x) v) (k + 1) xs) ≡ Some (k + elim b [ true ↦ 0 | false ↦ suc (place_of v (map value xs)) ])
      go true e r = let p : k ≡ k + 0 = omega arith in ap Some p
      go false e r = let p : k + 1 + place_of v (map value xs) ≡ k + suc (place_of v (map value xs)) = omega arith in r e ∙ ap Some p

  pub first_low : (g : List N) → length g ≡ 27 → number_of (position (λ x. le_z (value x) (pos 0)) g) ≡ lowest (map value g)
  unfolding lowest
  first_low g l = ap number_of (position_from-zero (λ x. le_z (value x) (pos 0)) g) ∙ from (map value g) 0 27 g l (λ j m. let p : j ≡ 0 + j = omega arith in ap (λ i. get_or (map value g) i (pos 0)) p)

-- its number is one of the 27
low_few : (g : List ℤ) (k n : ℕ) → low_from g k n ≤ k + n
low_few g k zero = omega arith
low_few g k (suc n) = go (le_z (get_or g k (pos 0)) (pos 0)) (low_few g (suc k) n)
  where
    go : (b : Bool) → low_from g (suc k) n ≤ suc k + n → elim b [ true ↦ suc k | false ↦ low_from g (suc k) n ] ≤ k + suc n
    go true p = omega arith
    go false p = omega arith

pub lowest_few : (g : List ℤ) → lowest g ≤ 27
unfolding lowest
lowest_few g = low_few g 0 27
