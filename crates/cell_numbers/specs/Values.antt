-- The values of 27 numbers, read and put one at a time, and how large a number is that can be cut.
use Rattle.std.specs.Prelude.{◌≡◌, refl, List, [], ◌∷◌, map, ℕ, zero, suc, ◌*◌, ◌/◌, ◌<◌, ◌≤◌, get_or, set, length, ℤ, pos}
use Rattle.std.proofs.Common.{ap, arith}

-- the largest magnitude of a number that can be cut, where numbers may have so much
abbrev pub cut_most : ℕ → ℕ
cut_most most = most / 4

pub can_be_cut : (most n : ℕ) → 4 * n ≤ most → n ≤ cut_most most
can_be_cut most n h = omega (arith, h)

module _ {N : Type 0} (value : N → ℤ) where
  -- the value of what is read at a place
  pub value_read : (g : List N) (k : ℕ) (d : N) → k < length g → value (get_or g k d) ≡ get_or (map value g) k (pos 0)
  value_read [] k d h = absurd (omega (arith, h))
  value_read (x ∷ xs) zero d h = refl
  value_read (x ∷ xs) (suc k) d h = value_read xs k d (omega (arith, h))

  -- the values after a number was put
  pub values_put : (g : List N) (k : ℕ) (x : N) → map value (set g k x) ≡ set (map value g) k (value x)
  values_put [] k x = refl
  values_put (y ∷ ys) zero x = refl
  values_put (y ∷ ys) (suc k) x = ap (λ zs. value y ∷ zs) (values_put ys k x)
