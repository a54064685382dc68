-- Cutting combines: each number of a half is a sum of numbers of the whole with weights that are at least 0 and add up to 4, to 64 for a child.
-- So a cut keeps whatever sums and multiples keep.
use Rattle.std.specs.Prelude.{List, ℕ, zero, suc, ◌+◌, ◌*◌, ℤ, pos, ◌+ℤ◌, ◌*ℤ◌}
use Rattle.std.proofs.Common.{subst, arith}
use Rattle.foundation.specs.Polynomial.{integers}
use Rattle.foundation.specs.Lists.{All}
use Rattle.definitions.specs.Jacobian.{side}
use Rattle.definitions.specs.Coefficients.{at}
use Rattle.definitions.specs.Subdivision.{cut_row, cut, halve, Cell, child}
use Rattle.expansion_theory.specs.Numbering.{numbered_all, at_all}
use Rattle.expansion_theory.specs.Cut.{length_halve}

-- P n x: what is claimed of a number x of weight n
pub record Combines (P : ℕ → ℤ → Type 0) : Type 0 where
  pub sums : {m n : ℕ} {x y : ℤ} → P m x → P n y → P (m + n) (x +ℤ y)
  pub multiples : {n : ℕ} {x : ℤ} (k : ℕ) → P n x → P (k * n) (pos k *ℤ x)

module _ (P : ℕ → ℤ → Type 0) (C : Combines P) where
  open C use {sums, multiples}

  module _ (n : ℕ) where
    -- 2x + 2y and x + 2y + z
    two_keep : {x y : ℤ} → P n x → P n y → P (4 * n) (pos 2 *ℤ x +ℤ pos 2 *ℤ y)
    two_keep {x} {y} p q = subst (λ (k : ℕ). P k (pos 2 *ℤ x +ℤ pos 2 *ℤ y)) (omega arith) (sums (multiples 2 p) (multiples 2 q))

    three_keep : {x y z : ℤ} → P n x → P n y → P n z → P (4 * n) (x +ℤ pos 2 *ℤ y +ℤ z)
    three_keep {x} {y} {z} p q r = subst (λ (k : ℕ). P k (x +ℤ pos 2 *ℤ y +ℤ z)) (omega arith) (sums (sums p (multiples 2 q)) r)

    row_keeps : (f : ℕ → ℤ) → ((t : ℕ) → P n (f t)) → (h i : ℕ) → P (4 * n) (cut_row integers h f i)
    row_keeps f p zero zero = multiples 4 (p 0)
    row_keeps f p zero (suc zero) = two_keep (p 0) (p 1)
    row_keeps f p zero (suc (suc i)) = three_keep (p 0) (p 1) (p 2)
    row_keeps f p (suc h) zero = three_keep (p 0) (p 1) (p 2)
    row_keeps f p (suc h) (suc zero) = two_keep (p 1) (p 2)
    row_keeps f p (suc h) (suc (suc i)) = multiples 4 (p 2)

    cut_keeps : (f : ℕ → ℕ → ℕ → ℤ) → ((i j k : ℕ) → P n (f i j k)) → (d h i j k : ℕ) → P (4 * n) (cut integers d h f i j k)
    cut_keeps f p zero h i j k = row_keeps (λ t. f t j k) (λ t. p t j k) h i
    cut_keeps f p (suc zero) h i j k = row_keeps (λ t. f i t k) (λ t. p i t k) h j
    cut_keeps f p (suc (suc d)) h i j k = row_keeps (λ t. f i j t) (λ t. p i j t) h k

    -- a half of numbers of which P is claimed at every place
    pub halve_keeps : (d h : ℕ) (c : List ℤ) → ((i j k : ℕ) → P n (at c i j k)) → All (P (4 * n)) (halve d h c)
    unfolding halve
    halve_keeps d h c p = numbered_all (P (4 * n)) (cut integers d h (at c)) (cut_keeps (at c) p d h)

    -- and a half of that
    halve_again : (d h e g : ℕ) (c : List ℤ) → All (P n) (halve d h c) → All (P (4 * n)) (halve e g (halve d h c))
    halve_again d h e g c p = halve_keeps e g (halve d h c) (at_all (P n) (halve d h c) (length_halve d h c) p)

  pub child_keeps : (s : Cell) (k : ℕ) → ((i j l : ℕ) → P 1 (at s.control i j l)) → All (P 64) (child s k).control
  unfolding child
  child_keeps s k p = let first = halve 0 (side 0 k) s.control in
      halve_again 16 1 (side 1 k) 2 (side 2 k) first (halve_again 4 0 (side 0 k) 1 (side 1 k) s.control (halve_keeps 1 0 (side 0 k) s.control p))
