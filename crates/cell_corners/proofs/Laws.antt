-- The sides of a corner as the code computes them. Assumes nothing.
use mathlib.Core.Path.{◌≡◌, refl}
use mathlib.Core.List.{List, [], ◌∷◌}
use Prim.Native.Nat.{ℕ, zero, suc, ◌+◌, ◌/◌, ◌%◌, ◌<◌, ◌≤◌}
use native.Mathlib.Omega.{arith}
use lib.ListN.{get_or, length}
use Rattle.foundation.specs.Lists.{equal_below}
use Rattle.definitions.specs.Jacobian.{sides, side}

-- No corner is numbered past the eighth.
past : (xs : List ℕ) (k : ℕ) → length xs ≤ k → get_or xs k 0 ≡ 0
past [] k h = refl
past (x ∷ xs) zero h = absurd (omega arith)
past (x ∷ xs) (suc k) h = past xs k (omega arith)

pub side_past : (d k : ℕ) → 8 ≤ k → side d k ≡ 0
side_past zero k h = past (sides 0) k h
side_past (suc zero) k h = past (sides 1) k h
side_past (suc (suc d)) k h = past (sides 2) k h

-- The side of corner k in direction d, as the code computes it.
abbrev computed : ℕ → ℕ → ℕ
computed zero k = (k + 1) / 2 % 2
computed (suc zero) k = k / 2 % 2
computed (suc (suc d)) k = k / 4

pub side_computed : (k : ℕ) → k < 8 → (d : ℕ) → side d k ≡ computed d k
side_computed k h zero = equal_below (side 0) (computed 0) 8 tt k h
side_computed k h (suc zero) = equal_below (side 1) (computed 1) 8 tt k h
side_computed k h (suc (suc d)) = equal_below (side 2) (computed 2) 8 tt k h

-- in a direction that is neither the first nor the second
pub side_last : (k : ℕ) → k < 8 → (d : ℕ) → (d ≡ 0 → ⊥) → (d ≡ 1 → ⊥) → side d k ≡ k / 4
side_last k h zero p q = absurd (p refl)
side_last k h (suc zero) p q = absurd (q refl)
side_last k h (suc (suc d)) p q = side_computed k h 2
