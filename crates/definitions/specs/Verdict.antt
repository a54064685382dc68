-- Document 01, "The verdict, without a search", and the cubes opened. Every list of cells is written out in full.
use Rattle.std.specs.Prelude.{Bool, true, false, not, List, [], ◌∷◌, ◌++◌, map, ℕ, zero, suc, ◌+◌, get_or, length, ℤ, pos}
use Rattle.std.proofs.Math.Option.{Option, none, some}
use Rattle.std.specs.Int.Signed.{le_z}
use Rattle.foundation.specs.Lists.{concat_map, tabulate}
use Rattle.definitions.specs.Jacobian.{side, scaled_jacobian}
use Rattle.definitions.specs.Subdivision.{Cell, children, whole, descend, cells}

-- What is looked at: a corner or a coefficient of a cell, by its number from 1, with grid numbers and the value held.
pub record Finding : Type 0 where
  pub number : ℕ
  pub a : ℕ
  pub b : ℕ
  pub c : ℕ
  pub value : ℤ

-- the corners of a cell of level m, with J there
unfoldable pub corners_of : List ℤ → ℕ → Cell → List Finding
corners_of xs m s = tabulate (λ k. let a = s.a + side 0 k in let b = s.b + side 1 k in let c = s.c + side 2 k in record { number = suc k; a = a; b = b; c = c; value = scaled_jacobian xs m a b c }) 0 8

-- the coefficients of a cell
unfoldable pub coefficients_of : Cell → List Finding
coefficients_of s = tabulate (λ n. record { number = suc n; a = s.a; b = s.b; c = s.c; value = get_or s.control n (pos 0) }) 0 27

-- "Zero is not positive."
abbrev pub first_low : List Finding → Option Finding
first_low [] = none
first_low (v ∷ vs) = elim (le_z v.value (pos 0)) [ true ↦ some v | false ↦ first_low vs ]

abbrev pub found : {A : Type 0} → Option A → Bool
found none = false
found (some x) = true

-- the first corner of level m, in path order, with J ≤ 0
unfoldable pub low_point : List ℤ → ℕ → Option Finding
low_point xs m = first_low (concat_map (corners_of xs m) (cells xs m))

-- the first coefficient ≤ 0 of level m, in path order
unfoldable pub low_coefficient : List ℤ → ℕ → Option Finding
low_coefficient xs m = first_low (concat_map coefficients_of (cells xs m))

-- the least of the levels 0..n at which p holds; n where it holds at none
abbrev pub least_level : (ℕ → Bool) → ℕ → ℕ
least_level p zero = 0
least_level p (suc n) = let l = least_level p n in elim (p l) [ true ↦ l | false ↦ suc n ]

-- "take the least level that has such a point": the last level that is looked at
unfoldable pub last_level : List ℤ → ℕ → ℕ
last_level xs D = least_level (λ m. found (low_point xs m)) D

-- "The level named is the least at which that holds."
unfoldable pub valid_level : List ℤ → ℕ → ℕ
valid_level xs D = least_level (λ m. not (found (low_coefficient xs m))) D

pub data Verdict : Type 0 where
  valid : (level : ℕ) → Verdict
  invalid : (level : ℕ) → Finding → Verdict
  undecided : (level : ℕ) → Finding → Verdict

-- what the finds of the last level and of depth D come to
abbrev pub decide : ℕ → ℕ → ℕ → Option Finding → Option Finding → Verdict
decide D l v (some f) k = invalid l f
decide D l v none (some f) = undecided D f
decide D l v none none = valid v

unfoldable pub verdict : List ℤ → ℕ → Verdict
verdict xs D = decide D (last_level xs D) (valid_level xs D) (low_point xs (last_level xs D)) (low_coefficient xs D)

-- "a cube … is opened if it is the whole or its parent was opened and had a coefficient ≤ 0"
abbrev pub blocked : Cell → Bool
blocked s = found (first_low (coefficients_of s))

unfoldable pub opened_below : Cell → List Cell
opened_below s = elim (blocked s) [ true ↦ children s | false ↦ [] ]

abbrev pub opened_at : List ℤ → ℕ → List Cell
opened_at xs m = descend opened_below m (whole xs ∷ [])

-- "Opening ends at the cube of an invalid answer": the cells up to and with the first at which p holds
abbrev pub through : (Cell → Bool) → List Cell → List Cell
through p [] = []
through p (s ∷ ss) = elim (p s) [ true ↦ s ∷ [] | false ↦ s ∷ through p ss ]

-- a cell that is opened, with its level
pub record OpenedCell : Type 0 where
  pub level : ℕ
  pub cell : Cell

abbrev pub opened_on : List ℤ → ℕ → List OpenedCell
opened_on xs m = map (λ s. record { level = m; cell = s }) (through (λ s. found (first_low (corners_of xs m s))) (opened_at xs m))

-- levels 0 to m, one after the other
abbrev pub opened_to : List ℤ → ℕ → List OpenedCell
opened_to xs zero = opened_on xs 0
opened_to xs (suc m) = opened_to xs m ++ opened_on xs (suc m)

-- "Cubes opened: level by level, in path order, starting with the whole … Opening ends at the cube of an invalid answer, or when no cube is due."
unfoldable pub opened_cells : List ℤ → ℕ → List OpenedCell
opened_cells xs D = opened_to xs (last_level xs D)

-- how many
unfoldable pub opened : List ℤ → ℕ → ℕ
opened xs D = length (opened_cells xs D)
