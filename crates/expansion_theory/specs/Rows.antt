-- The rows of coefficients that a cut mixes: in each direction nine, of three coefficients in line. Coefficients are counted from 0, in the numbering.
use Rattle.std.specs.Prelude.{◌≡◌, List, [], ◌∷◌, ℕ, ◌+◌, ◌*◌, ◌/◌, ◌%◌, ◌<◌, get_or, set, length, ℤ, pos}
use Rattle.foundation.specs.Polynomial.{integers}
use Rattle.foundation.specs.Words.{args}
use Rattle.definitions.specs.Coefficients.{numbers}
use Rattle.definitions.specs.Subdivision.{row_at, cut_row, halve}
use Rattle.expansion_theory.specs.Control.{Control}

-- the coefficient at t, 0 to 2, of the row in direction d whose places in the other two directions are u and v
abbrev pub in_row : ℕ → ℕ → ℕ → ℕ → ℕ
in_row d u v t = row_at d (λ i j k. get_or numbers (9 * i + 3 * j + k) 0) u v t

-- the rows of direction d one after the other: the coefficient that stands at x, 0 to 26
abbrev pub in_line : ℕ → ℕ → ℕ
in_line d x = in_row d (x / 9) (x / 3 % 3) (x % 3)

-- xs, with what stands at x in direction d taken from half
abbrev pub taken : ℕ → List ℤ → ℕ → List ℤ → List ℤ
taken d half x xs = set xs (in_line d x) (get_or half (in_line d x) (pos 0))

-- row j, whole
abbrev pub taken_row : ℕ → List ℤ → ℕ → List ℤ → List ℤ
taken_row d half j xs = taken d half (3 * j + 2) (taken d half (3 * j + 1) (taken d half (3 * j) xs))

-- ---- what the code puts
-- the half on side h of a row, put into xs at x, y, z
unfoldable pub put_row : ℕ → List ℤ → ℕ → ℕ → ℕ → List ℤ → List ℤ
put_row h row x y z xs = set (set (set xs x (cut_row integers h (args row) 0)) y (cut_row integers h (args row) 1)) z (cut_row integers h (args row) 2)

-- the coefficients of c at x, y, z
abbrev pub line_at : List ℤ → ℕ → ℕ → ℕ → List ℤ
line_at c x y z = get_or c x (pos 0) ∷ get_or c y (pos 0) ∷ get_or c z (pos 0) ∷ []

-- ---- a half put together, row by row
-- xs agrees with half at the first n places of the rows
abbrev pub Agrees : ℕ → List ℤ → ℕ → List ℤ → Type 0
Agrees d half n xs = (x : ℕ) → x < n → get_or xs (in_line d x) (pos 0) ≡ get_or half (in_line d x) (pos 0)

-- xs holds the first j rows of the half of c on side h in direction d, and the magnitudes of c are at most b
pub record Holds (b d h j : ℕ) (c xs : List ℤ) : Type 0 where
  pub control : Control b c
  pub sized : length xs ≡ 27
  pub agrees : Agrees d (halve d h c) (3 * j) xs

-- x, y, z are row j of direction d
pub record Row (d j x y z : ℕ) : Type 0 where
  pub direction : d < 3
  pub number : j < 9
  pub start : x ≡ in_line d (3 * j)
  pub middle : y ≡ in_line d (3 * j + 1)
  pub end : z ≡ in_line d (3 * j + 2)
