-- What a search works on, and what it asks of the numbers that it is held in: `top` is the largest magnitude that such a number has.
use Rattle.std.specs.Prelude.{◌≡◌, true, false, List, ℕ, zero, suc, ◌+◌, ◌*◌, ◌^◌, ◌<◌, ◌≤◌, get_or, ℤ, pos}
use Rattle.std.specs.Int.Signed.{le_z}
use Rattle.foundation.specs.Words.{signed_limit}
use Rattle.definitions.specs.Subdivision.{Cell}
use Rattle.expansion_theory.specs.Control.{Control}
use Rattle.verdict_theory.specs.Search.{Pass}

-- the cell at these grid numbers with these coefficients
abbrev pub cell_of : ℕ → ℕ → ℕ → List ℤ → Cell
cell_of a b c g = record { a = a; b = b; c = c; control = g }

-- the number, from 1, of the first of n coefficients from k on that is not above 0; 0 where there is none
abbrev pub low_from : List ℤ → ℕ → ℕ → ℕ
low_from g k zero = 0
low_from g k (suc n) = elim (le_z (get_or g k (pos 0)) (pos 0)) [ true ↦ suc k | false ↦ low_from g (suc k) n ]

unfoldable pub lowest : List ℤ → ℕ
lowest g = low_from g 0 27

-- ---- room
-- with `left` levels below: coefficients that stay small enough at every one of them
pub record Small (top : ℕ) (g : List ℤ) (left : ℕ) : Type 0 where
  pub bound : ℕ
  pub control : Control bound g
  pub small : bound * 64 ^ left ≤ top

-- what grid numbers and counts of cells stay below
abbrev pub grid_room : ℕ
grid_room = 2 ^ 31

abbrev pub count_room : ℕ
count_room = signed_limit

abbrev pub Grid : ℕ → ℕ → Type 0
Grid x left = (x + 1) * 2 ^ left ≤ grid_room

-- a cell with `left` levels below it
pub record Room (top : ℕ) (g : List ℤ) (a b c left : ℕ) : Type 0 where
  pub small : Small top g left
  pub a_grid : Grid a left
  pub b_grid : Grid b left
  pub c_grid : Grid c left

-- A pass is held in words of some kind: those of a pass that has room for n cells more.
pub record Held {A : Type 0} (words : Pass → A) (n : ℕ) (ws : A) : Type 0 where
  pub pass : Pass
  pub is : ws ≡ words pass
  pub room : pass.count + n < count_room
