-- Request No. 7: "Let the cut into eight answer, for every child, its least coefficient and the lowest number that holds it, beside the 27 values."
use Rattle.std.specs.Prelude.{true, false, List, [], ◌∷◌, map, ℕ, suc, ℤ}
use Rattle.std.specs.Int.Signed.{le_z}
use Rattle.foundation.specs.Least.{least_of}
use Rattle.definitions.specs.Subdivision.{Cell, children}

-- the place, from 0, of the first of the values that is not above v
abbrev pub place_of : ℤ → List ℤ → ℕ
place_of v [] = 0
place_of v (x ∷ xs) = elim (le_z x v) [ true ↦ 0 | false ↦ suc (place_of v xs) ]

-- the lowest number, from 1, that holds the least: what is not above the least holds it
unfoldable pub least_number : List ℤ → ℕ
least_number c = suc (place_of (least_of c) c)

-- what is answered for a child: the 27 values, the least and its number
pub record Eighth : Type 0 where
  pub control : List ℤ
  pub least : ℤ
  pub number : ℕ

abbrev pub eighth_of : List ℤ → Eighth
eighth_of c = record { control = c; least = least_of c; number = least_number c }

-- and for the eight, in path order
unfoldable pub eighths : Cell → List Eighth
eighths s = map (λ t. eighth_of t.control) (children s)
