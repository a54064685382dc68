-- Document 02, No. 2: "When a slip names an element, a group with an empty name bears the lot's label, and so does an element before any GR."
use Rattle.std.specs.Prelude.{Bool, true, false, List, [], ◌∷◌, ◌++◌, ℕ, ◌+◌, leb, ltb, length}
use Rattle.std.proofs.Math.Option.{none, some}
use Rattle.lot_format.specs.Format.{FileLimits, Group}
use Rattle.lot_format.specs.Runs.{groups_of}
use Rattle.lot_format.specs.Groups.{Test, first_failed, group_tests}

-- "in force until the next one": the name of the last group that has no more than e elements before it, elements counted from 0; where there is none, the given one
abbrev pub name_in_force : List ℕ → List Group → ℕ → List ℕ
name_in_force name [] e = name
name_in_force name (g ∷ gs) e = elim (leb g.offset e) [ true ↦ name_in_force g.name gs e | false ↦ name_in_force name gs e ]

-- where that name starts in the names laid end to end; `at` is where the first of these groups has its name
abbrev pub place_in_force : ℕ → ℕ → List Group → ℕ → ℕ
place_in_force place at [] e = place
place_in_force place at (g ∷ gs) e = elim (leb g.offset e) [ true ↦ place_in_force at (at + length g.name) gs e | false ↦ place_in_force place (at + length g.name) gs e ]

abbrev pub is_empty : List ℕ → Bool
is_empty [] = true
is_empty (b ∷ bs) = false

-- the name that element e bears
abbrev pub name_of : List ℕ → List Group → ℕ → List ℕ
name_of label gs e = elim (is_empty (name_in_force [] gs e)) [ true ↦ label | false ↦ name_in_force [] gs e ]

-- ---- what the namer answers: all lists that are handed in have exactly one answer
-- 01's house rules have 24, 23 and 25, tested in the writer's order. Ours: an element's number not below the number of elements is 28, tested last.
pub data Unnamed : Type 0 where
  groups_apart : Unnamed
  name_too_long : Unnamed
  bad_byte : Unnamed
  no_such_element : Unnamed

abbrev pub unnamed_number : Unnamed → ℕ
unnamed_number groups_apart = 24
unnamed_number name_too_long = 23
unnamed_number bad_byte = 25
unnamed_number no_such_element = 28

abbrev pub naming_tests : FileLimits → List ℕ → List ℕ → List ℕ → List ℕ → ℕ → ℕ → List (Test Unnamed)
naming_tests F label names lengths offsets elements e =
    group_tests groups_apart name_too_long bad_byte F label names lengths offsets elements ++ (record { passed = ltb e elements; otherwise = no_such_element } ∷ [])

-- The answer: the name, or why there is none.
pub data Naming : Type 0 where
  named : List ℕ → Naming
  unnamed : Unnamed → Naming

-- of element e, where there are so many elements
unfoldable pub naming : FileLimits → List ℕ → List ℕ → List ℕ → List ℕ → ℕ → ℕ → Naming
naming F label names lengths offsets elements e =
    elim (first_failed (naming_tests F label names lengths offsets elements e)) [ none ↦ named (name_of label (groups_of names lengths offsets) e) | some r ↦ unnamed r ]

-- the bytes that are handed out, and the number that answers
abbrev pub name_given : Naming → List ℕ
name_given (named name) = name
name_given (unnamed r) = []

abbrev pub naming_number : Naming → ℕ
naming_number (named name) = 0
naming_number (unnamed r) = unnamed_number r
