-- Document 02, No. 2: what the writer answers. All runs that are handed in have exactly one answer.
use Rattle.std.specs.Prelude.{List, [], ◌∷◌, ◌++◌, ℕ, ◌/◌, ◌%◌, eqb, leb, length}
use Rattle.std.proofs.Math.Option.{none, some}
use Rattle.lot_format.specs.Format.{FileLimits, written}
use Rattle.lot_format.specs.Runs.{Runs, lot_from}
use Rattle.lot_format.specs.Groups.{Test, first_failed, group_tests}

-- "The writer refuses, in this order and only then: 2 or 3 for a run's length no multiple of 3 or 8; 24 groups that don't fit together, by 01's house rules; 23; 25; 26; 20; 27."
pub data Unwritable : Type 0 where
  partial_node : Unwritable
  partial_element : Unwritable
  groups_apart : Unwritable
  name_too_long : Unwritable
  bad_byte : Unwritable
  too_many_elements : Unwritable
  too_long : Unwritable
  no_room : Unwritable

abbrev pub unwritable_number : Unwritable → ℕ
unwritable_number partial_node = 2
unwritable_number partial_element = 3
unwritable_number groups_apart = 24
unwritable_number name_too_long = 23
unwritable_number bad_byte = 25
unwritable_number too_many_elements = 26
unwritable_number too_long = 20
unwritable_number no_room = 27

-- the tests in order, each with the refusal that it gives
abbrev pub tests : FileLimits → Runs → ℕ → List (Test Unwritable)
tests F x room =
    record { passed = eqb (length x.nodes % 3) 0; otherwise = partial_node } ∷
    record { passed = eqb (length x.elements % 8) 0; otherwise = partial_element } ∷
    (group_tests groups_apart name_too_long bad_byte F x.label x.names x.lengths x.offsets (length x.elements / 8) ++ (
    record { passed = leb (length x.elements / 8) F.elements; otherwise = too_many_elements } ∷
    record { passed = leb (length (written (lot_from x))) F.bytes; otherwise = too_long } ∷
    record { passed = leb (length (written (lot_from x))) room; otherwise = no_room } ∷ []))

-- The answer: the file, or why it is not written. The lent bytes are so many.
pub data Writing : Type 0 where
  file : List ℕ → Writing
  unwritten : Unwritable → Writing

unfoldable pub writing : FileLimits → Runs → ℕ → Writing
writing F x room = elim (first_failed (tests F x room)) [ none ↦ file (written (lot_from x)) | some r ↦ unwritten r ]

-- the bytes that are written, and the number that answers
abbrev pub file_of : Writing → List ℕ
file_of (file bytes) = bytes
file_of (unwritten r) = []

abbrev pub writing_number : Writing → ℕ
writing_number (file bytes) = 0
writing_number (unwritten r) = unwritable_number r
