-- Document 01, "The form each place needs": "naming an element returns a part of either the group's slice or the lot's slice". Which part it is.
use Rattle.std.specs.Prelude.{true, false, List, [], ℕ, ◌+◌}
use Rattle.lot_format.specs.Format.{Group}
use Rattle.lot_format.specs.Naming.{name_in_force, place_in_force, is_empty}

-- where the name of element e starts, from where the label and the names start: each a block of memory and a place in it
abbrev pub place_of : ℕ × ℕ → ℕ × ℕ → List Group → ℕ → ℕ × ℕ
place_of label names gs e = elim (is_empty (name_in_force [] gs e)) [ true ↦ label | false ↦ (names.0, place_in_force 0 0 gs e + names.1) ]
