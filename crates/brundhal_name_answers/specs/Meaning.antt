-- The answers of naming as plain numbers, numbered as documents 01 and 02 number them.
use Rattle.std.specs.Prelude.{true, false, List, [], ◌∷◌, ℕ, eqb, length, take, drop}
use Rattle.lot_format.specs.Format.{Group}
use Rattle.lot_format.specs.Naming.{name_in_force, place_in_force, is_empty, unnamed_number, Naming, named, unnamed}
use Rattle.brundhal_name_answers.specs.declared.BrundhalName.{BrundhalName}

-- What an answer says: the numbers of the definition's answer, and beside them the fields of the struct, each once and in the same order.
-- a name: its number, then 1 and its place and length among the names, or 0, 0 and the length of the label; of a refusal its number and 0 for each
abbrev pub part_numbers : List ℕ → List Group → ℕ → List ℕ
part_numbers label gs e = elim (is_empty (name_in_force [] gs e)) [ true ↦ 0 ∷ 0 ∷ length label ∷ [] | false ↦ 1 ∷ place_in_force 0 0 gs e ∷ length (name_in_force [] gs e) ∷ [] ]

abbrev pub name_numbers : List ℕ → List Group → ℕ → Naming → List ℕ
name_numbers label gs e (named name) = 0 ∷ part_numbers label gs e
name_numbers label gs e (unnamed r) = unnamed_number r ∷ 0 ∷ 0 ∷ 0 ∷ []

abbrev pub name_fields : BrundhalName → List ℕ
name_fields r = r.number ∷ r.grouped ∷ r.start ∷ r.len ∷ []

-- the bytes that these numbers tell
abbrev pub name_told : BrundhalName → List ℕ → List ℕ → List ℕ
name_told r label names = elim (eqb r.grouped 1) [ true ↦ take r.len (drop r.start names) | false ↦ take r.len (drop r.start label) ]

-- On the way to these numbers:
-- a name, by the number that answers, the place and the length of the part that is in force, and the length of the label
abbrev pub part_said : ℕ → ℕ → ℕ → List ℕ
part_said start len label = elim (eqb len 0) [ true ↦ 0 ∷ 0 ∷ label ∷ [] | false ↦ 1 ∷ start ∷ len ∷ [] ]

abbrev pub name_said : ℕ → ℕ → ℕ → ℕ → List ℕ
name_said number start len label = elim (eqb number 0) [ true ↦ 0 ∷ part_said start len label | false ↦ number ∷ 0 ∷ 0 ∷ 0 ∷ [] ]
