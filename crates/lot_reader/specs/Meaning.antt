-- What the code's answer tells: the label and the five numbers of the definition's answer.
use Rattle.std.specs.Prelude.{List, [], ◌∷◌, ℕ, Result, Ok, Err}
use Rattle.lot_format.specs.Reading.{unreadable_number}
use Rattle.lot_entry_reader.specs.declared.Unreadable.{Unreadable}
use Rattle.lot_entry_reader.specs.Meaning.{unreadable_held}
use Rattle.lot_reader.specs.declared.Contents.{Contents}

abbrev pub label_told : Result Contents Unreadable → List ℕ
label_told (Ok c) = c.label.now
label_told (Err r) = []

-- the number 0 with the counts of nodes, elements, groups and bytes of their names, or the refusal's number with counts 0
abbrev pub numbers_told : Result Contents Unreadable → List ℕ
numbers_told (Ok c) = 0 ∷ c.nodes ∷ c.elements ∷ c.groups ∷ c.names ∷ []
numbers_told (Err r) = unreadable_number (unreadable_held r) ∷ 0 ∷ 0 ∷ 0 ∷ 0 ∷ []
