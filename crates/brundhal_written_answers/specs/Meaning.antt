-- The answers of writing as plain numbers, numbered as documents 01 and 02 number them.
use Rattle.std.specs.Prelude.{List, [], ◌∷◌, ℕ, ◌≤◌, length, Result, Ok, Err}
use Rattle.lot_format.specs.Format.{lot_file}
use Rattle.lot_format.specs.Writing.{unwritable_number, Writing, file_of, writing_number}
use Rattle.lot_writer.specs.declared.Unwritable.{Unwritable}
use Rattle.lot_writer.specs.Meaning.{Answer, length_is, refuses}
use Rattle.brundhal_written_answers.specs.declared.BrundhalWritten.{BrundhalWritten}

-- What an answer says: the numbers of the definition's answer, and beside them the fields of the struct, each once and in the same order.
-- the writing of a lot: its number and the file's length
abbrev pub writing_numbers : Writing → List ℕ
writing_numbers w = writing_number w ∷ length (file_of w) ∷ []

abbrev pub written_fields : BrundhalWritten → List ℕ
written_fields r = r.number ∷ r.len ∷ []

-- On the way to these numbers:
-- the numbers of the writer's answer; a file is short, so that its length fits
abbrev pub answer_numbers : Answer → List ℕ
answer_numbers (length_is n) = 0 ∷ n ∷ []
answer_numbers (refuses r) = unwritable_number r ∷ 0 ∷ []

abbrev pub ShortAnswer : Result ℕ Unwritable → Type 0
ShortAnswer (Ok n) = n ≤ lot_file.bytes
ShortAnswer (Err r) = Unit
