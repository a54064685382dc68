-- What the writer's answers stand for in the definitions of the lot file.
use Rattle.std.specs.Prelude.{List, ℕ, min, length, Result, Ok, Err, ℤ}
use Rattle.lot_format.specs.Runs.{Runs}
use Rattle.lot_format.specs.Writing.{Unwritable as FileUnwritable, partial_node, partial_element, groups_apart, name_too_long, bad_byte, too_many_elements, too_long, no_room, Writing, file, unwritten}
use Rattle.lot_groups.specs.declared.GroupFault.{GroupFault}
use Rattle.lot_groups.specs.declared.GroupFault.TheVariants as fault
use Rattle.lot_writer.specs.declared.Unwritable.{Unwritable}
use Rattle.lot_writer.specs.declared.Unwritable.TheVariants.{PartialNode, PartialElement, GroupsApart, NameTooLong, BadByte, TooManyElements, TooLong, NoRoom}

-- the runs that are handed in
abbrev pub runs : List ℕ → List ℤ → List ℕ → List ℕ → List ℕ → List ℕ → Runs
runs label nodes elements names lengths offsets = record { label = label; nodes = nodes; elements = elements; names = names; lengths = lengths; offsets = offsets }

-- the refusal for a fault of the label or the groups
abbrev pub unwritable_of : GroupFault → Unwritable
unwritable_of fault.Apart = GroupsApart
unwritable_of fault.NameTooLong = NameTooLong
unwritable_of fault.BadByte = BadByte

abbrev pub unwritable_held : Unwritable → FileUnwritable
unwritable_held PartialNode = partial_node
unwritable_held PartialElement = partial_element
unwritable_held GroupsApart = groups_apart
unwritable_held NameTooLong = name_too_long
unwritable_held BadByte = bad_byte
unwritable_held TooManyElements = too_many_elements
unwritable_held TooLong = too_long
unwritable_held NoRoom = no_room

-- The answer: how many bytes were written, or why none was.
pub data Answer : Type 0 where
  length_is : ℕ → Answer
  refuses : FileUnwritable → Answer

abbrev pub written_held : Result ℕ Unwritable → Answer
written_held (Ok n) = length_is n
written_held (Err r) = refuses (unwritable_held r)

abbrev pub answer_of : Writing → Answer
answer_of (file bytes) = length_is (length bytes)
answer_of (unwritten r) = refuses r

-- a length as far as 65,536 and one more
abbrev pub capped : ℕ → ℕ
capped n = min n 65537
