-- What the code's answers stand for in the definitions of the lot file.
use Rattle.std.specs.Prelude.{List, ℕ, ◌+◌, ◌≤◌, length, take, drop, Result, Ok, Err}
use Rattle.std.proofs.Math.Option.{Option, none, some}
use Rattle.lot_format.specs.Reading.{Unreadable as FileUnreadable, too_long, cut_short, unknown_mark, wrong_length, out_of_place, bad_byte, too_many_elements, no_room, Entry as FileEntry, faulty_entry, whole_entry}
use Rattle.lot_entry_reader.specs.declared.Unreadable.{Unreadable}
use Rattle.lot_entry_reader.specs.declared.Unreadable.TheVariants.{TooLong, CutShort, UnknownMark, WrongLength, OutOfPlace, BadByte, TooManyElements, NoRoom}
use Rattle.lot_marks.specs.Meaning.{mark_held}
use Rattle.lot_entry_reader.specs.declared.Entry.{Entry}

abbrev pub unreadable_held : Unreadable → FileUnreadable
unreadable_held TooLong = too_long
unreadable_held CutShort = cut_short
unreadable_held UnknownMark = unknown_mark
unreadable_held WrongLength = wrong_length
unreadable_held OutOfPlace = out_of_place
unreadable_held BadByte = bad_byte
unreadable_held TooManyElements = too_many_elements
unreadable_held NoRoom = no_room

abbrev pub fault_held : Result Unit Unreadable → Option FileUnreadable
fault_held (Ok u) = none
fault_held (Err r) = some (unreadable_held r)

-- an entry found in front of the bytes that are left: the body starts past its first four
abbrev pub entry_held : List ℕ → Result Entry Unreadable → FileEntry
entry_held bytes (Err r) = faulty_entry (unreadable_held r)
entry_held bytes (Ok e) = whole_entry (mark_held e.mark) (take e.len (drop 4 bytes))

-- and it ends before they do
abbrev pub Within : List ℕ → Result Entry Unreadable → Type 0
Within bytes (Err r) = Unit
Within bytes (Ok e) = 4 + e.len ≤ length bytes
