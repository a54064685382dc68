-- What the code's answers stand for in the definition of naming.
use Rattle.std.specs.Prelude.{List, ℕ, Result, Ok, Err}
use Rattle.std.proofs.Common.{Bor}
use Rattle.std.proofs.Math.Option.{Option, none, some}
use Rattle.lot_format.specs.Format.{FileLimits}
use Rattle.lot_format.specs.Naming.{Unnamed as FileUnnamed, groups_apart, name_too_long, bad_byte, no_such_element, unnamed_number, Naming, named, unnamed, naming}
use Rattle.lot_runs.specs.declared.Groups.{Groups}
use Rattle.lot_groups.specs.declared.GroupFault.{GroupFault}
use Rattle.lot_groups.specs.declared.GroupFault.TheVariants as fault
use Rattle.lot_naming.specs.declared.Unnamed.{Unnamed}
use Rattle.lot_naming.specs.declared.Unnamed.TheVariants.{GroupsApart, NameTooLong, BadByte, NoSuchElement}

-- the naming by groups that are handed in
abbrev pub naming_of : FileLimits → List ℕ → Groups → ℕ → ℕ → Naming
naming_of F label g elements e = naming F label g.names.now g.lengths.now g.offsets.now elements e

-- the refusal for a fault of the label or the groups
abbrev pub unnamed_of : GroupFault → Unnamed
unnamed_of fault.Apart = GroupsApart
unnamed_of fault.NameTooLong = NameTooLong
unnamed_of fault.BadByte = BadByte

abbrev pub unnamed_held : Unnamed → FileUnnamed
unnamed_held GroupsApart = groups_apart
unnamed_held NameTooLong = name_too_long
unnamed_held BadByte = bad_byte
unnamed_held NoSuchElement = no_such_element

-- why there is no name, if there is none
abbrev pub refusal_in : Naming → Option FileUnnamed
refusal_in (named name) = none
refusal_in (unnamed r) = some r

abbrev pub refusal_told : Result Unit Unnamed → Option FileUnnamed
refusal_told (Ok u) = none
refusal_told (Err r) = some (unnamed_held r)

-- the number that answers
abbrev pub number_told : Result Unit Unnamed → ℕ
number_told (Ok u) = 0
number_told (Err r) = unnamed_number (unnamed_held r)

-- the name, or why there is none
abbrev pub naming_told : Result (Bor (List ℕ)) Unnamed → Naming
naming_told (Ok name) = named name.now
naming_told (Err r) = unnamed (unnamed_held r)
