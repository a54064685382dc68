-- What the answer of the tests stands for in the definition of groups.
use Rattle.std.specs.Prelude.{List, ℕ, Result, Ok, Err}
use Rattle.std.proofs.Math.Option.{Option, none, some}
use Rattle.lot_format.specs.Format.{lot_file}
use Rattle.lot_format.specs.Groups.{first_failed, group_tests}
use Rattle.lot_runs.specs.declared.Groups.{Groups}
use Rattle.lot_groups.specs.declared.GroupFault.{GroupFault}
use Rattle.lot_groups.specs.declared.GroupFault.TheVariants.{Apart, NameTooLong, BadByte}

-- the first test that fails of a label and groups that are handed in, where there are so many elements
abbrev pub first_fault : List ℕ → Groups → ℕ → Option GroupFault
first_fault label g elements = first_failed (group_tests Apart NameTooLong BadByte lot_file label g.names.now g.lengths.now g.offsets.now elements)

abbrev pub fault_told : Result Unit GroupFault → Option GroupFault
fault_told (Ok u) = none
fault_told (Err r) = some r
