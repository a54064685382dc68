-- What holds when a turn of a loop of `part_in_force` begins: how far the search has come.
use Rattle.std.proofs.Common.{length}
use Rattle.lot_group_names.proofs.Names.{Found}
use Rattle.lot_group_names.proofs.part_in_force.Given as goal

abbrev pub invariant-loop-length : goal.invariant-loop-length
invariant-loop-length l = Found l.groups.names.now l.groups.lengths.now l.groups.offsets.now l.element l.part.start l.part.len l.at (length l.yielded)
