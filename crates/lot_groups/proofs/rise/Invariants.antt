-- What holds when a turn of a loop of `rise` begins: the counts rise if those that are left do, from the last one on.
use Rattle.std.proofs.Common.{◌≡◌, drop}
use Rattle.lot_format.specs.Groups.{rising}
use Rattle.lot_groups.proofs.rise.Given as goal

abbrev pub invariant-loop-offset : goal.invariant-loop-offset
invariant-loop-offset l = rising 0 l.n l.offsets ≡ rising l.low l.n (drop l.offset-index l.offsets)
