-- What holds when a turn of a loop of `add_up` begins: the lengths that are left add up to what is left.
use Rattle.std.proofs.Common.{◌≡◌, ◌+◌, drop}
use Rattle.foundation.specs.Lists.{sum}
use Rattle.lot_groups.proofs.add_up.Given as goal

abbrev pub invariant-loop-length : goal.invariant-loop-length
invariant-loop-length l = sum l.lengths + l.left ≡ l.n + sum (drop l.length-index l.lengths)
