-- What holds when a turn of the loop of `put` begins: the first k bytes are laid over the lent space.
use Rattle.std.proofs.Common.{◌≡◌}
use lib.Seq.{paste}
use Rattle.bytes_output.proofs.put.Given as goal

abbrev pub invariant-loop-k : goal.invariant-loop-k
invariant-loop-k l = l.space ≡ paste l.initial.space l.at l.xs l.k
