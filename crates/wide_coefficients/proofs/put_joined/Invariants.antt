-- What holds when a turn of the loop of `put_joined` begins.
use Rattle.foundation.specs.Filled.{Filled}
use Rattle.wide_coefficients.specs.Joined.{join_at}
use Rattle.wide_coefficients.proofs.put_joined.Given as goal

abbrev pub invariant-loop-k : goal.invariant-loop-k
invariant-loop-k l = Filled (join_at l.high l.low) 27 l.k l.out
