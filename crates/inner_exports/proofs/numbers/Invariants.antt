-- What holds when a turn of the loop of `numbers` begins: the first k numbers stand.
use Rattle.foundation.specs.Filled.{Filled}
use Rattle.inner_exports.specs.Values.{number_at}
use Rattle.inner_exports.proofs.numbers.Given as goal

abbrev pub invariant-loop-k : goal.invariant-loop-k
invariant-loop-k l = Filled (number_at l.c) 27 l.k l.out
