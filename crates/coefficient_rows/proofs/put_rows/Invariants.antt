-- What holds when a turn of the loop of `put_rows` begins.
use Rattle.coefficient_rows.specs.Rows.{FirstRows}
use Rattle.coefficient_rows.proofs.put_rows.Given as goal

abbrev pub invariant-loop-n : goal.invariant-loop-n
invariant-loop-n l = FirstRows l.v l.n l.out
