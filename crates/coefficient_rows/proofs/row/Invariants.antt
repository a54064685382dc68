-- What holds when a turn of the loop of `row` begins.
use Rattle.coefficient_rows.specs.Sums.{Summed}
use Rattle.coefficient_rows.proofs.row.Given as goal

abbrev pub invariant-loop-column : goal.invariant-loop-column
invariant-loop-column l = Summed l.v l.column-items l.column-index l.sum
