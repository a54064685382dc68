-- What holds when a turn of the loop of `row` begins: the terms behind k are summed.
use Rattle.foundation.specs.Words.{args}
use Rattle.audit_coefficients.specs.Rows.{Summed, entry_of}
use Rattle.audit_coefficients.proofs.row.Given as goal

abbrev pub invariant-loop-k : goal.invariant-loop-k
invariant-loop-k l = Summed (entry_of l.table l.n) (args l.v) l.k l.sum
