-- What holds when a turn of the loop of `lowest_number` begins: the coefficients from k on have been looked at.
use Rattle.audit_notes.specs.Notes.{Looked}
use Rattle.audit_notes.proofs.lowest_number.Given as goal

abbrev pub invariant-loop-k : goal.invariant-loop-k
invariant-loop-k l = Looked l.g l.k l.number
