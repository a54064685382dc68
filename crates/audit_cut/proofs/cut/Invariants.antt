-- What holds when a turn of the loop of `cut` begins: the first j rows of both halves are there.
use Rattle.audit_cut.specs.Direction.{axis}
use Rattle.audit_cut.specs.Rows.{BothHeld}
use Rattle.audit_cut.proofs.cut.Given as goal

abbrev pub invariant-loop-j : goal.invariant-loop-j
invariant-loop-j l = BothHeld (axis l.d) l.j l.c l.lower l.upper
