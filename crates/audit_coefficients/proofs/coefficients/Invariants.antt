-- What holds when a turn of the loop of `coefficients` begins: the rows before n stand in their places.
use Rattle.foundation.specs.Filled.{Filled}
use Rattle.foundation.specs.Polynomial.{integers}
use Rattle.definitions.specs.Coefficients.{row, dot}
use Rattle.audit_coefficients.proofs.coefficients.Given as goal

abbrev pub invariant-loop-n : goal.invariant-loop-n
invariant-loop-n l = Filled (λ n. dot integers (row n) l.v) 27 l.n l.out
