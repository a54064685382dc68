-- What holds when a turn of the loop of `split` begins.
use Rattle.foundation.specs.Filled.{Filled}
use Rattle.wide_coefficients.specs.Joined.{digit_at}
use Rattle.wide_coefficients.proofs.split.Given as goal

abbrev pub invariant-loop-k : goal.invariant-loop-k
invariant-loop-k l = Filled (λ i. (digit_at l.digits i).0) 20 l.k l.high × Filled (λ i. (digit_at l.digits i).1) 20 l.k l.low
