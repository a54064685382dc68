-- What holds when a turn of the loop of `put_numbers` begins: the first k numbers stand.
use Rattle.std.proofs.Common.{ℕ, get_or, pos}
use Rattle.foundation.specs.Filled.{Filled}
use Rattle.inner_exports.specs.Values.{values}
use Rattle.inner_exports.proofs.put_numbers.Given as goal

abbrev pub invariant-loop-k : goal.invariant-loop-k
invariant-loop-k l = Filled (λ (i : ℕ). get_or l.c i (pos 0)) 27 l.k (values l.out)
