-- `numbers` meets its contract: all 27 stand. Assumes nothing.
use Rattle.std.proofs.Common.{◌≡◌, subst, ℕ, arith}
use Rattle.foundation.specs.Filled.{Filled, all_filled}
use Rattle.inner_exports.specs.Values.{number_at, values}
use Rattle.inner_exports.proofs.numbers.Goals as goal

pub returns : goal.returns
unfolding values
returns c = let e : c.loop-k.k ≡ 27 = omega arith in all_filled _ (subst (λ (n : ℕ). Filled (number_at c.args.c.now) 27 n c.loop-k.out) e c.loop-k.invariant)
