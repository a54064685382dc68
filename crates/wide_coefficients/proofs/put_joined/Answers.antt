-- All 27 stand in their places.
use mathlib.Core.Path.{◌≡◌, subst}
use Prim.Native.Nat.{ℕ}
use native.Mathlib.Omega.{arith}
use Rattle.foundation.specs.Filled.{Filled, all_filled}
use Rattle.wide_coefficients.specs.Joined.{join_at}
use Rattle.wide_coefficients.proofs.put_joined.Goals as goal

pub returns : goal.returns
returns c = let join : ℕ → _ = join_at c.args.high.now c.args.low.now in let e : c.loop-k.k ≡ 27 = omega arith in
    all_filled _ (subst (λ (n : ℕ). Filled join 27 n c.loop-k.out) e c.loop-k.invariant)
