-- `cut` meets its contract: all nine rows of both halves. Assumes nothing.
use mathlib.Core.Path.{◌≡◌, subst}
use Prim.Native.Nat.{ℕ}
use native.Mathlib.Omega.{arith}
use Rattle.audit_cut.specs.Direction.{axis, axis_less}
use Rattle.audit_cut.specs.Rows.{BothHeld, none_yet, both_halves}
use Rattle.audit_cut.proofs.cut.Goals as goal

pub loop-j-init : goal.loop-j-init
loop-j-init c = none_yet (axis c.args.d) c.requires (omega arith) (omega arith)

pub cut_row-requires : goal.cut_row-requires
cut_row-requires c = (omega (arith, c.loop-j-test.true), c.loop-j.invariant)

pub returns : goal.returns
returns c = let e : c.loop-j.j ≡ 9 = omega (arith, c.loop-j-test.false, c.loop-j.auto.j-end) in
    both_halves (axis c.args.d) (axis_less c.args.d) (subst (λ (j : ℕ). BothHeld (axis c.args.d) j c.args.c.now c.loop-j.lower c.loop-j.upper) e c.loop-j.invariant)
