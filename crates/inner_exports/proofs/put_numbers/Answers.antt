-- `put_numbers` meets its contract: all 27 stand. Assumes nothing.
use Rattle.std.proofs.Common.{◌≡◌, sym, ◌∙◌, subst, ℕ, get_or, pos, arith, ext_get_or}
use Rattle.foundation.specs.Filled.{Filled, none_filled}
use Rattle.inner_exports.specs.Values.{values, values_length}
use Rattle.inner_exports.proofs.put_numbers.Goals as goal

pub loop-k-init : goal.loop-k-init
loop-k-init c = none_filled _ (values_length c.args.out.now)

pub returns : goal.returns
returns c =
    let e : c.loop-k.k ≡ 27 = omega arith in
    let all = subst (λ (n : ℕ). Filled (λ (i : ℕ). get_or c.args.c.now i (pos 0)) 27 n (values c.loop-k.out)) e c.loop-k.invariant in
    ext_get_or (pos 0) (values c.loop-k.out) c.args.c.now (all.sized ∙ sym c.told-c) (λ i l. all.first i (omega (arith, l, all.sized)))
