-- `put` meets its contract. The loop's invariant: the first `k` bytes are laid over the lent space. Assumes nothing.
use Rattle.std.proofs.Common.{◌≡◌, refl, ◌∙◌, ap, arith, ◌+◌, ◌<◌, length}
use lib.Seq.{paste, paste-zero}
use Rattle.foundation.specs.Laid.{paste_next, paste_all}
use Rattle.bytes_output.proofs.put.Goals as goal

pub loop-k-init : goal.loop-k-init
loop-k-init c = paste-zero c.args.space.now c.args.at c.args.xs.now

pub loop-k-preserved : goal.loop-k-preserved
loop-k-preserved c =
    let k = c.loop-k.k in
    let far : c.args.at + k < length c.args.space.now = omega arith in
    let near : k < length c.args.xs.now = omega arith in
    paste_next c.args.space.now c.loop-k.space c.args.xs.now c.args.at k _ 0 far near c.loop-k.invariant refl

pub returns : goal.returns
returns c = let done : c.loop-k.k ≡ length c.args.xs.now = omega arith in
    c.loop-k.invariant ∙ ap (paste c.args.space.now c.args.at c.args.xs.now) done ∙ paste_all c.args.space.now c.args.xs.now c.args.at
