-- `inspection_counts::stamp_of` meets its contract: its two tests are the definition's. Assumes nothing.
use mathlib.Core.Path.{refl, sym}
use mathlib.Core.Bool.{true, false}
use Rattle.inspection_counts.specs.Meaning.{counts_held}
use Rattle.inspection_counts.specs.Answers.{stamp_is}
use Rattle.inspection_counts.proofs.stamp_of.Goals as goal

pub returns-then-n : goal.returns-then-n
returns-then-n c = sym (stamp_is (counts_held c.args.n) true _ c.if-n.true refl)

pub returns : goal.returns
returns c = sym (stamp_is (counts_held c.args.n) false false c.if-n.false c.if-n-2.false)

pub returns-then-n-2 : goal.returns-then-n-2
returns-then-n-2 c = sym (stamp_is (counts_held c.args.n) false true c.if-n.false c.if-n-2.true)
