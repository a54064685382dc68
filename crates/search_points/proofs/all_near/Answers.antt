-- `search_points::all_near` meets its contract: at the end all 24 are known of. Assumes nothing.
use Rattle.std.proofs.Common.{◌≡◌, ◌∙◌, ap, arith}
use Rattle.cell_points.specs.OneWord.{near_to}
use Rattle.search_points.proofs.all_near.Goals as goal

pub returns : goal.returns
returns c = let done : c.loop-x.x-index ≡ 24 = omega (arith, c.told-p, c.loop-x.auto.x-index-end) in c.loop-x.invariant ∙ ap (near_to c.args.p.now) done
