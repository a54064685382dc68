-- `put` meets its contract: the two words are those of the number. Assumes nothing.
use Rattle.std.proofs.Common.{◌∙◌, ap, set, to_z-of_z}
use Rattle.inner_exports.specs.Values.{values, values_put}
use Rattle.inner_exports.proofs.put.Goals as goal

pub returns : goal.returns
returns c = values_put c.from-words.result.low c.from-words.result.high c.args.k c.args.out.now c.requires c.told-out ∙ ap (set (values c.args.out.now) c.args.k) (c.from-words.ensures ∙ to_z-of_z c.ranges.x)
