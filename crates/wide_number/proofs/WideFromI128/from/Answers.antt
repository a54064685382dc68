-- `Wide::from` of a number of 128 bits meets its contract: the words of its bits. Assumes nothing.
use Rattle.std.proofs.Common.{ap, ◌∙◌, of_z, to_z-of_z}
use mir.Syntax.{w128}
use Rattle.wide_number.proofs.Bits.{words_of_bits}
use Rattle.wide_number.proofs.WideFromI128.from.Goals as goal

pub returns : goal.returns
returns c = words_of_bits c.args.x c.ranges.x (c.cast_unsigned-bits.ensures ∙ ap (of_z w128) (to_z-of_z c.ranges.x))
