-- `search_points::bounds` meets its contract: by the numbers that suffice; one word's bounds are the same in two. Assumes nothing.
use Rattle.std.proofs.Common.{sym, ◌∙◌, rules}
use Rattle.cell_points.specs.OneWord.{one_word_holds}
use Rattle.search_points.proofs.bounds.Goals as goal

pub bounds-r-requires : goal.bounds-r-requires
bounds-r-requires c = (search rules, one_word_holds c.args.p.now c.args.depth c.told-p (sym c.one_word.ensures ∙ c.if-one_word.true))
