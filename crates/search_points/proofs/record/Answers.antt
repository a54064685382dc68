-- `search_points::record` meets its contract: by the numbers that suffice. Assumes nothing.
use Rattle.std.proofs.Common.{sym, ◌∙◌, rules}
use Rattle.cell_points.specs.OneWord.{one_word_holds}
use Rattle.search_points.proofs.record.Goals as goal

pub record-requires : goal.record-requires
record-requires c = (search rules, one_word_holds c.args.p.now c.args.depth c.told-p (sym c.one_word.ensures ∙ c.if-one_word.true))
