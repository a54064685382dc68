-- `stamp_line` meets its contract: part by part, what is left of the line. Assumes nothing.
use Rattle.std.proofs.Common.{refl, [], ◌∷◌}
use Rattle.slip_format.specs.Slip.{word_stamp, stamp_word}
use Rattle.inspection_counts.specs.Meaning.{stamp_held}
use Rattle.bytes_output.specs.Progress.{first, last, laid_none, laid_more, laid_last}
use Rattle.slip_lines.specs.Spaced.{ending, next_word}
use Rattle.slip_summary.proofs.stamp_line.Goals as goal

pub returns : goal.returns
returns c =
    let stamp = stamp_word (stamp_held c.args.stamp) in
    let behind_word = laid_more (laid_none c.args.out.now c.requires) (first word_stamp (ending (stamp ∷ []))) c.bytes.ensures in
    let behind_stamp = laid_more behind_word (next_word stamp []) c.stamp_word.ensures in
    laid_last behind_stamp (last refl) c.byte.ensures
