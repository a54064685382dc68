-- `inspected_slip` meets its contract: part by part, what is left of the slip. Assumes nothing.
use Rattle.std.proofs.Common.{sym, ap, List, [], ◌∷◌, ◌++◌, ℕ, ◌/◌, length}
use Rattle.definitions.specs.Limits.{record_words}
use Rattle.definitions.specs.Mesh.{Stamp, stamp_of}
use Rattle.lot_runs.specs.Meaning.{groups_held}
use Rattle.slip_format.specs.Slip.{line, word_lot, word_stamp, stamp_word, element_lines, tally_line}
use Rattle.inspection_counts.specs.Meaning.{counts_held}
use Rattle.bytes_output.specs.Progress.{first, last, laid_none, laid_more, laid_last}
use Rattle.slip_parts.proofs.inspected_slip.Goals as goal

pub returns : goal.returns
returns c =
    let label = c.args.label.now in
    let report = c.args.report.now in
    let counts = counts_held c.args.counts in
    let top : List ℕ = line word_lot (label ∷ []) in
    let middle : List ℕ = element_lines label (groups_held c.args.groups) record_words 0 (length report / record_words) report in
    let tally : List ℕ = tally_line counts in
    let stamp : List ℕ = line word_stamp (stamp_word (stamp_of counts) ∷ []) in
    let begun = laid_none c.args.out.now c.requires.counts_in_bounds in
    let behind_label = laid_more begun (first top (middle ++ (tally ++ stamp))) c.lot_line.ensures in
    let behind_elements = laid_more behind_label (first middle (tally ++ stamp)) c.element_lines.ensures in
    let behind_tally = laid_more behind_elements (first tally stamp) c.tally_line.ensures in
    let stamp_last = last (ap (λ (x : Stamp). line word_stamp (stamp_word x ∷ [])) (sym c.stamp_of.ensures)) in
    laid_last behind_tally stamp_last c.stamp_line.ensures
