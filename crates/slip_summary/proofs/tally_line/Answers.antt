-- `tally_line` meets its contract: part by part, what is left of the line. Assumes nothing.
use Rattle.std.proofs.Common.{refl, ap, ◌≡◌, ℕ, List, [], ◌∷◌}
use Rattle.definitions.specs.Mesh.{Counts}
use Rattle.inspection_counts.specs.Meaning.{counts_held}
use Rattle.slip_format.specs.Decimal.{decimal}
use Rattle.slip_format.specs.Slip.{word_tally, tally_line}
use Rattle.bytes_output.specs.declared.Output.{Output}
use Rattle.bytes_output.specs.Behind.{Room, Laid, laid_as}
use Rattle.bytes_output.specs.Progress.{Progress, first, last, laid_none, part_fits, laid_more, laid_last}
use Rattle.slip_lines.specs.Spaced.{ending, next_word}
use Rattle.slip_summary.proofs.tally_line.Goals as goal

-- what is left behind the word, and behind each number
module _ (n : Counts) (start : Output) (room : Room start (tally_line n)) where
  begun : {behind : Output} → Laid start word_tally behind → Progress start (tally_line n) (ending (decimal n.valid ∷ decimal n.invalid ∷ decimal n.undecided ∷ decimal n.refused ∷ [])) behind
  begun word = laid_more (laid_none start room) (first word_tally (ending (decimal n.valid ∷ decimal n.invalid ∷ decimal n.undecided ∷ decimal n.refused ∷ []))) word

  more : {before after : Output} {k : ℕ} (m : ℕ) (rest : List (List ℕ)) → k ≡ m → Progress start (tally_line n) (ending (decimal m ∷ rest)) before → Laid before (32 ∷ decimal k) after → Progress start (tally_line n) (ending rest) after
  more m rest same due laid = laid_more due (next_word (decimal m) rest) (laid_as (ap (λ (j : ℕ). 32 ∷ decimal j) same) laid)

pub byte-requires : goal.byte-requires
byte-requires c =
    let n = counts_held c.args.n in
    let start = c.args.out.now in
    let behind_word = begun n start c.requires c.bytes.ensures in
    let behind_valid = more n start c.requires n.valid (decimal n.invalid ∷ decimal n.undecided ∷ decimal n.refused ∷ []) c.from.ensures behind_word c.number.ensures in
    let behind_invalid = more n start c.requires n.invalid (decimal n.undecided ∷ decimal n.refused ∷ []) c.from-2.ensures behind_valid c.number-2.ensures in
    let behind_undecided = more n start c.requires n.undecided (decimal n.refused ∷ []) c.from-3.ensures behind_invalid c.number-3.ensures in
    let behind_refused = more n start c.requires n.refused [] c.from-4.ensures behind_undecided c.number-4.ensures in
    part_fits behind_refused (last refl)

pub returns : goal.returns
returns c =
    let n = counts_held c.args.n in
    let start = c.args.out.now in
    let behind_word = begun n start c.requires c.bytes.ensures in
    let behind_valid = more n start c.requires n.valid (decimal n.invalid ∷ decimal n.undecided ∷ decimal n.refused ∷ []) c.from.ensures behind_word c.number.ensures in
    let behind_invalid = more n start c.requires n.invalid (decimal n.undecided ∷ decimal n.refused ∷ []) c.from-2.ensures behind_valid c.number-2.ensures in
    let behind_undecided = more n start c.requires n.undecided (decimal n.refused ∷ []) c.from-3.ensures behind_invalid c.number-3.ensures in
    let behind_refused = more n start c.requires n.refused [] c.from-4.ensures behind_undecided c.number-4.ensures in
    laid_last behind_refused (last refl) c.byte.ensures
