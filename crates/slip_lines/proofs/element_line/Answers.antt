-- `element_line` meets its contract: part by part, what is left of the line. Assumes nothing.
use Rattle.std.proofs.Common.{refl, ap, ◌≡◌, ◌∙◌, [], ◌∷◌, map, ℕ, suc, ◌+◌, add-one, arith}
use Rattle.bytes_output.specs.Behind.{laid_as}
use Rattle.bytes_output.specs.Progress.{first, last, laid_none, laid_more, laid_last}
use Rattle.slip_format.specs.Decimal.{decimal, signed_decimal}
use Rattle.slip_lines.specs.Spaced.{spaced, ending, next_word}
use Rattle.slip_lines.proofs.element_line.Goals as goal

pub returns : goal.returns
returns c =
    let element = c.args.element in
    let name = c.args.name.now in
    let words = map signed_decimal c.args.ws.now in
    let count : c.from.result + 1 ≡ suc element = omega (arith, c.from.ensures) in
    let begun = laid_none c.args.out.now c.requires in
    let behind_number = laid_more begun (first (decimal (suc element)) (ending (name ∷ words))) (laid_as (ap decimal count) c.decimal.ensures) in
    let behind_name = laid_more behind_number (next_word name words) c.word.ensures in
    let behind_words = laid_more behind_name (first (spaced words) (10 ∷ [])) c.words.ensures in
    laid_last behind_words (last refl) c.byte.ensures
