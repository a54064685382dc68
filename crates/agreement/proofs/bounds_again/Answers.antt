-- `agreement::bounds_again` meets its contract: of both bounds by their words, of a refusal by its case. Assumes nothing.
use Rattle.std.proofs.Common.{sym, ap, ◌∙◌, Err, arith}
use Rattle.std.proofs.lemmas.Result.{err_from_is_err_and}
use Rattle.inspection_answers.specs.Back.{both_back, refused_back}
use Rattle.agreement.proofs.bounds_again.Goals as goal

pub returns-in_err-low : goal.returns-in_err-low
returns-in_err-low c =
    let told = err_from_is_err_and c.from_residual.result c.from_residual.ensures.1 in
    let same = told.1 ∙ ap (λ r. Err r) told.2 in
    (same ∙ refused_back c.in_err-low.was, same ∙ sym c.in_err-low.was)

pub returns : goal.returns
returns c =
    (both_back _ _ (record { low_word_fits = omega arith; high_word_fits = omega arith }) (record { low_word_fits = omega arith; high_word_fits = omega arith }) c.in_ok-low.was, sym c.in_ok-low.was)
