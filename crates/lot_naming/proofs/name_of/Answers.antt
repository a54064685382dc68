-- `name_of` meets its contract: by whether a test failed. Assumes nothing.
use Rattle.std.proofs.Common.{sym, ◌∙◌, ap, Err}
use Rattle.std.proofs.lemmas.Result.{err_from_is_err_and, IfOk-from_err}
use Rattle.lot_format.specs.Format.{lot_file}
use Rattle.lot_format.specs.Naming.{named}
use Rattle.lot_naming.specs.Meaning.{refusal_told, naming_told}
use Rattle.lot_naming.specs.Answers.{zero_named, refused_is, not_refused}
use Rattle.lot_naming.proofs.name_of.Goals as goal

pub returns-in_err-refusal_of : goal.returns-in_err-refusal_of
returns-in_err-refusal_of c =
    let refused = err_from_is_err_and c.from_residual.result c.from_residual.ensures.1 in
    let told = refused_is _ _ (sym (ap refusal_told c.in_err-refusal_of.was) ∙ c.refusal_of.ensures) in
    record { result_value = ap naming_told (refused.1 ∙ ap Err refused.2) ∙ sym told; ref_ptr_value = IfOk-from_err _ _ c.from_residual.ensures.0 }

pub returns : goal.returns
returns c =
    let a = c.args in
    let g = a.groups in
    let passed = not_refused _ (sym (ap refusal_told c.in_ok-refusal_of.was) ∙ c.refusal_of.ensures) in
    let answer = zero_named lot_file a.label.now g.names.now g.lengths.now g.offsets.now a.elements a.element passed in
    record { result_value = ap named c.name_of.ensures.result_value ∙ sym answer; ref_ptr_value = c.name_of.ensures.ref_ptr_value }
