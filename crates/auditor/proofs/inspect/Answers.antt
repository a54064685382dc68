-- `auditor::inspect` meets its contract: by what refuses the mesh. Assumes nothing.
use Rattle.std.proofs.Common.{sym, ap, ◌∙◌, length}
use Rattle.std.proofs.lemmas.Result.{err_from_is_err_and}
use Rattle.definitions.specs.Limits.{base}
use Rattle.mesh_checks.specs.Meaning.{check_of}
use Rattle.mesh_checks.specs.Refusals.{accepted_mesh}
use Rattle.inspection_answers.specs.Answers.{refused_both, accepted_both}
use Rattle.auditor.proofs.inspect.Goals as goal

pub write_records-requires : goal.write_records-requires
write_records-requires c =
    let a = accepted_mesh base (length c.args.coordinates.now) (length c.args.indices.now) (length c.args.report.now) c.args.depth (sym c.check.ensures ∙ ap check_of c.in_ok-check.was) in
    record { indices_len = (a.eights, a.elements, a.room); depth_le_depth = a.depth }

pub returns : goal.returns
returns c =
    let both = accepted_both base c.args.coordinates.now c.args.indices.now c.args.report.now c.args.depth (sym c.check.ensures ∙ ap check_of c.in_ok-check.was) c.write_records.ensures.result_value c.write_records.ensures.report_after in
    record { result_value = both.0; report_after = both.1 }

pub returns-in_err-check : goal.returns-in_err-check
returns-in_err-check c =
    let told = err_from_is_err_and c.from_residual.result c.from_residual.ensures.1 in
    let both = refused_both base c.args.coordinates.now c.args.indices.now c.args.report.now c.args.depth _ (sym c.check.ensures ∙ ap check_of c.in_err-check.was) in
    record { result_value = rw (told.1, told.2) both.0; report_after = both.1 }
