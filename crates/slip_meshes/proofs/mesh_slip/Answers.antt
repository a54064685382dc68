-- `mesh_slip` meets its contract: by what the inspection answers. Assumes nothing.
use Rattle.std.proofs.Common.{◌≡◌, sym, ◌∙◌, ap, length, arith}
use Rattle.lot_format.specs.Runs.{lot_from}
use Rattle.lot_runs.specs.Meaning.{lot_held}
use Rattle.slip_format.specs.Slip.{slip_limits, refused_line, mesh_slip}
use Rattle.definitions.specs.Limits.{base}
use Rattle.inspection_counts.specs.Meaning.{counts_held}
use Rattle.inspection_answers.specs.Meaning.{inspection_held, refusal_held}
use Rattle.bytes_output.specs.Behind.{laid_as}
use Rattle.slip_meshes.proofs.Meshes.{slip_refused, slip_inspected}
use Rattle.slip_meshes.proofs.mesh_slip.Goals as goal

pub inspected_slip-requires : goal.inspected_slip-requires
inspected_slip-requires c =
    let e = ap length (slip_inspected (lot_from (lot_held c.args.lot)) c.args.report.now c.requires.elements_len_bound.1 (counts_held c.in-Ok.counts) c.inspect.new.report (sym (ap inspection_held c.in-Ok.is) ∙ c.inspect.ensures.result_value) c.inspect.ensures.report_after) in
    record { record_words_len_bound = omega (arith, c.requires.elements_len_bound, c.inspect.auto); counts_in_bounds = omega (arith, c.requires.offsets_in_bounds) }

-- the slip of a lot whose mesh is refused
told : (c : goal.After-from) → refused_line c.from.result ≡ mesh_slip base slip_limits.depth (lot_from (lot_held c.args.lot))
told c = ap refused_line c.from.ensures ∙ slip_refused (lot_from (lot_held c.args.lot)) c.args.report.now c.requires.elements_len_bound.1 (refusal_held c.in-Err.refusal) (sym (ap inspection_held c.in-Err.is) ∙ c.inspect.ensures.result_value)

pub refused_line-requires : goal.refused_line-requires
refused_line-requires c = let e = ap length (told c) in omega (arith, c.requires.offsets_in_bounds)

pub returns-in-Ok : goal.returns-in-Ok
returns-in-Ok c = laid_as (slip_inspected (lot_from (lot_held c.args.lot)) c.args.report.now c.requires.elements_len_bound.1 (counts_held c.in-Ok.counts) c.inspect.new.report (sym (ap inspection_held c.in-Ok.is) ∙ c.inspect.ensures.result_value) c.inspect.ensures.report_after) c.inspected_slip.ensures

pub returns-in-Err : goal.returns-in-Err
returns-in-Err c = laid_as (told c.before) c.refused_line.ensures
