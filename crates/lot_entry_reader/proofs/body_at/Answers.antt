-- `body_at` meets its contract: each return has the test, or the fault, that led to it. Assumes nothing.
use Rattle.std.proofs.Common.{◌≡◌, sym, ◌∙◌, ap, arith, ◌+◌, ◌-◌, ◌≤◌, length, drop, Err}
use Rattle.std.proofs.lemmas.Result.{err_from_is_err_and}
use Rattle.lot_format.specs.Format.{lot_file}
use Rattle.lot_format.specs.Reading.{body_fault}
use Rattle.lot_format.specs.Steps.{body_cut, body_wrong, body_right}
use Rattle.lot_marks.specs.Meaning.{mark_held}
use Rattle.lot_entry_reader.specs.Meaning.{fault_held, entry_held}
use Rattle.lot_entry_reader.proofs.Laws.{length_rest, part_is_body}
use Rattle.lot_entry_reader.proofs.body_at.Goals as goal

pub returns-then-file-start-clause-result_value : goal.returns-then-file-start-clause-result_value
returns-then-file-start-clause-result_value c =
    let h : length (drop 4 (drop c.args.at c.args.file.now)) ≡ length c.args.file.now - (c.args.at + 4) = length_rest c.args.file.now c.args.at 4 in
    sym (body_cut lot_file _ _ _ _ (omega arith))

pub returns-in_err-body_fault-clause-result_value : goal.returns-in_err-body_fault-clause-result_value
returns-in_err-body_fault-clause-result_value c =
    let xs = c.args.file.now in
    let left = length_rest xs c.args.at 4 in
    let room : c.args.len ≤ length (drop 4 (drop c.args.at xs)) = omega (arith, left) in
    let wrong = sym (ap (body_fault lot_file (mark_held c.args.mark) c.args.elements) (part_is_body xs c.args.at c.args.len)) ∙ sym c.body_fault.ensures ∙ ap fault_held c.in_err-body_fault.was in
    let refused = err_from_is_err_and c.from_residual.result c.from_residual.ensures.1 in
    ap (entry_held (drop c.args.at xs)) (refused.1 ∙ ap Err refused.2) ∙ sym (body_wrong lot_file _ _ _ _ _ room wrong)

pub returns-clause-result_value : goal.returns-clause-result_value
returns-clause-result_value c =
    let xs = c.args.file.now in
    let left = length_rest xs c.args.at 4 in
    let room : c.args.len ≤ length (drop 4 (drop c.args.at xs)) = omega (arith, left) in
    let right = sym (ap (body_fault lot_file (mark_held c.args.mark) c.args.elements) (part_is_body xs c.args.at c.args.len)) ∙ sym c.body_fault.ensures ∙ ap fault_held c.in_ok-body_fault.was in
    sym (body_right lot_file _ _ _ _ room right)
