-- `read` meets its contract: by what the scan of the file found. Assumes nothing.
use Rattle.std.proofs.Common.{refl, sym, ◌∙◌, ap, arith, ℕ, ◌+◌, Err}
use Rattle.std.proofs.lemmas.Result.{err_from_is_err_and, IfOk-from_err}
use Rattle.lot_format.specs.NumberLaws.{bytes_by_place}
use Rattle.lot_format.specs.Reading.{reading_numbers}
use Rattle.lot_runs.specs.Meaning.{space_held}
use Rattle.lot_scan.specs.Meaning.{scan_held}
use Rattle.lot_scan.specs.Scans.{scan_fails}
use Rattle.lot_reader.specs.Meaning.{label_told, numbers_told}
use Rattle.lot_reader.specs.Promise.{read_over}
use Rattle.lot_reader.proofs.Answers.{over_same, read_handable, read_same, read_numbers, read_place, label_is, label_there}
use Rattle.lot_reader.proofs.read.Goals as goal

pub hand_out-requires : goal.hand_out-requires
hand_out-requires c = read_handable _ _ _ (sym (ap scan_held c.in_ok-n.was) ∙ c.scan_with_room.ensures.result_value)

pub slice_bounds-result-end : goal.slice_bounds-result-end
slice_bounds-result-end c = label_there _ _ _ (sym (ap scan_held c.in_ok-n.was) ∙ c.scan_with_room.ensures.result_value) (bytes_by_place c.args.file.now (λ i. omega (arith, c.type_inv.file i)))

pub returns-in_err-n : goal.returns-in_err-n
unfolding reading_numbers
returns-in_err-n c =
    let failed = scan_fails (read_over c.args.file.now (space_held c.args.space.now)) (sym (ap scan_held c.in_err-n.was) ∙ c.scan_with_room.ensures.result_value) in
    let refused = err_from_is_err_and c.from_residual.result c.from_residual.ensures.1 in
    let is = refused.1 ∙ ap Err refused.2 in
    rw failed (record { label = ap label_told is; numbers = ap numbers_told is; lent = record { nodes_after = refl; elements_after = refl; names_after = refl; lengths_after = refl; offsets_after = refl }; kept = record { nodes = refl; elements = refl; names = refl; lengths = refl; offsets = refl }; ref_ptr_value = IfOk-from_err _ _ c.from_residual.ensures.0 })

pub returns : goal.returns
returns c =
    let told = sym (ap scan_held c.in_ok-n.was) ∙ c.scan_with_room.ensures.result_value in
    record {
      label = label_is _ _ _ told (bytes_by_place c.args.file.now (λ i. omega (arith, c.type_inv.file i)));
      numbers = read_numbers _ _ _ told;
      lent = over_same (read_same _ _ _ told) c.hand_out.ensures.over;
      kept = c.hand_out.ensures.kept;
      ref_ptr_value = ap (λ (k : ℕ). (c.args.file.ref_ptr.0, k + c.args.file.ref_ptr.1)) (sym (read_place _ _ _ told));
    }
