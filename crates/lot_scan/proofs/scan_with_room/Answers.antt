-- `scan_with_room` meets its contract: the scan of the file, and then the test of the lent runs. Assumes nothing.
use Rattle.std.proofs.Common.{sym, ◌∙◌, ap, subst, Err}
use Rattle.std.proofs.lemmas.Result.{err_from_is_err_and}
use Rattle.lot_format.specs.Format.{lot_file}
use Rattle.lot_format.specs.Steps.{reading_refused, reading_full, reading_fits}
use Rattle.lot_runs.specs.Meaning.{room_held}
use Rattle.lot_scan.specs.Meaning.{scan_held, scan_of, Few}
use Rattle.lot_scan.specs.Scans.{scan_fails, scan_holds, room_same}
use Rattle.lot_scan.proofs.scan_with_room.Goals as goal

pub returns-then-has_room : goal.returns-then-has_room
returns-then-has_room c =
    let told = c.in_ok-found.was in
    let look = c.scan_file.ensures in
    let held = scan_holds _ (sym (ap scan_held told) ∙ look.result_value) in
    let room = room_same c.in_ok-found.found _ (room_held c.args.space.now) held ∙ sym c.has_room.ensures ∙ c.if-has_room.true in
    record { result_value = sym (ap scan_held told) ∙ look.result_value ∙ ap scan_of (held.good ∙ sym (reading_fits lot_file _ _ held.good room)); few = subst Few told look.few }

pub returns-in_err-found : goal.returns-in_err-found
returns-in_err-found c =
    let failed = scan_fails _ (sym (ap scan_held c.in_err-found.was) ∙ c.scan_file.ensures.result_value) in
    let refused = err_from_is_err_and c.from_residual.result c.from_residual.ensures.1 in
    let is = refused.1 ∙ ap Err refused.2 in
    record { result_value = ap scan_held is ∙ sym (ap scan_of (reading_refused lot_file _ _ failed)); few = subst Few (sym is) tt }

pub returns-else-has_room : goal.returns-else-has_room
returns-else-has_room c =
    let told = c.in_ok-found.was in
    let look = c.scan_file.ensures in
    let held = scan_holds _ (sym (ap scan_held told) ∙ look.result_value) in
    let room = room_same c.in_ok-found.found _ (room_held c.args.space.now) held ∙ sym c.has_room.ensures ∙ c.if-has_room.false in
    record { result_value = sym (ap scan_of (reading_full lot_file _ _ held.good room)); few = tt }
