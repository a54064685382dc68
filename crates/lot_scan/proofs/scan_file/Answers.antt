-- `scan_file` meets its contract. The loop's invariant: how far the scan has come (`Seen`). Assumes nothing.
use Rattle.std.proofs.Common.{sym, ◌∙◌, ap, subst, arith, ◌+◌, ◌-◌, ◌≤◌, length, drop, Err}
use Rattle.std.proofs.lemmas.Result.{err_from_is_err_and}
use Rattle.lot_format.specs.Format.{lot_file}
use Rattle.lot_format.specs.Steps.{read_long}
use Rattle.lot_entry_reader.specs.Meaning.{entry_held, Within}
use Rattle.lot_scan.specs.Meaning.{scan_held, scan_of, Few}
use Rattle.lot_scan.specs.Scans.{default_counts}
use Rattle.lot_scan.specs.Seen.{Seen, seen_start, seen_faulty, seen_whole, seen_more, seen_end, seen_small}
use Rattle.lot_scan.proofs.scan_file.Goals as goal

pub returns-then-file-gt-MAX_BYTES : goal.returns-then-file-gt-MAX_BYTES
returns-then-file-gt-MAX_BYTES c = record { result_value = sym (ap scan_of (read_long lot_file _ c.if-file-gt-MAX_BYTES.true)); few = tt }

pub loop-stage-init : goal.loop-stage-init
loop-stage-init c = (omega arith, subst (Seen _ 0 _) (default_counts c.default-counts.result c.default-counts.ensures) (seen_start _ (omega arith)))

pub returns-in_err-entry : goal.returns-in_err-entry
returns-in_err-entry c =
    let unread = sym c.has_ended.ensures ∙ c.loop-stage-test.true in
    let found = sym c.entry_at.ensures.result_value ∙ ap (entry_held (drop c.loop-stage.at c.args.file.now)) c.in_err-entry.was in
    let refused = err_from_is_err_and c.from_residual.result c.from_residual.ensures.1 in
    let is = refused.1 ∙ ap Err refused.2 in
    record { result_value = ap scan_held is ∙ sym (ap scan_of (seen_faulty _ c.loop-stage.invariant.1 unread found)); few = subst Few (sym is) tt }

pub loop-stage-preserved : goal.loop-stage-preserved
loop-stage-preserved c =
    let x = c.loop-stage.invariant in
    let at = c.loop-stage.at in
    let file = c.args.file.now in
    let room : 4 + c.in_ok-entry.entry.len ≤ length (drop at file) = subst (Within (drop at file)) c.in_ok-entry.was c.entry_at.ensures.within in
    let unread = sym c.has_ended.ensures ∙ c.loop-stage-test.true in
    let found = sym c.entry_at.ensures.result_value ∙ ap (entry_held (drop at file)) c.in_ok-entry.was in
    (x.0, subst (Seen file _ _) (sym c.counted-counts.ensures) (rw c.stage_after-stage.ensures (seen_whole file _ x.1 unread found room)))

pub returns-then-at-file : goal.returns-then-at-file
returns-then-at-file c =
    let ended = sym c.has_ended.ensures ∙ c.loop-stage-test.false in
    record { result_value = sym (ap scan_of (seen_more _ c.loop-stage.invariant.1 ended c.if-at-file.true)); few = tt }

pub returns : goal.returns
returns c =
    let ended = sym c.has_ended.ensures ∙ c.loop-stage-test.false in
    let x = c.loop-stage.invariant in
    record { result_value = sym (seen_end _ x.1 ended c.if-at-file.false); few = seen_small _ 0 x.1 x.0 (omega arith) }
