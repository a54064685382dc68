-- `hand_out` meets its contract. The loop's invariant: how far the handing out has come (`Handed`). Assumes nothing.
use Rattle.std.proofs.Common.{refl, sym, ◌∙◌, ap, subst, arith}
use Rattle.lot_marks.specs.Meaning.{mark_held, marked_held}
use Rattle.lot_scan.specs.Scans.{default_counts}
use Rattle.lot_hand_out.proofs.Handed.{Handed, not_unknown, here, handed_start, handed_next, four_left, handed_all, small_here, handed_fits, handed_then, kept_next}
use Rattle.lot_hand_out.proofs.hand_out.Goals as goal

pub loop-at-init : goal.loop-at-init
loop-at-init c = (subst (Handed _ _ _ 0) (default_counts c.default-n.result c.default-n.ensures) (handed_start _ _ c.requires), record { nodes = refl; elements = refl; names = refl; lengths = refl; offsets = refl })

pub mark_at-requires : goal.mark_at-requires
mark_at-requires c =
    let four = four_left _ _ c.requires c.loop-at.invariant.0 (omega arith) in
    omega (arith, four)

pub returns-in_default : goal.returns-in_default
returns-in_default c = not_unknown c.loop-at.invariant.0.seen (handed_next _ _ c.requires c.loop-at.invariant.0 (omega arith)) (sym c.mark_at.ensures ∙ ap marked_held c.in_default.is)

pub length_at-requires : goal.length_at-requires
length_at-requires c = four_left _ _ c.requires c.loop-at.invariant.0 (omega arith)

pub body_length-len-requires : goal.body_length-len-requires
body_length-len-requires c =
    let entry = here c.loop-at.invariant.0.seen (handed_next _ _ c.requires c.loop-at.invariant.0 (omega arith)) (mark_held c.in-Some.mark) _ (sym c.mark_at.ensures ∙ ap marked_held c.in-Some.is) c.length_at.ensures.0 in
    entry.right

pub put_entry-requires : goal.put_entry-requires
put_entry-requires c =
    let entry = here c.loop-at.invariant.0.seen (handed_next _ _ c.requires c.loop-at.invariant.0 (omega arith)) (mark_held c.in-Some.mark) _ (sym c.mark_at.ensures ∙ ap marked_held c.in-Some.is) (c.body_length-len.ensures ∙ c.length_at.ensures.0) in
    handed_fits _ _ c.requires c.loop-at.invariant.0 entry

pub counted-n-requires : goal.counted-n-requires
counted-n-requires c =
    let entry = here c.loop-at.invariant.0.seen (handed_next _ _ c.requires c.loop-at.invariant.0 (omega arith)) (mark_held c.in-Some.mark) _ (sym c.mark_at.ensures ∙ ap marked_held c.in-Some.is) (c.body_length-len.ensures ∙ c.length_at.ensures.0) in
    small_here _ _ c.requires c.loop-at.invariant.0 entry

pub loop-at-preserved : goal.loop-at-preserved
loop-at-preserved c =
    let entry = here c.loop-at.invariant.0.seen (handed_next _ _ c.requires c.loop-at.invariant.0 (omega arith)) (mark_held c.in-Some.mark) _ (sym c.mark_at.ensures ∙ ap marked_held c.in-Some.is) (c.body_length-len.ensures ∙ c.length_at.ensures.0) in
    (handed_then _ _ c.requires c.loop-at.invariant.0 entry c.put_entry.ensures.laid c.counted-n.ensures, kept_next c.loop-at.invariant.1 c.put_entry.ensures.kept)

pub returns : goal.returns
returns c = record { over = handed_all _ _ c.requires c.loop-at.invariant.0 (omega arith); kept = c.loop-at.invariant.1 }
