-- `least_with` meets its contract: one coefficient more. Assumes nothing.
use mathlib.Core.Path.{◌≡◌, sym, ap₂, ◌∙◌}
use borrow.Author.Rules.{rules}
use lib.ListN.{get_or}
use lib.IntN.{pos}
use mir.Syntax.{w128}
use mir.Val.{to_z, of_z}
use mir.Facts.{to_z-of_z}
use Rattle.foundation.specs.Least.{lesser}
use Rattle.search_theory.specs.Bounds.{least_next}
use Rattle.audit_notes.proofs.least_with.Goals as goal

pub loop-x-preserved : goal.loop-x-preserved
loop-x-preserved c = let g = c.args.g.now in let k = c.loop-x.x-index in
    let item : to_z w128 (of_z w128 (get_or g k (pos 0))) ≡ get_or g k (pos 0) = search rules in
    to_z-of_z {w = w128} (record { sfits = c.lesser-least.type_inv }) ∙ c.lesser-least.ensures ∙ ap₂ lesser c.loop-x.invariant item
    ∙ sym (least_next (to_z w128 (of_z w128 c.args.v)) g k c.loop-x-test.true)
