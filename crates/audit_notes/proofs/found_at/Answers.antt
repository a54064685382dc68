-- `found_at` meets its contract: a corner at its point, any other at the cell. Assumes nothing.
use mathlib.Core.Path.{◌≡◌, ◌∙◌, ap}
use Prim.Native.Nat.{suc, ◌+◌, ◌-◌}
use native.Mathlib.Omega.{arith}
use borrow.Author.Rules.{rules}
use lib.ListN.{get_or}
use lib.IntN.{pos}
use mir.Syntax.{w128}
use mir.Val.{to_z, of_z}
use Rattle.audit_notes.specs.declared.Point.{Point}
use Rattle.audit_notes.specs.Notes.{corner_found, cell_found}
use Rattle.audit_notes.proofs.found_at.Goals as goal
use Rattle.audit_notes.proofs.found_at.Goals.{then-number-le8, else-number-le8}

pub returns : goal.returns
returns c = let p = c.args.p in let g = c.args.g.now in let k = c.args.number - 1 in
    let number : k + 1 ≡ suc k = omega arith in
    let value : to_z w128 (of_z w128 (get_or g k (pos 0))) ≡ get_or g k (pos 0) = search rules in
    (λ i. record { number = number i; a = c.if-number-le8.point.a; b = c.if-number-le8.point.b; c = c.if-number-le8.point.c; value = value i })
    ∙ elim c.if-number-le8.branch [
      | then-number-le8 w ↦ ap (λ (q : Point). record { number = suc k; a = q.a; b = q.b; c = q.c; value = get_or g k (pos 0) }) w.point-is
          ∙ (λ i. record { number = suc k; a = p.a + w.side.ensures.0 i; b = p.b + w.side-then-number-le8.ensures.0 i; c = p.c + w.side-then-number-le8-2.ensures.0 i; value = get_or g k (pos 0) })
          ∙ corner_found p.a p.b p.c g k (omega (arith, c.requires.1, w.if-number-le8))
      | else-number-le8 w ↦ ap (λ (q : Point). record { number = suc k; a = q.a; b = q.b; c = q.c; value = get_or g k (pos 0) }) w.point-is ∙ cell_found p.a p.b p.c g k (omega (arith, w.if-number-le8))
    ]
