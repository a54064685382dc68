-- `noted` meets its contract: case by case. Assumes nothing.
use mathlib.Core.Path.{◌≡◌, sym, ap, ◌∙◌}
use mathlib.Core.List.{List}
use borrow.Author.Rules.{rules}
use lib.ListN.{take}
use lib.IntN.{ℤ}
use mir.Syntax.{w128}
use mir.Val.{to_z, of_z}
use mir.Facts.{to_z-of_z}
use Rattle.foundation.specs.Least.{least_from}
use Rattle.audit_theory.specs.Walk.{noted}
use Rattle.audit_notes.specs.declared.Point.{Point}
use Rattle.audit_notes.specs.declared.Notes.{Notes}
use Rattle.audit_notes.specs.Meaning.{cell_at, notes_of}
use Rattle.audit_notes.specs.Notes.{open_ended, seen}
use Rattle.audit_notes.proofs.noted.Goals as goal

by : (p : Point) (g : List ℤ) {n x : Notes} → n ≡ x → noted (cell_at p g) (notes_of n) ≡ noted (cell_at p g) (notes_of x)
by p g e = ap (λ (n : Notes). noted (cell_at p g) (notes_of n)) e

pub returns-in-Corner : goal.returns-in-Corner
returns-in-Corner c = let p = c.args.p in let g = c.args.g.now in open_ended p.a p.b p.c g _ _ ∙ sym (by p g c.in-Corner.is)

pub returns-in-Survey : goal.returns-in-Survey
returns-in-Survey c = let p = c.args.p in let g = c.args.g.now in let e = c.in-Survey.e in
    let l : to_z w128 (of_z w128 e.low) ≡ e.low = search rules in
    let h : to_z w128 (of_z w128 e.high) ≡ e.high = search rules in
    seen p.a p.b p.c g c.told-g e.low e.high
    (to_z-of_z {w = w128} (record { sfits = c.least_with.type_inv }) ∙ c.least_with.ensures ∙ ap (λ (v : ℤ). least_from v g) l)
    (to_z-of_z {w = w128} (record { sfits = c.least_with-in-Survey.type_inv }) ∙ c.least_with-in-Survey.ensures ∙ ap (λ (v : ℤ). least_from v (take 8 g)) h)
    ∙ sym (by p g c.in-Survey.is)
