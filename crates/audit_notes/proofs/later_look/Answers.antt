-- `later_look` meets its contract: by the lowest number. Assumes nothing.
use mathlib.Core.Path.{refl, sym, ◌∙◌}
use native.Mathlib.Omega.{arith}
use Rattle.verdict_theory.specs.Search.{coefficient}
use Rattle.search_theory.specs.Meaning.{lowest}
use Rattle.audit_notes.specs.Meaning.{finding_of}
use Rattle.audit_notes.specs.Notes.{clear_number, low_number, low_some, lowest_small, open_clear, open_corner, open_other}
use Rattle.audit_notes.proofs.later_look.Goals as goal
use Rattle.audit_notes.proofs.later_look.Goals.{in_default-via-in-Some+else-number-le8, in_default-via-in_default}

pub found_at-requires : goal.found_at-requires
found_at-requires c = let g = c.args.g.now in let e = sym c.in-Some.is ∙ c.lowest_number.ensures in
    (c.requires.0, low_some (lowest g) e, omega (arith, low_number (lowest g) e, lowest_small g))

pub returns-in-Some : goal.returns-in-Some
returns-in-Some c = let p = c.args.p in let g = c.args.g.now in let e = sym c.in-Some.is ∙ c.lowest_number.ensures in
    open_corner p.a p.b p.c g c.args.opened (coefficient (finding_of c.args.before)) refl c.in-Some.number (λ z. absurd (omega (arith, z, low_some (lowest g) e))) (low_number (lowest g) e) c.if-number-le8.true c.found_at.ensures

pub returns-in_default : goal.returns-in_default
returns-in_default c = let p = c.args.p in let g = c.args.g.now in let o = coefficient (finding_of c.args.before) in elim c.in_default.branch [
  | in_default-via-in-Some+else-number-le8 w ↦ let e = sym w.in-Some.is ∙ c.lowest_number.ensures in
      open_other p.a p.b p.c g c.args.opened o refl w.in-Some.number (λ z. absurd (omega (arith, z, low_some (lowest g) e))) (low_number (lowest g) e) (omega (arith, w.if-number-le8)) refl
  | in_default-via-in_default w ↦ open_clear p.a p.b p.c g c.args.opened o refl c.told-g (clear_number (lowest g) (sym w.in_default.is ∙ c.lowest_number.ensures))
]
