-- `first_look` meets its contract: by the lowest number. Assumes nothing.
use mathlib.Core.Path.{refl, sym, ap, ◌∙◌}
use native.Mathlib.Omega.{arith}
use Rattle.verdict_theory.specs.Search.{nothing, coefficient}
use Rattle.search_theory.specs.Meaning.{lowest}
use Rattle.audit_notes.specs.Notes.{clear_number, low_number, low_some, lowest_small, open_clear, open_corner, open_other}
use Rattle.audit_notes.proofs.first_look.Goals as goal

pub returns-in_default : goal.returns-in_default
returns-in_default c = let p = c.args.p in let g = c.args.g.now in open_clear p.a p.b p.c g c.args.opened nothing refl c.told-g (clear_number (lowest g) (sym c.in_default.is ∙ c.lowest_number.ensures))

pub found_at-f-requires : goal.found_at-f-requires
found_at-f-requires c = let g = c.args.g.now in let e = sym c.in-Some.is ∙ c.lowest_number.ensures in
    (c.requires.0, low_some (lowest g) e, omega (arith, low_number (lowest g) e, lowest_small g))

pub returns-then-number-le8 : goal.returns-then-number-le8
returns-then-number-le8 c = let p = c.args.p in let g = c.args.g.now in let e = sym c.in-Some.is ∙ c.lowest_number.ensures in
    open_corner p.a p.b p.c g c.args.opened nothing refl c.in-Some.number (λ z. absurd (omega (arith, z, low_some (lowest g) e))) (low_number (lowest g) e) c.if-number-le8.true c.found_at-f.ensures

pub returns-else-number-le8 : goal.returns-else-number-le8
returns-else-number-le8 c = let p = c.args.p in let g = c.args.g.now in let e = sym c.in-Some.is ∙ c.lowest_number.ensures in
    open_other p.a p.b p.c g c.args.opened nothing refl c.in-Some.number (λ z. absurd (omega (arith, z, low_some (lowest g) e))) (low_number (lowest g) e) (omega (arith, c.if-number-le8.false)) (ap coefficient c.found_at-f.ensures)
