-- `search_opening::open_low` meets its contract: the lowest number is a corner's or another's, and of the others the first one stays. Assumes nothing.
use Rattle.std.proofs.Common.{◌≡◌, refl, sym, ◌∙◌, ap, arith, true, false, suc, ◌+◌, true≢false, to_z-of_z}
use Rattle.definitions.specs.Verdict.{Finding}
use Rattle.verdict_theory.specs.Search.{Found, nothing, coefficient, point, Pass}
use Rattle.search_theory.specs.Meaning.{cell_of}
use Rattle.search_theory.specs.Lowest.{at_cell, with_coefficient, opened_corner, opened_coefficient}
use Rattle.search_pass.specs.Meaning.{found_nothing}
use Rattle.search_opening.proofs.open_low.Goals as goal

-- what was found before stays, but for nothing
nothing_is : (o : Found) → found_nothing o ≡ true → o ≡ nothing
nothing_is nothing e = refl
nothing_is (coefficient g) e = absurd (true≢false (sym e))
nothing_is (point g) e = absurd (true≢false (sym e))

stays : (o : Found) (f : Finding) → found_nothing o ≡ false → o ≡ with_coefficient o f
stays nothing f e = absurd (true≢false e)
stays (coefficient g) f e = refl
stays (point g) f e = refl

pub returns-then-k-lt8 : goal.returns-then-k-lt8
returns-then-k-lt8 c g low is going =
    let p = c.args.pass.now in
    let box = cell_of c.args.place.a c.args.place.b c.args.place.c g in
    let number : c.args.k + 1 ≡ suc c.args.k = omega arith in
    c.note.ensures
    ∙ (λ i. record { count = (c.add_opened.ensures i).count; found = point (record { number = number i; a = (c.corner.ensures i).a; b = (c.corner.ensures i).b; c = (c.corner.ensures i).c; value = (to_z-of_z c.ranges.value ∙ is) i }) })
    ∙ opened_corner box p.count p.found going c.args.k (sym low) (omega arith)

pub returns-then-found_nothing : goal.returns-then-found_nothing
returns-then-found_nothing c g low is going =
    let p = c.args.pass.now in
    let box = cell_of c.args.place.a c.args.place.b c.args.place.c g in
    let number : c.args.k + 1 ≡ suc c.args.k = omega arith in
    let none = nothing_is p.found (ap (λ (q : Pass). found_nothing q.found) (sym c.add_opened.ensures) ∙ sym c.found_nothing.ensures ∙ c.if-found_nothing.true) in
    c.note-then-found_nothing.ensures
    ∙ (λ i. record { count = (c.add_opened.ensures i).count; found = coefficient (record { number = number i; a = c.args.place.a; b = c.args.place.b; c = c.args.place.c; value = (to_z-of_z c.ranges.value ∙ is) i }) })
    ∙ (λ i. record { count = p.count + 1; found = with_coefficient (sym none i) (at_cell box c.args.k) })
    ∙ opened_coefficient box p.count p.found going c.args.k (sym low) (omega arith)

pub returns-else-found_nothing : goal.returns-else-found_nothing
returns-else-found_nothing c g low is going =
    let p = c.args.pass.now in
    let box = cell_of c.args.place.a c.args.place.b c.args.place.c g in
    let some = ap (λ (q : Pass). found_nothing q.found) (sym c.add_opened.ensures) ∙ sym c.found_nothing.ensures ∙ c.if-found_nothing.false in
    c.add_opened.ensures
    ∙ (λ i. record { count = p.count + 1; found = stays p.found (at_cell box c.args.k) some i })
    ∙ opened_coefficient box p.count p.found going c.args.k (sym low) (omega arith)
