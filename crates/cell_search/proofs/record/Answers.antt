-- `cell_search::record` meets its contract: without a low coefficient nothing is searched; between passes the levels before are all blocked; the loop ends at a pass that settles, or at the depth. Assumes nothing.
use Rattle.std.specs.Prelude.{Option, Some, None, is_some, not}
use Rattle.std.proofs.Common.{◌≡◌, sym, ◌∙◌, ap, ap₂, map, Bool, true, false, ◌&&◌, ℕ, ◌+◌, ◌<◌, ◌≤◌, arith, rules, zero-le, true≢false}
use mathlib.Core.Bool.{and-true, and-eq-true_iff}
use lib.Dec.{ltb}
use borrow.Author.Tests.{ltb-true, ltb-false}
use Rattle.definitions.specs.Record.{verdict_words, record_of}
use Rattle.verdict_theory.specs.Search.{Pass, visit}
use Rattle.verdict_theory.specs.Clear.{more, opened_clear}
use Rattle.search_theory.specs.Children.{small_less}
use Rattle.search_theory.specs.Visit.{is_blocked}
use Rattle.search_theory.specs.Levels.{whole_of, fresh, outcome, settled, settled_clear, made_first, made_next, made_room}
use Rattle.cell_lowest.specs.Meaning.{number_of}
use Rattle.cell_search.specs.Meaning.{itself}
use Rattle.cell_search.proofs.Over.{room}
use Rattle.cell_search.proofs.record.Goals as goal

none_low : (o : Option ℕ) {b : Bool} (n : ℕ) → is_some o ≡ not b → b ≡ true → number_of o ≡ n → n ≡ 0
none_low None n h t e = sym e
none_low (Some k) n h t e = absurd (true≢false (h ∙ ap not t))

some_low : (o : Option ℕ) {b : Bool} (n : ℕ) → is_some o ≡ not b → b ≡ false → number_of o ≡ n → n ≡ 0 → ⊥
some_low None n h t e z = absurd (true≢false (sym (h ∙ ap not t)))
some_low (Some k) n h t e z = absurd (omega (arith, e, z))

pub returns-then-is_none : goal.returns-then-is_none
unfolding record_of
returns-then-is_none g c xs e =
    let values = map g.N.Number.value c.args.g.now in
    let final = settled_clear xs values e c.requires.0.control.sized (none_low c.lowest.result _ c.is_none.ensures c.if-is_none.true c.lowest.ensures.0) c.args.depth in
    let one = c.skip.ensures ∙ ap (more (opened_clear 1 0)) c.new-pass.ensures in
    c.settled.ensures ∙ ap (λ (q : Pass). verdict_words (outcome 0 q.found) q.count) one ∙ ap₂ verdict_words final.0 final.1

pub pass_at-requires : goal.pass_at-requires
pass_at-requires g c =
    let none : c.new-pass.result.count ≡ 0 = ap (λ (q : Pass). q.count) c.new-pass.ensures in
    (search rules, (small_less g.N.Number.most (map g.N.Number.value c.args.g.now) 0 c.args.depth zero-le c.requires.0, zero-le, omega (arith, none), some_low c.lowest.result _ c.is_none.ensures c.if-is_none.false c.lowest.ensures.0))

pub loop-m-init : goal.loop-m-init
loop-m-init g c =
    let values = map g.N.Number.value c.args.g.now in
    (zero-le, made_first itself values _ (c.pass_at.ensures ∙ ap (λ (q : Pass). visit 0 (whole_of values) (fresh q.count)) c.new-pass.ensures))

pub pass_at-requires-in-loop-m : goal.pass_at-requires-in-loop-m
pass_at-requires-in-loop-m g c =
    let values = map g.N.Number.value c.args.g.now in
    let m = c.loop-m.m in
    let tests = (and-eq-true_iff (ltb m c.args.depth) c.blocked.result).0 c.loop-m-test.true in
    let less : m < c.args.depth = ltb-true _ _ tests.0 in
    (search rules, (small_less g.N.Number.most values (m + 1) c.args.depth (omega arith) c.requires.0, omega (arith, c.requires.1), room _ (made_room itself values m c.loop-m.pass (omega (arith, c.requires.1)) c.loop-m.invariant.1), some_low c.lowest.result _ c.is_none.ensures c.if-is_none.false c.lowest.ensures.0))

pub loop-m-preserved : goal.loop-m-preserved
loop-m-preserved g c =
    let values = map g.N.Number.value c.args.g.now in
    let m = c.loop-m.m in
    let made = c.loop-m.invariant.1 in
    let tests = (and-eq-true_iff (ltb m c.args.depth) c.blocked.result).0 c.loop-m-test.true in
    let less : m < c.args.depth = ltb-true _ _ tests.0 in (
      omega arith,
      made_next itself values m c.loop-m.pass _ made (ap (λ (q : Pass). is_blocked q.found) (sym made.is) ∙ sym c.blocked.ensures ∙ tests.1)
          (c.pass_at-in-loop-m.ensures ∙ ap (λ (q : Pass). visit (m + 1) (whole_of values) (fresh q.count)) made.is),
    )

pub returns : goal.returns
unfolding record_of
returns g c xs e =
    let m = c.loop-m.m in
    let made = c.loop-m.invariant.1 in
    let test : Bool = ltb m c.args.depth in
    let last : is_blocked made.pass.found ≡ true → m ≡ c.args.depth = λ b.
    let no : test ≡ false = sym (and-true test) ∙ ap (λ (x : Bool). test && x) (sym (c.blocked.ensures ∙ ap (λ (q : Pass). is_blocked q.found) made.is ∙ b)) ∙ c.loop-m-test.false in
    let h : c.args.depth ≤ m = ltb-false _ _ no in
    omega (arith, c.loop-m.invariant.0) in
    let final = settled xs m c.args.depth made.pass c.loop-m.invariant.0 (made.at xs e) last in
    c.settled-2.ensures ∙ ap (λ (q : Pass). verdict_words (outcome m q.found) q.count) made.is ∙ ap₂ verdict_words final.0 final.1
