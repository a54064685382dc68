-- `cell_search::visit` meets its contract: the branches are those of the recursion; in the loop, the first k children have been visited. Assumes nothing.
use Rattle.std.proofs.Common.{◌≡◌, refl, sym, ◌∙◌, ap, subst, map, ℕ, suc, ◌+◌, ◌-◌, ◌<◌, arith, zero-le, rules, to_z-of_z}
use mir.Syntax.{w128}
use Rattle.verdict_theory.specs.Search.{Pass, ended, visit as visited}
use Rattle.verdict_theory.specs.Clear.{more, opened_clear}
use Rattle.search_theory.specs.Meaning.{cell_of, Grid}
use Rattle.search_theory.specs.Children.{Ready, ready_first, after_some, cut_small}
use Rattle.search_theory.specs.Visit.{visit_last, over, over_next, over_clear, visit_over}
use Rattle.cell_numbers.specs.Values.{value_read}
use Rattle.cell_search.proofs.Over.{before, eight_room, skip_room, next_room, grid_once, place_room, place_cell}
use Rattle.cell_search.proofs.+visit.Goals as goal

pub returns-in-Some : goal.returns-in-Some
returns-in-Some g t c going =
    let values = map g.N.Number.value c.args.g.now in
    let k = c.in-Some.k in
    let low = c.in-Some.ensures in
    let first : suc k ≡ k + 1 = omega arith in
    c.open_low.ensures values (first ∙ low.0) (to_z-of_z {w = w128} (record { sfits = c.whole.type_inv }) ∙ c.whole.ensures ∙ value_read g.N.Number.value c.args.g.now k c.index-g-k.result (omega (arith, c.type_inv.g, low.1))) going
    ∙ visit_last (cell_of c.args.place.a c.args.place.b c.args.place.c values) c.args.pass.now c.args.left c.if-left-eq0.true

pub rest_known-requires : goal.rest_known-requires
rest_known-requires g t c =
    (search rules, (cut_small g.N.Number.most (map g.N.Number.value c.args.g.now) c.args.left c.requires.0.small c.if-left-eq0.false, zero-le, eight_room c.args.pass.now c.args.left c.if-left-eq0.false c.requires.1))

pub returns-then-rest_known : goal.returns-then-rest_known
returns-then-rest_known g t c going =
    let s = cell_of c.args.place.a c.args.place.b c.args.place.c (map g.N.Number.value c.args.g.now) in
    (before s c.args.pass.now c.args.left 0 zero-le refl c.rest_known.ensures).settled c.if-rest_known.true ∙ visit_over s c.args.pass.now c.args.left going c.if-left-eq0.false c.requires.2

pub loop-k-init : goal.loop-k-init
loop-k-init g t c =
    let s = cell_of c.args.place.a c.args.place.b c.args.place.c (map g.N.Number.value c.args.g.now) in
    (zero-le, λ h. ready_first (map g.N.Number.value c.args.g.now) _ _ refl refl, (before s c.args.pass.now c.args.left 0 zero-le refl c.rest_known.ensures).same c.if-rest_known.false)

pub rest_known-requires-in-loop-k : goal.rest_known-requires-in-loop-k
rest_known-requires-in-loop-k g t c =
    let values = map g.N.Number.value c.args.g.now in
    let s = cell_of c.args.place.a c.args.place.b c.args.place.c values in
    (search rules, (cut_small g.N.Number.most values c.args.left c.requires.0.small c.if-left-eq0.false, c.loop-k.invariant.0, skip_room c.args.pass.now c.args.left c.if-left-eq0.false c.requires.1 s c.loop-k.k c.loop-k.invariant.2 (8 - c.loop-k.k) (omega (arith, c.loop-k.invariant.0))))

pub returns-then-rest_known-2 : goal.returns-then-rest_known-2
returns-then-rest_known-2 g t c going =
    let s = cell_of c.args.place.a c.args.place.b c.args.place.c (map g.N.Number.value c.args.g.now) in
    (before s c.args.pass.now c.args.left c.loop-k.k c.loop-k.invariant.0 c.loop-k.invariant.2 c.rest_known-in-loop-k.ensures).settled c.if-rest_known-2.true ∙ visit_over s c.args.pass.now c.args.left going c.if-left-eq0.false c.requires.2

pub returns : goal.returns
returns g t c going =
    let s = cell_of c.args.place.a c.args.place.b c.args.place.c (map g.N.Number.value c.args.g.now) in
    let last : c.loop-k.k ≡ 8 = omega arith in
    c.loop-k.invariant.2 ∙ ap (over s c.args.pass.now (c.args.left - 1)) last ∙ visit_over s c.args.pass.now c.args.left going c.if-left-eq0.false c.requires.2

pub clear-requires : goal.clear-requires
clear-requires g t c =
    (search rules, (cut_small g.N.Number.most (map g.N.Number.value c.args.g.now) c.args.left c.requires.0.small c.if-left-eq0.false, c.loop-k-test.true, c.loop-k.invariant.1 c.loop-k-test.true))

pub child-requires : goal.child-requires
child-requires g t c =
    let once = λ (x : ℕ) (h : Grid x c.args.left). grid_once x c.args.left h c.if-left-eq0.false in
    let room = c.requires.0 in
    (once c.args.place.a room.a_grid, once c.args.place.b room.b_grid, once c.args.place.c room.c_grid)

-- what is known of the pass before child k, where the rest is not known
pub visit-requires : goal.visit-requires
visit-requires g t c κs within =
    let values = map g.N.Number.value c.args.g.now in
    let s = cell_of c.args.place.a c.args.place.b c.args.place.c values in
    let now = before s c.args.pass.now c.args.left c.loop-k.k c.loop-k.invariant.0 c.loop-k.invariant.2 c.rest_known-in-loop-k.ensures in
    let run = c.in-None.ensures.run in
    let fewer : c.args.left - 1 < t = omega (arith, c.decreases, c.if-left-eq0.false) in (
      fewer,
      (
        within,
        (
          search rules,
          (
            place_room g.N.Number.most values c.args.place c.child.result c.loop-k.k _ (run.made_is refl) c.child.ensures c.args.left c.requires.0 c.if-left-eq0.false,
            next_room c.args.pass.now c.args.left c.if-left-eq0.false c.requires.1 s c.loop-k.k (now.same c.if-rest_known-2.false) c.loop-k-test.true,
            run.made_low refl,
          ),
        ),
      ),
    )

pub loop-k-preserved-in-None : goal.loop-k-preserved-in-None
loop-k-preserved-in-None g t c =
    let values = map g.N.Number.value c.args.g.now in
    let s = cell_of c.args.place.a c.args.place.b c.args.place.c values in
    let m = c.args.left - 1 in
    let k = c.loop-k.k in
    let now = before s c.args.pass.now c.args.left k c.loop-k.invariant.0 c.loop-k.invariant.2 c.rest_known-in-loop-k.ensures in
    let same = now.same c.if-rest_known-2.false in
    let run = c.in-None.ensures.run in (
      omega arith,
      run.next,
      c.visit.ensures (ap (λ (q : Pass). ended q.found) same ∙ now.going c.if-rest_known-2.false)
          ∙ (λ i. visited m (place_cell g.N.Number.most values c.args.place c.child.result k _ (run.made_is refl) c.child.ensures i) (same i))
          ∙ sym (over_next s c.args.pass.now m k),
    )

pub skip-requires : goal.skip-requires
skip-requires g t c =
    let s = cell_of c.args.place.a c.args.place.b c.args.place.c (map g.N.Number.value c.args.g.now) in
    let now = before s c.args.pass.now c.args.left c.loop-k.k c.loop-k.invariant.0 c.loop-k.invariant.2 c.rest_known-in-loop-k.ensures in
    skip_room c.args.pass.now c.args.left c.if-left-eq0.false c.requires.1 s c.loop-k.k (now.same c.if-rest_known-2.false) c.in-Some-clear.over c.in-Some-clear.ensures.run.end

pub loop-k-preserved : goal.loop-k-preserved
loop-k-preserved g t c =
    let values = map g.N.Number.value c.args.g.now in
    let s = cell_of c.args.place.a c.args.place.b c.args.place.c values in
    let m = c.args.left - 1 in
    let k = c.loop-k.k in
    let n = c.in-Some-clear.over in
    let now = before s c.args.pass.now c.args.left k c.loop-k.invariant.0 c.loop-k.invariant.2 c.rest_known-in-loop-k.ensures in
    let run = c.in-Some-clear.ensures.run in
    let some : 0 < n = c.in-Some-clear.ensures.some in
    let e = after_some k n (λ z. absurd (omega (arith, z, some))) in (
      run.end,
      λ h. subst (λ (j : ℕ). Ready values j (map g.N.Number.value c.clear.new.half) (map g.N.Number.value c.clear.new.quarter)) e (run.next (subst (λ (j : ℕ). j < 8) (sym e) h)),
      c.skip.ensures ∙ ap (more (opened_clear n m)) (now.same c.if-rest_known-2.false) ∙ sym (over_clear s c.args.pass.now m k n (now.going c.if-rest_known-2.false) run.clears),
    )
