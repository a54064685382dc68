-- `cell_bounds::survey` meets its contract: the branches are those of the recursion; in the loop, the first k children have been seen. Assumes nothing.
use Rattle.std.proofs.Common.{◌≡◌, refl, sym, ◌∙◌, ap, subst, map, length, ◌-◌, ◌<◌, arith, rules, zero-le}
use Rattle.foundation.specs.Least.{least_of}
use Rattle.definitions.specs.Subdivision.{child}
use Rattle.definitions.specs.Eighths.{Eighth}
use Rattle.expansion_theory.specs.Control.{Cuttable}
use Rattle.verdict_theory.specs.Extremes.{extremes}
use Rattle.search_theory.specs.Children.{ready_first, ready_next, cut_quarter, cut_small, child_small}
use Rattle.search_theory.specs.Eighths.{eighth_made}
use Rattle.search_theory.specs.Bounds.{with_last, extremes_next, extremes_last, child_of}
use Rattle.cell_bounds.specs.Meaning.{extremes_of}
use Rattle.cell_bounds.proofs.+survey.Goals as goal

pub returns-then-left-eq0 : goal.returns-then-left-eq0
returns-then-left-eq0 g t c s h =
    c.with_cell.ensures ∙ with_last s (ap length h ∙ c.requires.0.control.sized) c.args.left c.if-left-eq0.true (map g.N.Number.value c.args.g.now) h (extremes_of g.N.Number.value c.args.seen)

pub loop-k-init : goal.loop-k-init
loop-k-init g t c = (zero-le, λ h. ready_first (map g.N.Number.value c.args.g.now) _ _ refl refl, λ s h. refl)

pub quarter_at-requires : goal.quarter_at-requires
quarter_at-requires g t c =
    (search rules, (cut_small g.N.Number.most (map g.N.Number.value c.args.g.now) c.args.left c.requires.0 c.if-left-eq0.false, c.loop-k.invariant.1 c.loop-k-test.true))

pub eighth-told-requires : goal.eighth-told-requires
eighth-told-requires g t c =
    let most = g.N.Number.most in
    let values = map g.N.Number.value c.args.g.now in
    (search rules, subst (Cuttable most) (sym c.quarter_at.ensures.1) (cut_quarter most values (cut_small most values c.args.left c.requires.0 c.if-left-eq0.false) c.loop-k.k))

pub survey-seen-requires : goal.survey-seen-requires
survey-seen-requires g t c κs within =
    let values = map g.N.Number.value c.args.g.now in
    let answer = c.eighth-told.ensures ∙ eighth_made values c.loop-k.k _ c.quarter_at.ensures.1 in
    let made = ap (λ (e : Eighth). e.control) answer in
    let fewer : c.args.left - 1 < t = omega (arith, c.decreases, c.if-left-eq0.false) in
    (fewer, (within, (search rules, (child_small g.N.Number.most values c.args.left c.loop-k.k _ c.requires.0 c.if-left-eq0.false made, ap (λ (e : Eighth). e.least) answer ∙ ap least_of (sym made)))))

pub loop-k-preserved : goal.loop-k-preserved
loop-k-preserved g t c =
    let values = map g.N.Number.value c.args.g.now in
    let seen = extremes_of g.N.Number.value c.args.seen in
    let k = c.loop-k.k in
    let answer = c.eighth-told.ensures ∙ eighth_made values k _ c.quarter_at.ensures.1 in (
      omega arith,
      λ h. ready_next values k h _ _ c.quarter_at.ensures.0 c.quarter_at.ensures.1,
      λ s h. c.survey-seen.ensures (child s k) (child_of s k values _ h (ap (λ (e : Eighth). e.control) answer)) ∙ ap (extremes (c.args.left - 1) (child s k)) (c.loop-k.invariant.2 s h) ∙ sym (extremes_next s seen c.args.left k),
    )

pub returns : goal.returns
returns g t c s h =
    let last : c.loop-k.k ≡ 8 = omega arith in
    c.loop-k.invariant.2 s h ∙ extremes_last s (extremes_of g.N.Number.value c.args.seen) c.args.left c.loop-k.k last c.if-left-eq0.false
