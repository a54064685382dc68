-- `eighth` meets its contract: the half, its quarter, and of that the child. Assumes nothing.
use Rattle.std.proofs.Common.{sym, ◌∙◌, ap, subst, map, ℕ, arith, rules}
use Rattle.definitions.specs.Subdivision.{halve}
use Rattle.expansion_theory.specs.Control.{Cuttable}
use Rattle.search_theory.specs.Children.{cut_half, cut_quarter}
use Rattle.search_theory.specs.Eighths.{eighth_made}
use Rattle.inner_exports.proofs.eighth.Goals as goal

pub halve-requires-2 : goal.halve-requires-2
halve-requires-2 g c =
    let most = g.N.Number.most in
    let values = map g.N.Number.value c.args.g.now in
    let half = c.halve.ensures ∙ ap (λ (h : ℕ). halve 2 h values) c.side.ensures.0 in
    (search rules, (subst (Cuttable most) (sym half) (cut_half most values c.requires.0 c.args.k), omega arith))

pub eighth-requires : goal.eighth-requires
eighth-requires g c =
    let most = g.N.Number.most in
    let values = map g.N.Number.value c.args.g.now in
    let half = c.halve.ensures ∙ ap (λ (h : ℕ). halve 2 h values) c.side.ensures.0 in
    let quarter = c.halve-2.ensures ∙ (λ i. halve 1 (c.side-2.ensures.0 i) (half i)) in
    (search rules, subst (Cuttable most) (sym quarter) (cut_quarter most values c.requires.0 c.args.k))

pub returns : goal.returns
returns g c =
    let values = map g.N.Number.value c.args.g.now in
    let half = c.halve.ensures ∙ ap (λ (h : ℕ). halve 2 h values) c.side.ensures.0 in
    let quarter = c.halve-2.ensures ∙ (λ i. halve 1 (c.side-2.ensures.0 i) (half i)) in
    c.eighth.ensures ∙ eighth_made values c.args.k _ quarter
