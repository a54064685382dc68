-- `inspector::bounds_of` meets its contract: by the depth and the first coordinate out of range. Assumes nothing.
use Rattle.std.proofs.Common.{◌≡◌, sym, ap, ◌∙◌, length, arith, rules, to_z-of_z}
use mir.Syntax.{w128}
use Rattle.definitions.specs.Limits.{base}
use Rattle.definitions.specs.Mesh.{bounds}
use Rattle.verdict_theory.specs.Extremes.{Extremes}
use Rattle.wide_number.specs.Meaning.{value_of}
use Rattle.mesh_points.specs.Meaning.{first_of}
use Rattle.mesh_points.specs.Points.{read_within}
use Rattle.inspection_answers.specs.Answers.{bounds_deep, bounds_outside, bounds_inside}
use Rattle.inspector.proofs.bounds_of.Goals as goal

pub returns-then-depth-gt-MAX_DEPTH : goal.returns-then-depth-gt-MAX_DEPTH
returns-then-depth-gt-MAX_DEPTH c = sym (bounds_deep base c.args.p c.args.depth c.if-depth-gt-MAX_DEPTH.true)

pub returns-in-Some : goal.returns-in-Some
returns-in-Some c = sym (bounds_outside base c.args.p c.args.depth _ c.if-depth-gt-MAX_DEPTH.false (sym c.out_of_range.ensures.first ∙ ap first_of c.in-Some.is))

pub bounds-r-requires : goal.bounds-r-requires
bounds-r-requires c =
    let sized : length c.args.p ≡ 24 = omega arith in
    let small = read_within base c.args.p (sym c.out_of_range.ensures.first ∙ ap first_of c.in_default.is) sized in
    search rules

pub returns : goal.returns
returns c =
    let low : value_of c.from.result ≡ c.bounds-r.result.low = c.from.ensures ∙ to_z-of_z {w = w128} (search rules) in
    let high : value_of c.from-2.result ≡ c.bounds-r.result.high = c.from-2.ensures ∙ to_z-of_z {w = w128} (search rules) in
    (λ i. bounds (low i) (high i))
    ∙ ap (λ (x : Extremes). bounds x.low x.high) c.bounds-r.ensures
    ∙ sym (bounds_inside base c.args.p c.args.depth c.if-depth-gt-MAX_DEPTH.false (sym c.out_of_range.ensures.first ∙ ap first_of c.in_default.is))
