-- `cell_children::clear` meets its contract: by the lowest number of the half and of the quarter, and by the least of the child. Assumes nothing.
use Rattle.std.specs.Prelude.{◌&&◌, ◌%◌, List, map, eqb, ℤ, pos}
use Rattle.std.proofs.Common.{sym, ◌∙◌, ap, subst, arith, rules}
use Rattle.std.proofs.lemmas.List.{length-map}
use Rattle.std.specs.Int.Signed.{le_z}
use Rattle.definitions.specs.Jacobian.{side}
use Rattle.definitions.specs.Subdivision.{halve}
use Rattle.definitions.specs.Eighths.{Eighth}
use Rattle.expansion_theory.specs.Control.{Cuttable}
use Rattle.verdict_theory.specs.Clear.{child_control}
use Rattle.search_theory.specs.Meaning.{lowest}
use Rattle.search_theory.specs.Children.{run_four, run_two, run_one, run_none, child_length, cut_half, cut_quarter}
use Rattle.search_theory.specs.Eighths.{least_low, least_clear, eighth_made}
use Rattle.cell_children.proofs.clear.Goals as goal

pub returns-then-clear_half_at-clause-run : goal.returns-then-clear_half_at-clause-run
returns-then-clear_half_at-clause-run g c =
    let half = c.clear_half_at.ensures in
    run_four (map g.N.Number.value c.args.g.now) c.args.k c.requires.1 _ _ _ (sym half.1 ∙ c.if-clear_half_at.true) half.0 c.requires.2.quarter_sized (length-map c.args.child.now g.N.Number.value ∙ (search rules))

pub clear_half_at-requires-2 : goal.clear_half_at-requires-2
clear_half_at-requires-2 g c =
    let most = g.N.Number.most in
    let k = c.args.k in
    let half = c.clear_half_at.ensures.0 in
    (search rules, ((subst (Cuttable most) (sym half) (cut_half most (map g.N.Number.value c.args.g.now) c.requires.0 k), omega arith, omega arith), λ e. c.requires.2.quarter_is e ∙ sym (ap (halve 1 (side 1 k)) half)))

pub returns-then-clear_half_at-2-clause-run : goal.returns-then-clear_half_at-2-clause-run
returns-then-clear_half_at-2-clause-run g c =
    let gs = map g.N.Number.value c.args.g.now in
    let k = c.args.k in
    let half = c.clear_half_at.ensures in
    let quarter = c.clear_half_at-2.ensures in
    let t = sym half.1 ∙ c.if-clear_half_at.false in
    let u = sym (quarter.1 ∙ ap (λ (xs : List ℤ). eqb (k % 2) 0 && eqb (lowest (halve 1 (side 1 k) xs)) 0) half.0) in
    run_two gs k c.requires.1 _ _ _ t half.0 (quarter.0 ∙ ap (halve 1 (side 1 k)) half.0) (u ∙ c.if-clear_half_at-2.true) (length-map c.args.child.now g.N.Number.value ∙ (search rules))

pub eighth-least-requires : goal.eighth-least-requires
eighth-least-requires g c =
    let most = g.N.Number.most in
    (search rules, subst (Cuttable most) (sym (c.clear_half_at-2.ensures.0 ∙ ap (halve 1 (side 1 c.args.k)) c.clear_half_at.ensures.0)) (cut_quarter most (map g.N.Number.value c.args.g.now) c.requires.0 c.args.k))

pub returns-then-is_low-clause-run : goal.returns-then-is_low-clause-run
returns-then-is_low-clause-run g c =
    let gs = map g.N.Number.value c.args.g.now in
    let k = c.args.k in
    let half = c.clear_half_at.ensures in
    let part = c.clear_half_at-2.ensures in
    let quarter = part.0 ∙ ap (halve 1 (side 1 k)) half.0 in
    let t = sym half.1 ∙ c.if-clear_half_at.false in
    let u = sym (part.1 ∙ ap (λ (xs : List ℤ). eqb (k % 2) 0 && eqb (lowest (halve 1 (side 1 k) xs)) 0) half.0) ∙ c.if-clear_half_at-2.false in
    let answer = c.eighth-least.ensures ∙ eighth_made gs k _ quarter in
    let v = sym (ap (λ (e : Eighth). le_z e.least (pos 0)) answer) ∙ sym c.is_low.ensures ∙ c.if-is_low.true in
    run_none gs k c.requires.1 _ _ _ t half.0 quarter u (ap (λ (e : Eighth). e.control) answer) v (least_low (child_control gs k) (child_length gs k) v)

pub returns-else-is_low-clause-run : goal.returns-else-is_low-clause-run
returns-else-is_low-clause-run g c =
    let gs = map g.N.Number.value c.args.g.now in
    let k = c.args.k in
    let half = c.clear_half_at.ensures in
    let part = c.clear_half_at-2.ensures in
    let quarter = part.0 ∙ ap (halve 1 (side 1 k)) half.0 in
    let t = sym half.1 ∙ c.if-clear_half_at.false in
    let u = sym (part.1 ∙ ap (λ (xs : List ℤ). eqb (k % 2) 0 && eqb (lowest (halve 1 (side 1 k) xs)) 0) half.0) ∙ c.if-clear_half_at-2.false in
    let answer = c.eighth-least.ensures ∙ eighth_made gs k _ quarter in
    let v = sym (ap (λ (e : Eighth). le_z e.least (pos 0)) answer) ∙ sym c.is_low.ensures ∙ c.if-is_low.false in
    run_one gs k c.requires.1 _ _ _ t half.0 quarter u (ap (λ (e : Eighth). e.control) answer) v (least_clear (child_control gs k) (child_length gs k) v)
