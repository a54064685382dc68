-- `cell_children::quarter_at` meets its contract: the half, and of it the quarter. Assumes nothing.
use Rattle.std.specs.Prelude.{map}
use Rattle.std.proofs.Common.{sym, ◌∙◌, ap, subst, arith, rules}
use Rattle.definitions.specs.Jacobian.{side}
use Rattle.definitions.specs.Subdivision.{halve}
use Rattle.expansion_theory.specs.Control.{Cuttable}
use Rattle.search_theory.specs.Children.{cut_half}
use Rattle.cell_children.proofs.quarter_at.Goals as goal

pub half_at-requires-2 : goal.half_at-requires-2
half_at-requires-2 g c =
    let most = g.N.Number.most in
    let k = c.args.k in
    let half = c.half_at.ensures.0 in
    (search rules, ((subst (Cuttable most) (sym half) (cut_half most (map g.N.Number.value c.args.g.now) c.requires.0 k), omega arith, omega arith), λ e. c.requires.1.quarter_is e ∙ sym (ap (halve 1 (side 1 k)) half)))
