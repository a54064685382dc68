-- `cell_bounds::bounds` meets its contract: no coefficient passes the greatest number. Assumes nothing.
use Rattle.std.proofs.Common.{refl, ◌∙◌, map}
use Rattle.verdict_theory.specs.Extremes.{extremes}
use Rattle.search_theory.specs.Levels.{whole_of}
use Rattle.search_theory.specs.Bounds.{bounds_are}
use Rattle.cell_bounds.proofs.bounds.Goals as goal

pub returns : goal.returns
returns g c xs e =
    let values = map g.N.Number.value c.args.g.now in
    c.survey.ensures (whole_of values) refl
    ∙ (λ i. extremes c.args.depth (whole_of values) (record { low = c.greatest.ensures i; high = c.greatest-2.ensures i }))
    ∙ bounds_are g.N.Number.most xs values c.args.depth e c.requires
