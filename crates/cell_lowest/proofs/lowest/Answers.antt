-- `cell_lowest::lowest` meets its contract: the place that is found, as a number. Assumes nothing.
use Rattle.std.specs.Prelude.{◌≤◌, map, position, int_le}
use Rattle.std.proofs.Common.{ap, sym, subst, ◌∙◌}
use Rattle.cell_lowest.specs.Meaning.{number_of, first_low, lowest_few}
use Rattle.cell_lowest.proofs.lowest.Goals as goal

pub returns : goal.returns
returns g c =
    let value = g.N.Number.value in
    let told = ap number_of (c.first_at_most.ensures ∙ ap (λ v. position (λ x. int_le (value x) v) c.args.g.now) c.zero.ensures) ∙ first_low value c.args.g.now c.told-g in
    (told, subst (λ n. n ≤ 27) (sym told) (lowest_few (map value c.args.g.now)))
