-- `cell_grid::low_between` meets its contract: of the middles of the rows in ξ. Assumes nothing.
use Rattle.std.specs.Prelude.{[], ◌∷◌, map, nat_abs, ◌≤◌, ◌||◌}
use Rattle.std.proofs.Common.{sym, ◌∙◌, subst}
use Rattle.foundation.specs.Words.{args}
use Rattle.definitions.specs.Coefficients.{at}
use Rattle.search_theory.specs.Grid.{low_in_row, between_low, across_fits}
use Rattle.cell_numbers.specs.Values.{cut_most, can_be_cut}
use Rattle.cell_grid.proofs.low_between.Goals as goal

pub low_in_row-requires : goal.low_in_row-requires
low_in_row-requires g c =
    let most = g.N.Number.most in
    let fits = across_fits most (cut_most most) (can_be_cut most) (map g.N.Number.value c.args.g.now) c.requires in
    (subst (λ z. nat_abs z ≤ cut_most most) (sym c.middle_across-u.ensures) (fits 0 8 1 11 20 9 3 10 2), (subst (λ z. nat_abs z ≤ cut_most most) (sym c.middle_across-v.ensures) (fits 12 21 13 24 26 22 15 23 14), (subst (λ z. nat_abs z ≤ cut_most most) (sym c.middle_across-w.ensures) (fits 4 16 5 19 25 17 7 18 6), tt)))

pub returns : goal.returns
unfolding between_low at
returns g c = λ i. c.low_across.ensures i || (c.low_across-2.ensures i || (c.low_in_row.ensures ∙ (λ j. low_in_row (args (c.middle_across-u.ensures j ∷ c.middle_across-v.ensures j ∷ c.middle_across-w.ensures j ∷ [])))) i)
