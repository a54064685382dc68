-- `cell_grid::low_at` meets its contract: the three numbers of the row are read. Assumes nothing.
use Rattle.std.specs.Prelude.{List, map, get_or, ℤ}
use Rattle.std.proofs.Common.{sym, ◌∙◌, ap, subst}
use Rattle.foundation.specs.Words.{args, Within}
use Rattle.search_theory.specs.Grid.{low_in_row, line_fits}
use Rattle.cell_numbers.specs.Values.{cut_most, can_be_cut}
use Rattle.cell_grid.specs.Rows.{line_read}
use Rattle.cell_grid.proofs.low_at.Goals as goal

pub low_in_row-requires : goal.low_in_row-requires
low_in_row-requires g c =
    let most = g.N.Number.most in
    let row = c.args.row in
    subst (Within (cut_most most)) (sym (line_read g.N.Number.value c.args.g.now c.told-g row c.requires.1 c.index-g-x.result c.index-g-y.result c.index-g-z.result))
    (line_fits most (cut_most most) (can_be_cut most) (map g.N.Number.value c.args.g.now) c.requires.0 (get_or row 0 0) (get_or row 1 0) (get_or row 2 0))

pub returns : goal.returns
returns g c = c.low_in_row.ensures ∙ ap (λ (xs : List ℤ). low_in_row (args xs)) (line_read g.N.Number.value c.args.g.now c.told-g c.args.row c.requires.1 c.index-g-x.result c.index-g-y.result c.index-g-z.result)
