-- `cell_grid::low_across` meets its contract: of the three middles. Assumes nothing.
use Rattle.std.specs.Prelude.{map, get_or, nat_abs, ◌≤◌}
use Rattle.std.proofs.Common.{sym, subst}
use Rattle.search_theory.specs.Grid.{middles_fit}
use Rattle.cell_numbers.specs.Values.{cut_most, can_be_cut}
use Rattle.cell_grid.proofs.low_across.Goals as goal

pub low_in_row-requires : goal.low_in_row-requires
low_in_row-requires g c =
    let most = g.N.Number.most in
    let p = c.args.start in
    let q = c.args.middle in
    let r = c.args.end in
    let fit = middles_fit most (cut_most most) (can_be_cut most) (map g.N.Number.value c.args.g.now) c.requires.0 (get_or p 0 0) (get_or p 1 0) (get_or p 2 0) (get_or q 0 0) (get_or q 1 0) (get_or q 2 0) (get_or r 0 0) (get_or r 1 0) (get_or r 2 0) in
    (subst (λ z. nat_abs z ≤ cut_most most) (sym c.middle_at.ensures) fit.0, (subst (λ z. nat_abs z ≤ cut_most most) (sym c.middle_at-2.ensures) fit.1.0, (subst (λ z. nat_abs z ≤ cut_most most) (sym c.middle_at-3.ensures) fit.1.1.0, tt)))
