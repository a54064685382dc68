-- `cell_points::bounds` meets its contract: the coefficients are as small as a search asks. Assumes nothing.
use Rattle.std.proofs.Common.{rules}
use Rattle.cell_points.proofs.bounds.Goals as goal

pub bounds-requires : goal.bounds-requires
bounds-requires g c =
    (search rules, g.met.N.Coefficients.small c.args.p.now _ c.args.depth c.requires.0 c.requires.1 c.coefficients.ensures)
