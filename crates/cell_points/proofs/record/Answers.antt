-- `cell_points::record` meets its contract: the coefficients are as small as a search asks. Assumes nothing.
use Rattle.std.proofs.Common.{le_trans, rules}
use Rattle.cell_points.proofs.record.Goals as goal

pub record-requires : goal.record-requires
record-requires g c =
    (search rules, (g.met.N.Coefficients.small c.args.p.now _ c.args.depth c.requires.0 c.requires.1 c.coefficients.ensures, le_trans c.requires.1 g.met.N.Coefficients.shallow))
