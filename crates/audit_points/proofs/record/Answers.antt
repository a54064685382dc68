-- `audit_points::record` meets its contract: 128 bits hold the coefficients at every level. Assumes nothing.
use Rattle.audit_points.specs.Points.{points_small}
use Rattle.audit_points.proofs.record.Goals as goal

pub search-requires : goal.search-requires
search-requires c = (points_small c.args.p.now _ c.args.depth c.requires.0 c.requires.1 c.coefficients.ensures, c.requires.1)
