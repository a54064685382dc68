-- `number_at` meets its contract: direction by direction. Assumes nothing.
use mathlib.Core.Path.{refl, ap}
use Rattle.audit_cut.specs.Direction.{axis, axis_less}
use Rattle.audit_cut.specs.Rows.{number_law}
use Rattle.audit_cut.proofs.number_at.Goals as goal

pub returns-in-Xi : goal.returns-in-Xi
returns-in-Xi c = number_law (axis c.args.d) 0 c.args.j c.args.t (ap axis c.in-Xi.is) (axis_less c.args.d) c.requires.0 c.requires.1 refl

pub returns-in-Eta : goal.returns-in-Eta
returns-in-Eta c = number_law (axis c.args.d) 1 c.args.j c.args.t (ap axis c.in-Eta.is) (axis_less c.args.d) c.requires.0 c.requires.1 refl

pub returns-in-Zeta : goal.returns-in-Zeta
returns-in-Zeta c = number_law (axis c.args.d) 2 c.args.j c.args.t (ap axis c.in-Zeta.is) (axis_less c.args.d) c.requires.0 c.requires.1 refl
