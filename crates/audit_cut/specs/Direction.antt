-- The directions by the numbers that the definitions give them.
use Rattle.std.specs.Prelude.{ℕ, ◌<◌}
use Rattle.std.proofs.Common.{arith}
use Rattle.audit_cut.specs.declared.Direction.{Direction}
use Rattle.audit_cut.specs.declared.Direction.TheVariants.{Xi, Eta, Zeta}

abbrev pub axis : Direction → ℕ
axis Xi = 0
axis Eta = 1
axis Zeta = 2

pub axis_less : (d : Direction) → axis d < 3
axis_less Xi = omega arith
axis_less Eta = omega arith
axis_less Zeta = omega arith
