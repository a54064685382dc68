use Rattle.std.proofs.Common.{arith}
use Rattle.expansion_theory.specs.RowLaws.{lower_held, upper_held}
use Rattle.cell_halves.proofs.halve.Goals as goal

pub returns-in-0-eq0 : goal.returns-in-0-eq0
returns-in-0-eq0 g c = lower_held 0 (omega arith) (omega arith) (omega arith) c.half.ensures

pub returns-in-1-eq0 : goal.returns-in-1-eq0
returns-in-1-eq0 g c = lower_held 1 (omega arith) (omega arith) (omega arith) c.half-in-1-eq0.ensures

pub returns-in_default-eq0 : goal.returns-in_default-eq0
returns-in_default-eq0 g c = lower_held 2 (omega arith) (omega arith) (omega arith) c.half-in_default-eq0.ensures

pub returns-in-0-default : goal.returns-in-0-default
returns-in-0-default g c = upper_held 0 (omega arith) (omega arith) (λ e. absurd (omega arith)) c.half-in-0-default.ensures

pub returns-in-1-default : goal.returns-in-1-default
returns-in-1-default g c = upper_held 1 (omega arith) (omega arith) (λ e. absurd (omega arith)) c.half-in-1-default.ensures

pub returns-in_default : goal.returns-in_default
returns-in_default g c = upper_held 2 (omega arith) (omega arith) (λ e. absurd (omega arith)) c.half-in_default.ensures
