-- What holds when a turn of the loop of `eighths` begins: the halves of the quarters before k stand in their places.
use mathlib.Core.Path.{◌≡◌}
use mathlib.Core.List.{◌++◌}
use lib.ListN.{length}
use Rattle.audit_cycle.specs.Children.{Laid}
use Rattle.audit_cycle.proofs.eighths.Given as goal

abbrev pub invariant-loop-k : goal.invariant-loop-k
invariant-loop-k l = Laid l.quarters l.k (l.lower ++ l.upper) × (length l.lower ≡ 4)
