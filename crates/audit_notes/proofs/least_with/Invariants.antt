-- What holds when a turn of the loop of `least_with` begins: the least of v and the coefficients passed.
use mathlib.Core.Path.{◌≡◌}
use lib.ListN.{take}
use Rattle.foundation.specs.Least.{least_from}
use Rattle.audit_notes.proofs.least_with.Given as goal

abbrev pub invariant-loop-x : goal.invariant-loop-x
invariant-loop-x l = l.least ≡ least_from l.v (take l.x-index l.g)
