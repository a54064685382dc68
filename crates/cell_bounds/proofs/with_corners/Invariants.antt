-- What holds when a turn of a loop of `with_corners` begins, and what grows less.
use Rattle.std.proofs.Common.{◌≡◌, map, take, ◌-◌, ◌≤◌}
use Rattle.foundation.specs.Least.{least_from}
use Rattle.cell_bounds.proofs.with_corners.Given as goal

abbrev pub invariant-loop-k : goal.invariant-loop-k
invariant-loop-k g l = let value = g.N.Number.value in (l.k ≤ 8) × (value l.least ≡ least_from (value l.fn.v) (take l.k (map value l.g)))

abbrev pub decreases-loop-k : goal.decreases-loop-k
decreases-loop-k g l = 8 - l.k
