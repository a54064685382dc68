-- What holds when a turn of the loop of `all_near` begins.
use Rattle.std.proofs.Common.{◌≡◌}
use Rattle.cell_points.specs.OneWord.{near_to}
use Rattle.search_points.proofs.all_near.Given as goal

abbrev pub invariant-loop-x : goal.invariant-loop-x
invariant-loop-x l = l.near ≡ near_to l.p l.x-index
