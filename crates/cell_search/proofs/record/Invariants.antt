-- What holds when a turn of a loop of `record` begins, and what grows less.
use Rattle.std.proofs.Common.{map, ◌-◌, ◌≤◌}
use Rattle.search_theory.specs.Levels.{Made}
use Rattle.cell_search.specs.Meaning.{itself}
use Rattle.cell_search.proofs.record.Given as goal

abbrev pub invariant-loop-m : goal.invariant-loop-m
invariant-loop-m g l = (l.m ≤ l.depth) × Made itself (map g.N.Number.value l.g) l.m l.pass

abbrev pub decreases-loop-m : goal.decreases-loop-m
decreases-loop-m g l = l.depth - l.m
