-- What holds when a turn of a loop of `+visit` begins, and what grows less.
use Rattle.std.proofs.Common.{◌≡◌, map, ◌-◌, ◌<◌, ◌≤◌}
use Rattle.search_theory.specs.Meaning.{cell_of}
use Rattle.search_theory.specs.Children.{Ready}
use Rattle.search_theory.specs.Visit.{over}
use Rattle.cell_search.proofs.+visit.Given as goal

abbrev pub decreases-visit : goal.decreases-visit
decreases-visit g l = l.left

abbrev pub invariant-loop-k : goal.invariant-loop-k
invariant-loop-k g l = let values = map g.N.Number.value in
    (l.k ≤ 8) × (l.k < 8 → Ready (values l.g) l.k (values l.half) (values l.quarter)) × (l.pass ≡ over (cell_of l.place.a l.place.b l.place.c (values l.g)) l.fn.pass (l.left - 1) l.k)

abbrev pub decreases-loop-k : goal.decreases-loop-k
decreases-loop-k g l = 8 - l.k
