-- What holds when a turn of a loop of `+survey` begins, and what grows less.
use Rattle.std.proofs.Common.{◌≡◌, map, ◌-◌, ◌<◌, ◌≤◌}
use Rattle.definitions.specs.Subdivision.{Cell}
use Rattle.search_theory.specs.Children.{Ready}
use Rattle.search_theory.specs.Bounds.{extremes_over}
use Rattle.cell_bounds.specs.Meaning.{extremes_of}
use Rattle.cell_bounds.proofs.+survey.Given as goal

abbrev pub decreases-survey : goal.decreases-survey
decreases-survey g l = l.left

abbrev pub invariant-loop-k : goal.invariant-loop-k
invariant-loop-k g l = let value = g.N.Number.value in let values = map value in
    (l.k ≤ 8) × (l.k < 8 → Ready (values l.g) l.k (values l.half) (values l.quarter)) × ((s : Cell) → s.control ≡ values l.g → extremes_of value l.seen ≡ extremes_over s (extremes_of value l.fn.seen) l.left l.k)

abbrev pub decreases-loop-k : goal.decreases-loop-k
decreases-loop-k g l = 8 - l.k
