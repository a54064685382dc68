use Rattle.std.proofs.Common.{map}
use Rattle.expansion_theory.specs.Rows.{Holds}
use Rattle.cell_numbers.specs.Values.{cut_most}
use Rattle.cell_halves.proofs.half.Given as goal

abbrev pub invariant-loop-x : goal.invariant-loop-x
invariant-loop-x g l = let v = g.N.Number.value in Holds (cut_most g.N.Number.most) g.row.D g.row.H l.x-index (map v l.c) (map v l.out)
