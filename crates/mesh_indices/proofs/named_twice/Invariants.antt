-- What holds when a turn of a loop of `named_twice` begins.
use mathlib.Core.Path.{◌≡◌}
use Rattle.definitions.specs.Mesh.{named_twice}
use Rattle.mesh_indices.specs.Pairs.{pairs_from}
use Rattle.mesh_indices.proofs.named_twice.Given as goal

abbrev pub invariant-loop-first : goal.invariant-loop-first
invariant-loop-first l = named_twice l.ix ≡ pairs_from l.ix l.first
