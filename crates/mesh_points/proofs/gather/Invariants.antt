-- What holds when a turn of a loop of `gather` begins.
use mathlib.Core.Path.{◌≡◌}
use Prim.Native.Nat.{ℕ, ◌*◌, ◌<◌}
use lib.ListN.{length, get_or}
use lib.IntN.{pos}
use Rattle.definitions.specs.Mesh.{points_of}
use Rattle.mesh_points.proofs.gather.Given as goal

abbrev pub invariant-loop-place : goal.invariant-loop-place
invariant-loop-place l = (length l.p ≡ 24) × ((j : ℕ) → j < 3 * l.place → get_or l.p j (pos 0) ≡ get_or (points_of l.coordinates l.ix) j (pos 0))
