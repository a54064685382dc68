-- What holds when a turn of a loop of `volumes` begins: the volumes so far stand in their places.
use Prim.Native.Nat.{◌+◌}
use Rattle.foundation.specs.Filled.{Filled}
use Rattle.audit_volumes.specs.Vectors.{volume_at}
use Rattle.audit_volumes.proofs.volumes.Given as goal

abbrev pub invariant-loop-k : goal.invariant-loop-k
invariant-loop-k l = Filled (volume_at l.p) 20 l.k l.out

abbrev pub invariant-loop-k-2 : goal.invariant-loop-k-2
invariant-loop-k-2 l = Filled (volume_at l.p) 20 (8 + l.k) l.out
