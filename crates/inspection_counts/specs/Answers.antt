-- The stamp, by its two tests, as the code's branches reach it. Assumes nothing.
use Rattle.std.specs.Prelude.{◌≡◌, Bool}
use Rattle.std.proofs.Common.{ap₂}
use Rattle.definitions.specs.Mesh.{Counts, stamp_by, only_valid, some_faulty, stamp_of}

pub stamp_is : (n : Counts) (valid found : Bool) → only_valid n ≡ valid → some_faulty n ≡ found → stamp_of n ≡ stamp_by valid found
unfolding stamp_of
stamp_is n valid found e f = ap₂ stamp_by e f
