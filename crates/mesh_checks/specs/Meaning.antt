-- What the code's answer stands for in the definitions.
use Rattle.std.specs.Prelude.{Result, Ok, Err}
use Rattle.std.proofs.Math.Option.{Option, none, some}
use Rattle.definitions.specs.Mesh.{MeshRefusal}
use Rattle.inspection_answers.specs.declared.Refusal.{Refusal}
use Rattle.inspection_answers.specs.Meaning.{refusal_held}

abbrev pub check_of : Result (Unit {0}) Refusal → Option MeshRefusal
check_of (Ok u) = none
check_of (Err r) = some (refusal_held r)
