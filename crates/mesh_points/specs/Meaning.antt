-- What the code's answers stand for in the definitions.
use Rattle.std.proofs.Math.Option.{Option, none, some}
use Rattle.std.specs.Prelude.{ℕ, Option as Found, Some, None}

abbrev pub first_of : Found ℕ → Option ℕ
first_of (Some k) = some k
first_of None = none
