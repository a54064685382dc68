-- How many children are passed over at once.
use Rattle.std.specs.Prelude.{Option, Some, None, ℕ}

-- as `clear` tells it: none, where the child is made
abbrev pub over : Option ℕ → ℕ
over None = 0
over (Some n) = n
