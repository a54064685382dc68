-- What the functions ask of their numbers.
use Rattle.std.specs.Prelude.{List, ℕ, ◌≤◌, get_or, ℤ, pos, nat_abs}
use Rattle.foundation.specs.Lists.{All}

-- every number of the list lies in −limit..limit
pub record InRange (limit : ℕ) (xs : List ℤ) : Type 0 where
  pub small : (i : ℕ) → nat_abs (get_or xs i (pos 0)) ≤ limit

-- a node's number in its element
abbrev pub Node : ℕ → Type 0
Node n = (1 ≤ n) × (n ≤ 8)

-- the numbers of several
abbrev pub Nodes : List ℕ → Type 0
Nodes t = All Node t
