-- The runs that a lot was read into, and that the words which the answer counts are there.
use Rattle.std.specs.Prelude.{List, [], ◌∷◌, ℕ, ◌*◌, ◌≤◌, get_or, length}
use Rattle.lot_format.specs.Runs.{Runs}
use Rattle.lot_reader.specs.declared.Contents.{Contents}

-- the label that is handed back, with the lent runs
abbrev pub lent : List ℕ → Runs → Runs
lent label space = record { label = label; nodes = space.nodes; elements = space.elements; names = space.names; lengths = space.lengths; offsets = space.offsets }

-- the five numbers of an accepted lot
abbrev pub told : Contents → List ℕ
told c = 0 ∷ c.nodes ∷ c.elements ∷ c.groups ∷ c.names ∷ []

pub record Counted (now : Runs) (answer : List ℕ) : Type 0 where
  pub nodes : 3 * get_or answer 1 0 ≤ length now.nodes
  pub elements : 8 * get_or answer 2 0 ≤ length now.elements
  pub names : get_or answer 4 0 ≤ length now.names
  pub lengths : get_or answer 3 0 ≤ length now.lengths
  pub offsets : get_or answer 3 0 ≤ length now.offsets
