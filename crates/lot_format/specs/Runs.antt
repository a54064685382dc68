-- Document 01, "House rules for later papers": a lot as runs of numbers, as it is handed in and out.
use Rattle.std.specs.Prelude.{List, [], ◌∷◌, map, ℕ, length, take, drop, ℤ}
use Rattle.foundation.specs.Lists.{concat_map}
use Rattle.lot_format.specs.Format.{Lot, Group}

-- "A later paper's groups are handed in and out as names laid end to end, with each one's length and the count of elements before it"
pub record Runs : Type 0 where
  pub label : List ℕ
  pub nodes : List ℤ
  pub elements : List ℕ
  pub names : List ℕ
  pub lengths : List ℕ
  pub offsets : List ℕ

-- the runs of a lot
abbrev pub names_of : List Group → List ℕ
names_of gs = concat_map (λ (g : Group). g.name) gs

abbrev pub lengths_of : List Group → List ℕ
lengths_of gs = map (λ (g : Group). length g.name) gs

abbrev pub offsets_of : List Group → List ℕ
offsets_of gs = map (λ (g : Group). g.offset) gs

abbrev pub runs_of : Lot → Runs
runs_of lot = record { label = lot.label; nodes = lot.nodes; elements = lot.elements; names = names_of lot.groups; lengths = lengths_of lot.groups; offsets = offsets_of lot.groups }

-- the groups of runs, as far as both lists go; a name ends where the names end
abbrev pub groups_of : List ℕ → List ℕ → List ℕ → List Group
groups_of names [] bs = []
groups_of names (l ∷ ls) [] = []
groups_of names (l ∷ ls) (b ∷ bs) = record { name = take l names; offset = b } ∷ groups_of (drop l names) ls bs

abbrev pub lot_from : Runs → Lot
lot_from x = record { label = x.label; nodes = x.nodes; elements = x.elements; groups = groups_of x.names x.lengths x.offsets }
