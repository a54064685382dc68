-- The runs that a lot of the code, its groups and lent space stand for.
use Rattle.std.specs.Prelude.{◌≡◌, List, [], length}
use Rattle.foundation.specs.Laid.{laid_over}
use Rattle.lot_format.specs.Format.{Group}
use Rattle.lot_format.specs.Runs.{Runs, groups_of}
use Rattle.lot_format.specs.Reading.{Room}
use Rattle.lot_runs.specs.declared.Groups.{Groups}
use Rattle.lot_runs.specs.declared.Lot.{Lot}
use Rattle.lot_runs.specs.declared.Space.{Space}

-- the groups of their runs
abbrev pub groups_held : Groups → List Group
groups_held g = groups_of g.names.now g.lengths.now g.offsets.now

-- a lot that is handed in
abbrev pub lot_held : Lot → Runs
lot_held lot = record { label = lot.label.now; nodes = lot.nodes.now; elements = lot.elements.now; names = lot.groups.names.now; lengths = lot.groups.lengths.now; offsets = lot.groups.offsets.now }

-- lent space; a label is not lent
abbrev pub space_held : Space → Runs
space_held s = record { label = []; nodes = s.nodes.now; elements = s.elements.now; names = s.names.now; lengths = s.lengths.now; offsets = s.offsets.now }

-- the lengths of runs, and of the lent ones
abbrev pub room_of : Runs → Room
room_of x = record { nodes = length x.nodes; elements = length x.elements; names = length x.names; lengths = length x.lengths; offsets = length x.offsets }

abbrev pub room_held : Space → Room
room_held s = room_of (space_held s)

-- runs laid over the lent ones; a label is not lent
pub record Over (x before now : Runs) : Type 0 where
  pub nodes_after : now.nodes ≡ laid_over x.nodes before.nodes
  pub elements_after : now.elements ≡ laid_over x.elements before.elements
  pub names_after : now.names ≡ laid_over x.names before.names
  pub lengths_after : now.lengths ≡ laid_over x.lengths before.lengths
  pub offsets_after : now.offsets ≡ laid_over x.offsets before.offsets

-- the lent runs are those that were lent, so that whoever lent them knows what was written
pub record Kept (before now : Space) : Type 0 where
  pub nodes : now.nodes.ghost_name ≡ before.nodes.ghost_name
  pub elements : now.elements.ghost_name ≡ before.elements.ghost_name
  pub names : now.names.ghost_name ≡ before.names.ghost_name
  pub lengths : now.lengths.ghost_name ≡ before.lengths.ghost_name
  pub offsets : now.offsets.ghost_name ≡ before.offsets.ghost_name
