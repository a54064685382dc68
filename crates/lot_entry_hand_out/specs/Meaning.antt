-- What the handing out of one entry asks of the file and of the lent space, and what it leaves there.
use Rattle.std.specs.Prelude.{◌≡◌, true, List, ℕ, ◌+◌, ◌*◌, ◌≤◌, length, take, drop}
use Rattle.foundation.specs.Laid.{put}
use Rattle.lot_format.specs.Format.{lot_file, Mark as FileMark, right_length}
use Rattle.lot_format.specs.Runs.{Runs, runs_of}
use Rattle.lot_format.specs.Reading.{contents, Room}
use Rattle.lot_scan.specs.declared.Counts.{Counts}
use Rattle.lot_scan.specs.Meaning.{Small}

-- the runs of one entry, whose body of so many bytes starts at a place of the file, where so much was read before
abbrev pub new_runs : FileMark → List ℕ → ℕ → ℕ → Counts → Runs
new_runs m file at len n = runs_of (contents m (take len (drop at file)) n.elements)

-- the entry's bytes and the words for what it holds are there
pub record Fitting (m : FileMark) (file : List ℕ) (at len : ℕ) (n : Counts) (room : Room) : Type 0 where
  pub right : right_length lot_file m len ≡ true
  pub within : at + len ≤ length file
  pub small : Small len n
  pub nodes_fit : 3 * n.nodes + length (new_runs m file at len n).nodes ≤ room.nodes
  pub elements_fit : 8 * n.elements + length (new_runs m file at len n).elements ≤ room.elements
  pub names_fit : n.names + length (new_runs m file at len n).names ≤ room.names
  pub lengths_fit : n.groups + length (new_runs m file at len n).lengths ≤ room.lengths
  pub offsets_fit : n.groups + length (new_runs m file at len n).offsets ≤ room.offsets

-- the lent runs with one entry's runs laid behind what so much was read before
pub record Laid (x : Runs) (n : Counts) (before now : Runs) : Type 0 where
  pub nodes_after : now.nodes ≡ put (3 * n.nodes) x.nodes before.nodes
  pub elements_after : now.elements ≡ put (8 * n.elements) x.elements before.elements
  pub names_after : now.names ≡ put n.names x.names before.names
  pub lengths_after : now.lengths ≡ put n.groups x.lengths before.lengths
  pub offsets_after : now.offsets ≡ put n.groups x.offsets before.offsets
