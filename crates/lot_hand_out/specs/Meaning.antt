-- What the handing out of a lot asks of the file and of the lent space.
use Rattle.std.specs.Prelude.{◌≤◌, length}
use Rattle.lot_format.specs.Reading.{Reading, Room, handed_out}
use Rattle.lot_scan.specs.Meaning.{IsAccepted}

-- a file without fault, and lent words enough for what it holds
pub record Handable (r : Reading) (room : Room) : Type 0 where
  pub good : IsAccepted r
  pub nodes_fit : length (handed_out r).nodes ≤ room.nodes
  pub elements_fit : length (handed_out r).elements ≤ room.elements
  pub names_fit : length (handed_out r).names ≤ room.names
  pub lengths_fit : length (handed_out r).lengths ≤ room.lengths
  pub offsets_fit : length (handed_out r).offsets ≤ room.offsets
