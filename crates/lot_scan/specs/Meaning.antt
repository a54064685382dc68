-- What the code's answers stand for in the definitions of the lot file.
use Rattle.std.specs.Prelude.{◌≡◌, Bool, ◌&&◌, ℕ, ◌+◌, ◌*◌, ◌≤◌, leb, length, Result, Ok, Err}
use Rattle.lot_format.specs.Format.{lot_file, Mark as FileMark, LB as mark_lb, ND as mark_nd, HX as mark_hx, GR as mark_gr, EN as mark_en}
use Rattle.lot_format.specs.Runs.{names_of}
use Rattle.lot_format.specs.Reading.{Unreadable as FileUnreadable, Reading, readable, unreadable, lot_of, Room}
use Rattle.lot_entry_reader.specs.declared.Unreadable.{Unreadable}
use Rattle.lot_entry_reader.specs.Meaning.{unreadable_held}
use Rattle.lot_scan.specs.declared.Counts.{Counts}

abbrev pub no_counts : Counts
no_counts = record { label = 0; nodes = 0; elements = 0; groups = 0; names = 0 }

-- the counts with one entry more, whose body has so many bytes
abbrev pub counted_of : FileMark → ℕ → Counts → Counts
counted_of mark_lb len n = record { label = n.label + len; nodes = n.nodes; elements = n.elements; groups = n.groups; names = n.names }
counted_of mark_nd len n = record { label = n.label; nodes = n.nodes + 1; elements = n.elements; groups = n.groups; names = n.names }
counted_of mark_hx len n = record { label = n.label; nodes = n.nodes; elements = n.elements + 1; groups = n.groups; names = n.names }
counted_of mark_gr len n = record { label = n.label; nodes = n.nodes; elements = n.elements; groups = n.groups + 1; names = n.names + len }
counted_of mark_en len n = n

-- no more than a file has bytes
pub record Small (len : ℕ) (n : Counts) : Type 0 where
  pub len_small : len ≤ lot_file.bytes
  pub label : n.label ≤ lot_file.bytes
  pub nodes : n.nodes ≤ lot_file.bytes
  pub elements : n.elements ≤ lot_file.bytes
  pub groups : n.groups ≤ lot_file.bytes
  pub names : n.names ≤ lot_file.bytes

-- What the scan of a file finds: how many bytes its label has, how many words its nodes, its elements and its groups have, how many bytes the names; or why the file is refused.
pub data Found : Type 0 where
  holds : (label nodes elements groups names : ℕ) → Found
  fails : FileUnreadable → Found

abbrev pub scan_held : Result Counts Unreadable → Found
scan_held (Ok n) = holds n.label (3 * n.nodes) (8 * n.elements) n.groups n.names
scan_held (Err r) = fails (unreadable_held r)

abbrev pub scan_of : Reading → Found
scan_of (readable lot) = holds (length lot.label) (length lot.nodes) (length lot.elements) (length lot.groups) (length (names_of lot.groups))
scan_of (unreadable r) = fails r

abbrev pub Few : Result Counts Unreadable → Type 0
Few (Ok n) = Small 0 n
Few (Err r) = Unit

-- whether there is room for so much
abbrev pub has_room : Counts → Room → Bool
has_room n room = leb (3 * n.nodes) room.nodes && (leb (8 * n.elements) room.elements && (leb n.names room.names && (leb n.groups room.lengths && leb n.groups room.offsets)))

-- a file without fault
abbrev pub IsAccepted : Reading → Type 0
IsAccepted r = r ≡ readable (lot_of r)
