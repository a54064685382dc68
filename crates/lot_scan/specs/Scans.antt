-- What the scan of a file tells of its reading. Assumes nothing.
use Rattle.std.specs.Prelude.{◌≡◌, refl, List, ℕ, ◌*◌, length}
use Rattle.std.proofs.Common.{sym, arith}
use Rattle.std.proofs.lemmas.List.{length-map}
use Rattle.lot_format.specs.Format.{Group}
use Rattle.lot_format.specs.Runs.{names_of, lengths_of, offsets_of, runs_of}
use Rattle.lot_format.specs.Reading.{Unreadable, Reading, readable, unreadable, Room, room_for, lot_of}
use Rattle.lot_scan.specs.declared.Counts.{Counts}
use Rattle.lot_scan.specs.Meaning.{no_counts, holds, fails, scan_of, has_room, IsAccepted}

pub scan_fails : {w : Unreadable} (r : Reading) → fails w ≡ scan_of r → r ≡ unreadable w
scan_fails (readable lot) e = let z : ◌≡◌ {A = ℕ} 0 1 = cc in absurd (omega arith)
scan_fails (unreadable w) e = cc

-- a file that is accepted, with the lengths of what it holds
pub record Accepts (r : Reading) (label nodes elements groups names : ℕ) : Type 0 where
  pub good : IsAccepted r
  pub label_long : length (lot_of r).label ≡ label
  pub nodes_long : length (lot_of r).nodes ≡ nodes
  pub elements_long : length (lot_of r).elements ≡ elements
  pub groups_long : length (lot_of r).groups ≡ groups
  pub names_long : length (names_of (lot_of r).groups) ≡ names

pub scan_holds : {label nodes elements groups names : ℕ} (r : Reading) → holds label nodes elements groups names ≡ scan_of r → Accepts r label nodes elements groups names
scan_holds (readable lot) e = record { good = refl; label_long = cc; nodes_long = cc; elements_long = cc; groups_long = cc; names_long = cc }
scan_holds (unreadable w) e = let z : ◌≡◌ {A = ℕ} 0 1 = cc in absurd (omega arith)

-- a group has a word of the lengths and one of the counts
pub as_many_lengths : (gs : List Group) → length (lengths_of gs) ≡ length gs
as_many_lengths gs = length-map gs (λ (g : Group). length g.name)

pub as_many_offsets : (gs : List Group) → length (offsets_of gs) ≡ length gs
as_many_offsets gs = length-map gs (λ (g : Group). g.offset)

pub room_same : {label : ℕ} (n : Counts) (r : Reading) (room : Room) → Accepts r label (3 * n.nodes) (8 * n.elements) n.groups n.names → room_for (runs_of (lot_of r)) room ≡ has_room n room
room_same n r room a = let gs = (lot_of r).groups in rw (a.nodes_long, a.elements_long, a.names_long, as_many_lengths gs, as_many_offsets gs, a.groups_long)

-- counts that are the same in each part, and so the default of the code's counts
same_counts : {a a' b b' c c' d d' e e' : ℕ} → a ≡ a' → b ≡ b' → c ≡ c' → d ≡ d' → e ≡ e'
    → ◌≡◌ {A = Counts} (record { label = a; nodes = b; elements = c; groups = d; names = e }) (record { label = a'; nodes = b'; elements = c'; groups = d'; names = e' })
same_counts p q r s t = cc

pub default_counts : (n : Counts) → (n.label ≡ 0) × ((n.nodes ≡ 0) × ((n.elements ≡ 0) × ((n.groups ≡ 0) × (n.names ≡ 0)))) → no_counts ≡ n
default_counts n e = same_counts (sym e.0) (sym e.1.0) (sym e.1.1.0) (sym e.1.1.1.0) (sym e.1.1.1.1)
