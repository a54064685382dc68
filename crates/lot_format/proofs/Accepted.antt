-- An accepted file is the writing-out of the lot that is handed out, and this lot keeps to the limits.
use Rattle.std.specs.Prelude.{◌≡◌, Bool, ◌&&◌, List, [], ℕ, suc, ◌+◌, ◌≤◌, T, leb, length, take, drop}
use Rattle.std.proofs.Math.Path.{refl}
use Rattle.std.proofs.Common.{sym, ◌∙◌, ap, subst, arith, leb→le, ltb-false}
use Rattle.std.proofs.Math.Bool.{true, false}
use Rattle.std.proofs.Math.Dec.{ltb}
use Rattle.std.specs.Float.Ieee.Fits.{and_l, and_r}
use Rattle.std.proofs.Math.ListN.{length-append}
use Rattle.std.proofs.Math.Seq.{take-append_seam}
use Rattle.foundation.specs.Lists.{All}
use Rattle.lot_format.specs.Numbers.{Byte}
use Rattle.lot_format.specs.Format.{FileLimits, Lot, at_label, at_end, written}
use Rattle.lot_format.specs.Runs.{Runs, runs_of}
use Rattle.lot_format.specs.Reading.{too_long, no_room, Reading, readable, unreadable, read_from, no_lot, read_lot, Room, room_for, reading, handed_out}
use Rattle.lot_format.proofs.Through.{not_accepted, through}
use Rattle.lot_format.specs.Lawful.{Lawful, lawful_no_lot}
use Rattle.lot_format.proofs.Between.{Between, between_step}

module _ (F : FileLimits) (file : List ℕ) (lot : Lot) where
  within : read_lot F file ≡ readable lot → (length file ≤ F.bytes) × (read_from F (suc (length file)) at_label no_lot file ≡ readable lot)
  unfolding read_lot
  within e = go (ltb F.bytes (length file)) refl e
    where
      go : (t : Bool) → ltb F.bytes (length file) ≡ t → elim t [ true ↦ unreadable too_long | false ↦ read_from F (suc (length file)) at_label no_lot file ] ≡ readable lot
          → (length file ≤ F.bytes) × (read_from F (suc (length file)) at_label no_lot file ≡ readable lot)
      go true p e = not_accepted too_long e
      go false p e = (ltb-false F.bytes (length file) p, e)

  accepted_end : All Byte file → read_lot F file ≡ readable lot → Between F file at_end lot []
  accepted_end h e = through F (Between F file) (λ stage m l bytes body w g. between_step w g) lot (suc (length file)) at_label no_lot file (within e).1 (record { left = h; lawful = lawful_no_lot F; so_far = (refl, refl) })

  -- ---- what is known of an accepted file, and of its lot
  pub accepted_short : read_lot F file ≡ readable lot → length file ≤ F.bytes
  accepted_short e = (within e).0

  pub accepted_lawful : All Byte file → read_lot F file ≡ readable lot → Lawful F lot
  accepted_lawful h e = (accepted_end h e).lawful

  pub accepted_written : All Byte file → read_lot F file ≡ readable lot → file ≡ written lot
  unfolding written
  accepted_written h e = (accepted_end h e).so_far

  -- the label stands behind the four bytes of its mark and length
  pub accepted_label : All Byte file → read_lot F file ≡ readable lot → lot.label ≡ take (length lot.label) (drop 4 file)
  unfolding written
  accepted_label h e = rw (accepted_written h e) (sym (take-append_seam lot.label _))

  pub accepted_label_fits : All Byte file → read_lot F file ≡ readable lot → 4 + length lot.label ≤ length file
  unfolding written
  accepted_label_fits h e = rw (accepted_written h e) (simp length-append (omega arith))

-- ---- with lent space: what is handed out is what the file holds, and there is room for it
module _ (F : FileLimits) (file : List ℕ) (room : Room) (lot : Lot) where
  pub reading_accepted : reading F file room ≡ readable lot → (read_lot F file ≡ readable lot) × (room_for (runs_of lot) room ≡ true)
  unfolding reading
  reading_accepted e = go (read_lot F file) refl e
    where
      roomy : (l : Lot) (t : Bool) → room_for (runs_of l) room ≡ t → elim t [ true ↦ readable l | false ↦ unreadable no_room ] ≡ readable lot → (l ≡ lot) × (room_for (runs_of l) room ≡ true)
      roomy l true p e = (cc, p)
      roomy l false p e = not_accepted no_room e

      go : (r : Reading) → read_lot F file ≡ r → elim r [ unreadable w ↦ unreadable w | readable l ↦ elim (room_for (runs_of l) room) [ true ↦ readable l | false ↦ unreadable no_room ] ] ≡ readable lot
          → (read_lot F file ≡ readable lot) × (room_for (runs_of lot) room ≡ true)
      go (unreadable w) p e = not_accepted w e
      go (readable l) p e = let q = roomy l (room_for (runs_of l) room) refl e in (p ∙ ap readable q.0, subst (λ (x : Lot). room_for (runs_of x) room ≡ true) q.0 q.1)

-- each run fits the lent one
pub record Fits (x : Runs) (room : Room) : Type 0 where
  pub nodes : length x.nodes ≤ room.nodes
  pub elements : length x.elements ≤ room.elements
  pub names : length x.names ≤ room.names
  pub lengths : length x.lengths ≤ room.lengths
  pub offsets : length x.offsets ≤ room.offsets

pub room_fits : (x : Runs) (room : Room) → room_for x room ≡ true → Fits x room
room_fits x room e =
    let nodes = leb (length x.nodes) room.nodes in
    let elements = leb (length x.elements) room.elements in
    let names = leb (length x.names) room.names in
    let lengths = leb (length x.lengths) room.lengths in
    let offsets = leb (length x.offsets) room.offsets in
    let t₀ : T (nodes && (elements && (names && (lengths && offsets)))) = subst T (sym e) tt in
    let t₁ = and_r nodes (elements && (names && (lengths && offsets))) t₀ in
    let t₂ = and_r elements (names && (lengths && offsets)) t₁ in
    let t₃ = and_r names (lengths && offsets) t₂ in
    record {
      nodes = leb→le _ _ (and_l nodes (elements && (names && (lengths && offsets))) t₀);
      elements = leb→le _ _ (and_l elements (names && (lengths && offsets)) t₁);
      names = leb→le _ _ (and_l names (lengths && offsets) t₂);
      lengths = leb→le _ _ (and_l lengths offsets t₃);
      offsets = leb→le _ _ (and_r lengths offsets t₃);
    }

-- ---- the label that is handed out, of any file
module _ (F : FileLimits) (file : List ℕ) (room : Room) (h : All Byte file) where
  pub handed_label_short : length (handed_out (reading F file room)).label ≤ F.name
  handed_label_short = go (reading F file room) refl
    where
      go : (r : Reading) → reading F file room ≡ r → length (handed_out r).label ≤ F.name
      go (unreadable w) e = omega arith
      go (readable lot) e = (accepted_lawful F file lot h (reading_accepted F file room lot e).0).label.short
