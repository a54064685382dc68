-- One step of reading, case by case: what an entry is, and what is left to read after it.
use Rattle.std.specs.Prelude.{◌≡◌, true, false, List, ℕ, suc, ◌+◌, ◌/◌, ◌≤◌, ◌<◌, get_or, length, take, drop}
use Rattle.std.proofs.Math.Option.{none, some}
use Rattle.std.proofs.Common.{lt-ltb, le-ltb}
use Rattle.lot_format.specs.Numbers.{number}
use Rattle.lot_format.specs.Format.{FileLimits, Lot, Mark, mark_of, right_length, Stage, at_label, in_place, stage_after}
use Rattle.lot_format.specs.Runs.{runs_of}
use Rattle.lot_format.specs.Reading.{Room, room_for, Unreadable, too_long, cut_short, unknown_mark, wrong_length, out_of_place, body_fault, faulty_entry, whole_entry, body_of, known_of, entry_of, no_room, taken, readable, unreadable, has_ended, ending, read_from, no_lot, read_lot, reading}

-- ---- a body
module _ (F : FileLimits) (m : Mark) (n len : ℕ) (rest : List ℕ) where
  pub body_cut : length rest < len → body_of F m n len rest ≡ faulty_entry cut_short
  unfolding body_of
  body_cut h = rw (lt-ltb (length rest) len h, body_of)

  pub body_wrong : (r : Unreadable) → len ≤ length rest → body_fault F m n (take len rest) ≡ some r → body_of F m n len rest ≡ faulty_entry r
  unfolding body_of
  body_wrong r h e = rw (le-ltb (length rest) len h, e, body_of)

  pub body_right : len ≤ length rest → body_fault F m n (take len rest) ≡ none → body_of F m n len rest ≡ whole_entry m (take len rest)
  unfolding body_of
  body_right h e = rw (le-ltb (length rest) len h, e, body_of)

-- ---- an entry whose mark is known
module _ (F : FileLimits) (stage : Stage) (m : Mark) (n : ℕ) (bytes : List ℕ) where
  pub known_out : in_place stage m ≡ false → known_of F stage m n bytes ≡ faulty_entry out_of_place
  unfolding known_of
  known_out e = rw (e, known_of)

  pub known_length : {len : ℕ} → in_place stage m ≡ true → len ≡ number (take 2 (drop 2 bytes)) → right_length F m len ≡ false → known_of F stage m n bytes ≡ faulty_entry wrong_length
  unfolding known_of
  known_length e l f = rw (e, ← l, f, known_of)

  pub known_body : {len : ℕ} → in_place stage m ≡ true → len ≡ number (take 2 (drop 2 bytes)) → right_length F m len ≡ true → known_of F stage m n bytes ≡ body_of F m n len (drop 4 bytes)
  unfolding known_of
  known_body e l f = rw l (rw (e, rw l at f, known_of))

-- ---- an entry
module _ (F : FileLimits) (stage : Stage) (n : ℕ) (bytes : List ℕ) where
  pub entry_cut : length bytes < 4 → entry_of F stage n bytes ≡ faulty_entry cut_short
  unfolding entry_of
  entry_cut h = rw (lt-ltb (length bytes) 4 h, entry_of)

  pub entry_unknown : 4 ≤ length bytes → mark_of (get_or bytes 0 0) (get_or bytes 1 0) ≡ none → entry_of F stage n bytes ≡ faulty_entry unknown_mark
  unfolding entry_of
  entry_unknown h e = rw (le-ltb (length bytes) 4 h, e, entry_of)

  pub entry_known : {m : Mark} → 4 ≤ length bytes → mark_of (get_or bytes 0 0) (get_or bytes 1 0) ≡ some m → entry_of F stage n bytes ≡ known_of F stage m n bytes
  unfolding entry_of
  entry_known h e = rw (le-ltb (length bytes) 4 h, e, entry_of)

-- ---- the bytes that are left
module _ (F : FileLimits) (k : ℕ) (stage : Stage) (lot : Lot) (bytes : List ℕ) where
  pub read_ended : has_ended stage ≡ true → read_from F (suc k) stage lot bytes ≡ ending lot bytes
  unfolding read_from
  read_ended e = rw (e, read_from)

  pub read_faulty : {r : Unreadable} → has_ended stage ≡ false → entry_of F stage (length lot.elements / 8) bytes ≡ faulty_entry r → read_from F (suc k) stage lot bytes ≡ unreadable r
  unfolding read_from
  read_faulty e f = rw (e, f, read_from)

  pub read_whole : {m : Mark} {body : List ℕ} → has_ended stage ≡ false → entry_of F stage (length lot.elements / 8) bytes ≡ whole_entry m body
      → read_from F (suc k) stage lot bytes ≡ read_from F k (stage_after m) (taken m body lot) (drop (4 + length body) bytes)
  unfolding read_from
  read_whole e f = rw (e, f, read_from)

pub read_long : (F : FileLimits) (file : List ℕ) → F.bytes < length file → read_lot F file ≡ unreadable too_long
unfolding read_lot
read_long F file h = rw (lt-ltb F.bytes (length file) h, read_lot)

pub read_start : (F : FileLimits) (file : List ℕ) → length file ≤ F.bytes → read_lot F file ≡ read_from F (suc (length file)) at_label no_lot file
unfolding read_lot
read_start F file h = rw (le-ltb F.bytes (length file) h, read_lot)

-- ---- the lent space
module _ (F : FileLimits) (file : List ℕ) (room : Room) where
  pub reading_refused : {r : Unreadable} → read_lot F file ≡ unreadable r → reading F file room ≡ unreadable r
  unfolding reading
  reading_refused e = rw (e, reading)

  module _ {lot : Lot} (good : read_lot F file ≡ readable lot) where
    pub reading_full : room_for (runs_of lot) room ≡ false → reading F file room ≡ unreadable no_room
    unfolding reading
    reading_full h = rw (good, h, reading)

    pub reading_fits : room_for (runs_of lot) room ≡ true → reading F file room ≡ readable lot
    unfolding reading
    reading_fits h = rw (good, h, reading)
