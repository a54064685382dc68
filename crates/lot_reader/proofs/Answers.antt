-- What the scan of a file tells of the answer of `read`. Assumes nothing.
use mathlib.Core.Path.{◌≡◌, sym, ◌∙◌, ap, ap₂, subst}
use mathlib.Core.List.{List, [], ◌∷◌}
use Prim.Native.Nat.{ℕ, ◌+◌, ◌-◌, ◌*◌, ◌/◌, ◌≤◌}
use native.Mathlib.Omega.{arith}
use lib.ListN.{length, take, drop}
use Rattle.foundation.specs.Lists.{All}
use Rattle.lot_format.specs.Numbers.{Byte}
use Rattle.lot_format.specs.Format.{lot_file, Lot}
use Rattle.lot_format.specs.Runs.{Runs, runs_of}
use Rattle.lot_runs.specs.Meaning.{Over}
use Rattle.lot_format.specs.Reading.{readable, read_lot, Room as FileRoom, reading, lot_of, handed_out, label_place, reading_number, reading_numbers}
use Rattle.lot_format.proofs.Accepted.{accepted_label, accepted_label_fits, reading_accepted, Fits, room_fits}
use Rattle.lot_scan.specs.declared.Counts.{Counts}
use Rattle.std.proofs.Common.{Ok}
use Rattle.lot_scan.specs.Meaning.{scan_held, scan_of, IsAccepted}
use Rattle.lot_scan.specs.Scans.{Accepts, scan_holds, as_many_lengths}
use Rattle.lot_hand_out.specs.Meaning.{Handable}

-- that a file is accepted with so many lent words is that it is accepted, and that there is room
pub record Readable (file : List ℕ) (room : FileRoom) : Type 0 where
  pub same : read_lot lot_file file ≡ reading lot_file file room
  pub good : IsAccepted (read_lot lot_file file)
  pub fits : Fits (runs_of (lot_of (read_lot lot_file file))) room

pub is_readable : (file : List ℕ) (room : FileRoom) → IsAccepted (reading lot_file file room) → Readable file room
is_readable file room e =
    let lot = lot_of (reading lot_file file room) in
    let parts = reading_accepted lot_file file room lot e in
    let same = parts.0 ∙ sym e in
    let whole : lot_of (read_lot lot_file file) ≡ lot = ap lot_of same in
    record { same = same; good = parts.0 ∙ ap readable (sym whole); fits = subst (λ (l : Lot). Fits (runs_of l) room) (sym whole) (room_fits (runs_of lot) room parts.1) }

pub handable : (file : List ℕ) (room : FileRoom) → Readable file room → Handable (read_lot lot_file file) room
handable file room x = record { good = x.good; nodes_fit = x.fits.nodes; elements_fit = x.fits.elements; names_fit = x.fits.names; lengths_fit = x.fits.lengths; offsets_fit = x.fits.offsets }

-- runs laid over the lent ones, by another name
pub over_same : {x y before now : Runs} → x ≡ y → Over x before now → Over y before now
over_same {x} {y} {before} {now} e = subst (λ (x : Runs). Over x before now) e

-- ---- all that the scan of an accepted file tells
module _ (file : List ℕ) (room : FileRoom) (n : Counts) (e : scan_held (Ok n) ≡ scan_of (reading lot_file file room)) where
  accepts : Accepts (reading lot_file file room) n.label (3 * n.nodes) (8 * n.elements) n.groups n.names
  accepts = scan_holds (reading lot_file file room) e

  read_parts : Readable file room
  read_parts = is_readable file room accepts.good

  pub read_handable : Handable (read_lot lot_file file) room
  read_handable = handable file room read_parts

  pub read_same : handed_out (read_lot lot_file file) ≡ handed_out (reading lot_file file room)
  read_same = ap handed_out read_parts.same

  pub read_numbers : 0 ∷ n.nodes ∷ n.elements ∷ n.groups ∷ n.names ∷ [] ≡ reading_numbers (reading lot_file file room)
  unfolding reading_numbers
  read_numbers =
      let lot = lot_of (reading lot_file file room) in
      let a = accepts in
      let nodes : length lot.nodes / 3 ≡ n.nodes = omega (arith, a.nodes_long) in
      let elements : length lot.elements / 8 ≡ n.elements = omega (arith, a.elements_long) in
      sym (ap₂ (λ (k : ℕ) (l : List ℕ). k ∷ l) (ap reading_number a.good) (rw (nodes, elements, as_many_lengths lot.groups, a.groups_long, a.names_long)))

  pub read_place : label_place (reading lot_file file room) ≡ 4
  read_place = ap label_place accepts.good

  module _ (bytes : All Byte file) where
    whole_file : read_lot lot_file file ≡ readable (lot_of (reading lot_file file room))
    whole_file = read_parts.same ∙ accepts.good

    pub label_there : 4 + n.label ≤ length file
    label_there = omega (arith, accepts.label_long, accepted_label_fits lot_file file _ bytes whole_file)

    pub label_is : take (4 + n.label - 4) (drop 4 file) ≡ (handed_out (reading lot_file file room)).label
    label_is =
        let long : 4 + n.label - 4 ≡ length (lot_of (reading lot_file file room)).label = omega (arith, accepts.label_long) in
        ap (λ (k : ℕ). take k (drop 4 file)) long ∙ sym (accepted_label lot_file file _ bytes whole_file)
