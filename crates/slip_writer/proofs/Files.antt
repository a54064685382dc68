-- The slip of a file, by what its reading hands out. Assumes nothing.
use mathlib.Core.Path.{◌≡◌, refl, sym, ◌∙◌, ap, ap₂}
use mathlib.Core.List.{List}
use Prim.Native.Nat.{ℕ, ◌*◌, ◌/◌, ◌≤◌}
use native.Mathlib.Omega.{arith}
use lib.Dec.{leb}
use lib.ListN.{get_or, length, drop, length-append, length-map}
use Rattle.foundation.specs.Lists.{All}
use Rattle.foundation.specs.Laid.{laid_over}
use Rattle.definitions.specs.Limits.{base}
use Rattle.lot_format.specs.Numbers.{Byte}
use Rattle.lot_format.specs.Format.{lot_file, Lot, Group}
use Rattle.lot_format.specs.Runs.{Runs, runs_of, lot_from}
use Rattle.lot_format.specs.Reading.{Unreadable, unreadable_number, Reading, readable, unreadable, read_lot, reading, lot_of, reading_number, reading_numbers}
use Rattle.lot_format.specs.RunLaws.{lot_back}
use Rattle.lot_format.specs.Numbered.{not_zero}
use Rattle.lot_roundtrip_theory.specs.Ample.{ample, ample_room}
use Rattle.lot_reader.specs.Promise.{read_over, Read, read_runs}
use Rattle.slip_format.specs.Slip.{slip_limits, refused_line, mesh_slip, slip_if, lot_slip, slip_of}
use Rattle.slip_meshes.specs.Counted.{Counted}
use Rattle.slip_answers.specs.Answered.{answered_slip, refused_by, counted_by_law}

-- lent runs that are large enough for any lot
pub record Ample (lent : Runs) : Type 0 where
  pub nodes : length lent.nodes ≡ ample.nodes
  pub elements : length lent.elements ≡ ample.elements
  pub names : length lent.names ≡ ample.names
  pub lengths : length lent.lengths ≡ ample.lengths
  pub offsets : length lent.offsets ≡ ample.offsets

laid_long : {A : Type 0} (xs space now : List A) → now ≡ laid_over xs space → length xs ≤ length now
laid_long xs space now e = omega (arith, ap length e ∙ length-append xs (drop (length xs) space))

abbrev slip_by : Reading → List ℕ
slip_by r = elim r [ unreadable w ↦ refused_line (unreadable_number w) | readable lot ↦ lot_slip base slip_limits lot ]

slip_by_law : (file : List ℕ) (r : Reading) → read_lot lot_file file ≡ r → slip_of base lot_file slip_limits file ≡ slip_by r
unfolding slip_of
slip_by_law file r e = ap slip_by e

-- ---- the slip by the answer of the reading is that of the file
module _ (file : List ℕ) (lent now : Runs) (answer : List ℕ) (bytes : All Byte file) (x : Read file lent now answer) where
  word : (k : ℕ) → get_or answer k 0 ≡ get_or (reading_numbers (read_over file lent)) k 0
  word k = ap (λ (l : List ℕ). get_or l k 0) x.answer_is

  number : get_or answer 0 0 ≡ reading_number (read_over file lent)
  unfolding reading_numbers
  number = word 0

  abbrev lot : Lot
  lot = lot_of (read_over file lent)

  whole : Ample lent → read_over file lent ≡ read_lot lot_file file
  whole a = (λ i. reading lot_file file (record { nodes = a.nodes i; elements = a.elements i; names = a.names i; lengths = a.lengths i; offsets = a.offsets i })) ∙ ample_room file bytes

  refused_slip : (w : Unreadable) → read_over file lent ≡ unreadable w → read_lot lot_file file ≡ unreadable w → answered_slip now answer ≡ slip_of base lot_file slip_limits file
  refused_slip w e f =
      let told = number ∙ ap reading_number e in
      sym (refused_by now answer (λ z. not_zero w (sym told ∙ z))) ∙ ap refused_line told ∙ sym (slip_by_law file (unreadable w) f)

  read_slip : (r : Reading) → read_over file lent ≡ r → read_lot lot_file file ≡ r → answered_slip now answer ≡ slip_of base lot_file slip_limits file
  unfolding reading_numbers lot_slip
  read_slip (unreadable w) e f = refused_slip w e f
  read_slip (readable l) e f =
      let zero = number ∙ ap reading_number e in
      let runs = ap (λ (r : Runs). lot_from r) (read_runs file lent now answer bytes x zero) ∙ lot_back lot ∙ ap lot_of e in
      let count = word 2 ∙ ap (λ (r : Reading). length (lot_of r).elements / 8) e in
      sym (counted_by_law now answer zero (leb (get_or answer 2 0) slip_limits.elements) refl)
      ∙ ap₂ (λ (n : ℕ) (m : Lot). slip_if (leb n slip_limits.elements) (mesh_slip base slip_limits.depth m)) count runs
      ∙ sym (slip_by_law file (readable l) f)

  pub answered_slip_law : Ample lent → answered_slip now answer ≡ slip_of base lot_file slip_limits file
  answered_slip_law a = read_slip (read_lot lot_file file) (whole a) refl

  pub read_counted : Counted now answer
  unfolding reading_numbers
  read_counted =
      let groups = length-map lot.groups (λ (g : Group). length g.name) in
      let offsets = length-map lot.groups (λ (g : Group). g.offset) in
      record {
        nodes = omega (arith, word 1, laid_long lot.nodes lent.nodes now.nodes x.nodes_are);
        elements = omega (arith, word 2, laid_long lot.elements lent.elements now.elements x.elements_are);
        names = omega (arith, word 4, laid_long (runs_of lot).names lent.names now.names x.names_are);
        lengths = omega (arith, word 3, laid_long (runs_of lot).lengths lent.lengths now.lengths x.lengths_are);
        offsets = omega (arith, word 3, laid_long (runs_of lot).offsets lent.offsets now.offsets x.offsets_are);
      }
