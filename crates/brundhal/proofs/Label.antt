-- The place and the length that a lot file's answer gives are those of its label in the file. Assumes nothing.
use mathlib.Core.Path.{◌≡◌, refl, sym, ◌∙◌, ap, ap₂}
use mathlib.Core.List.{List, [], ◌∷◌, ◌++◌}
use Prim.Native.Nat.{ℕ, ◌≤◌}
use native.Mathlib.Omega.{arith}
use lib.IntN.{ℤ}
use lib.ListN.{get_or, length, take, drop}
use Rattle.foundation.specs.Lists.{All}
use Rattle.lot_format.specs.Numbers.{Byte}
use Rattle.lot_format.specs.Format.{FileLimits, lot_file}
use Rattle.lot_format.specs.Reading.{unreadable_number, Reading, readable, unreadable, reading_number, Room, reading, read_into, handed_out, label_place, reading_numbers}
use Rattle.lot_format.specs.Numbered.{not_zero}
use Rattle.lot_format.proofs.Accepted.{reading_accepted, accepted_label, handed_label_short}
use Rattle.brundhal_lot_answers.specs.declared.BrundhalLot.{BrundhalLot}
use Rattle.brundhal_lot_answers.specs.Meaning.{label_start, other_start, lot_told, lot_numbers, lot_fields}

pub start_is_place : (r : Reading) → label_start (reading_number r) ≡ label_place r
start_is_place (readable lot) = refl
start_is_place (unreadable r) = other_start (unreadable_number r) (not_zero r)

pub label_in_file : (F : FileLimits) (file : List ℕ) (room : Room) → All Byte file
    → take (length (handed_out (reading F file room)).label) (drop (label_place (reading F file room)) file) ≡ (handed_out (reading F file room)).label
label_in_file F file room h = go (reading F file room) refl
  where
    go : (r : Reading) → reading F file room ≡ r → take (length (handed_out r).label) (drop (label_place r) file) ≡ (handed_out r).label
    go (unreadable w) e = refl
    go (readable lot) e = sym (accepted_label F file lot h (reading_accepted F file room lot e).0)

-- ---- what is answered of a file, by the label that is handed out
module _ (file : List ℕ) (nodes : List ℤ) (elements names lengths offsets : List ℕ) (h : All Byte file) (label : List ℕ) (same : label ≡ (handed_out (read_into lot_file file nodes elements names lengths offsets)).label) where
  abbrev answered : Reading
  answered = read_into lot_file file nodes elements names lengths offsets

  -- its length fits
  pub label_short : length label ≤ lot_file.name
  label_short = let short : length (handed_out answered).label ≤ lot_file.name = handed_label_short lot_file file _ h in omega (arith, short, ap length same)

  -- an answer that is told by the reading's numbers and the label's length has the numbers of the lot, and tells where its label stands
  pub lot_answered : (numbers : List ℕ) → numbers ≡ reading_numbers answered → (r : BrundhalLot) → lot_fields r ≡ lot_told numbers (length label) → (lot_fields r ≡ lot_numbers answered) × (take r.len (drop r.start file) ≡ (handed_out answered).label)
  unfolding reading_numbers
  lot_answered numbers given r told =
      let all : lot_fields r ≡ lot_numbers answered =
      told
      ∙ ap (λ (l : List ℕ). lot_told l (length label)) given
      ∙ ap₂ (λ (a b : ℕ). reading_numbers answered ++ (a ∷ b ∷ [])) (start_is_place answered) (ap length same) in
      (all, ap₂ (λ (a b : ℕ). take a (drop b file)) (ap (λ (l : List ℕ). get_or l 6 0) all) (ap (λ (l : List ℕ). get_or l 5 0) all) ∙ label_in_file lot_file file _ h)
