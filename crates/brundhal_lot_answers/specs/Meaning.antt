-- The answers of reading as plain numbers, numbered as document 01 numbers them.
use Rattle.std.specs.Prelude.{◌≡◌, refl, List, [], ◌∷◌, ◌++◌, ℕ, zero, suc, get_or, length}
use Rattle.lot_format.specs.Reading.{Reading, handed_out, label_place, reading_numbers}
use Rattle.brundhal_lot_answers.specs.declared.BrundhalLot.{BrundhalLot}

-- ---- what an answer says: the numbers of the definition's answer, and beside them the fields of the struct, each once and in the same order
-- a lot: its numbers, and the place and length of its label in the file
abbrev pub lot_numbers : Reading → List ℕ
lot_numbers r = reading_numbers r ++ (label_place r ∷ length (handed_out r).label ∷ [])

abbrev pub lot_fields : BrundhalLot → List ℕ
lot_fields r = r.number ∷ r.nodes ∷ r.elements ∷ r.groups ∷ r.names ∷ r.start ∷ r.len ∷ []

-- ---- on the way to these numbers
-- where the label starts, by the number
abbrev pub label_start : ℕ → ℕ
label_start zero = 4
label_start (suc n) = 0

pub other_start : (n : ℕ) → (n ≡ 0 → ⊥) → label_start n ≡ 0
other_start zero h = absurd (h refl)
other_start (suc n) h = refl

-- a lot, by the five numbers of its reading and the length of its label
abbrev pub lot_told : List ℕ → ℕ → List ℕ
lot_told answer len = get_or answer 0 0 ∷ get_or answer 1 0 ∷ get_or answer 2 0 ∷ get_or answer 3 0 ∷ get_or answer 4 0 ∷ label_start (get_or answer 0 0) ∷ len ∷ []
