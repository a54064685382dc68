-- Document 01, "What a record says", and 02, No. 8, for the value and what stands behind it.
use Rattle.std.specs.Prelude.{Bool, false, ◌||◌, List, [], ◌∷◌, ◌++◌, ℕ, eqb, get_or, drop, ℤ, pos, negsuc}
use Rattle.definitions.specs.TwoWords.{two_words, from_two_words}
use Rattle.definitions.specs.Verdict.{Verdict, valid, invalid, undecided, verdict, opened}

-- a record: six words, those of a value, and the number of cubes opened. 02, No. 8: "Word 6 becomes two words, low 64 bits and then high, as two's complement; the opened
-- count moves to word 8"
abbrev pub words : ℕ → ℕ → ℕ → ℕ → ℕ → ℕ → ℤ → ℕ → List ℤ
words w0 w1 w2 w3 w4 w5 value opened = pos w0 ∷ pos w1 ∷ pos w2 ∷ pos w3 ∷ pos w4 ∷ pos w5 ∷ (two_words value ++ (pos opened ∷ []))

-- and back: the value of a record
abbrev pub value_held : List ℤ → ℤ
value_held r = from_two_words (drop 6 r)

abbrev pub kind : Verdict → ℕ
kind (valid l) = 0
kind (invalid l f) = 1
kind (undecided l f) = 2

-- the columns "valid", "invalid" and "undecided", with the number of cubes opened
abbrev pub verdict_words : Verdict → ℕ → List ℤ
verdict_words (valid l) n = words 0 l 0 0 0 0 (pos 0) n
verdict_words (invalid l f) n = words 1 l f.a f.b f.c f.number f.value n
verdict_words (undecided l f) n = words 2 l f.a f.b f.c f.number f.value n

-- "Their record at a depth follows from the verdict by this table."
unfoldable pub record_of : List ℤ → ℕ → List ℤ
record_of xs D = verdict_words (verdict xs D) (opened xs D)

-- why an element is refused: the index at a place that names no node; two places that name one node; the coordinate at a place and axis that is out of range
pub data Fault : Type 0 where
  missing : (place index : ℕ) → Fault
  twice : (lower higher : ℕ) → Fault
  outside : (place axis : ℕ) → Fault

-- the column "refused"; 02, No. 5: "word 0 is 7, word 1 the lower place, word 2 the higher place …, all else 0"
abbrev pub fault_words : Fault → List ℤ
fault_words (missing p i) = words 5 p i 0 0 0 (pos 0) 0
fault_words (twice p q) = words 7 p q 0 0 0 (pos 0) 0
fault_words (outside p e) = words 6 p e 0 0 0 (pos 0) 0

-- ---- the kind of a record, by its word 0; an empty one has −1 there, which is no kind
abbrev pub kind_word : List ℤ → ℤ
kind_word r = get_or r 0 (negsuc 0)

abbrev pub is_number : ℕ → ℤ → Bool
is_number k (pos n) = eqb n k
is_number k (negsuc n) = false

abbrev pub is_valid : List ℤ → Bool
is_valid r = is_number 0 (kind_word r)

abbrev pub is_invalid : List ℤ → Bool
is_invalid r = is_number 1 (kind_word r)

abbrev pub is_undecided : List ℤ → Bool
is_undecided r = is_number 2 (kind_word r)

-- 5, 6 or 7
abbrev pub is_refused : List ℤ → Bool
is_refused r = is_number 5 (kind_word r) || (is_number 6 (kind_word r) || is_number 7 (kind_word r))
