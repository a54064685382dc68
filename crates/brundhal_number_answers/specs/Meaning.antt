-- Numbers of two words and the answers about them as plain numbers, and what a caller's plain words stand for.
use Rattle.std.specs.Prelude.{Bool, true, false, List, [], ◌∷◌, ℕ, ℤ, pos, negsuc, Option, Some, None}
use Rattle.std.specs.declared.cmp.Ordering.{Ordering}
use Rattle.std.specs.declared.cmp.Ordering.TheVariants.{Less, Equal, Greater}
use Rattle.definitions.specs.TwoWords.{value, low_word, high_word}
use Rattle.brundhal_number_answers.specs.declared.BrundhalNumber.{BrundhalNumber}
use Rattle.brundhal_number_answers.specs.declared.BrundhalSingle.{BrundhalSingle}

-- ---- what an answer says: the numbers of the definition's answer, and beside them the fields of the struct, each once and in the same order
-- a whole number modulo 2^128: its low word, and then its high one
unfoldable pub number_words : ℤ → List ℕ
number_words z = low_word z ∷ high_word z ∷ []

abbrev pub number_fields : BrundhalNumber → List ℕ
number_fields r = r.low ∷ r.high ∷ []

-- a number in one word: 1 and the number, or 0 and 0
abbrev pub single_numbers : Option ℤ → List ℤ
single_numbers (Some z) = pos 1 ∷ z ∷ []
single_numbers None = pos 0 ∷ pos 0 ∷ []

abbrev pub single_fields : BrundhalSingle → List ℤ
single_fields r = pos r.fits ∷ r.value ∷ []

-- an order: −1 less, 0 equal, 1 greater
abbrev pub order_number : Ordering → ℤ
order_number Less = negsuc 0
order_number Equal = pos 0
order_number Greater = pos 1

-- yes or no: 1 or 0
abbrev pub answer_number : Bool → ℕ
answer_number true = 1
answer_number false = 0

-- ---- what a caller's words stand for
abbrev pub number_held : BrundhalNumber → ℤ
number_held x = value x.low x.high
