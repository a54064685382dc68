-- The answers of the bounds service as plain numbers, numbered as document 01 numbers them.
use Rattle.std.specs.Prelude.{◌≡◌, refl, List, [], ◌∷◌, ◌++◌, ℕ}
use Rattle.definitions.specs.Mesh.{Bounds, bounds_number, bounds_low, bounds_high}
use Rattle.brundhal_number_answers.specs.Meaning.{number_words, number_fields}
use Rattle.inspection_answers.specs.declared.BoundsRefusal.{BoundsRefusal}
use Rattle.inspection_answers.specs.declared.BoundsRefusal.TheVariants.{TooDeep, OutOfRange}
use Rattle.inspection_answers.specs.Meaning.{bounds_refusal_held, bounds_refusal_number}
use Rattle.brundhal_bounds_answers.specs.declared.BrundhalBounds.{BrundhalBounds}

-- What an answer says: the numbers of the definition's answer, and beside them the fields of the struct, each once and in the same order.
-- the bounds service: its number and both bounds. 02, No. 8: "Each bound becomes two words likewise"
abbrev pub bounds_numbers : Bounds → List ℕ
bounds_numbers b = bounds_number b ∷ (number_words (bounds_low b) ++ number_words (bounds_high b))

abbrev pub bounds_fields : BrundhalBounds → List ℕ
bounds_fields r = r.number ∷ (number_fields r.low ++ number_fields r.high)

-- of a refusal the number alone, and four words 0
pub refused_numbers : (r : BoundsRefusal) → bounds_numbers (bounds_refusal_held r) ≡ bounds_refusal_number r ∷ 0 ∷ 0 ∷ 0 ∷ 0 ∷ []
unfolding number_words
refused_numbers TooDeep = refl
refused_numbers OutOfRange = refl
