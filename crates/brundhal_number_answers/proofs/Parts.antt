-- The words of a number of two words are those of its value, and those of a whole number's representative are the whole number's. Assumes nothing.
use mathlib.Core.Path.{◌≡◌, sym}
use mathlib.Core.List.{[], ◌∷◌}
use Prim.Native.Nat.{ℕ}
use lib.IntN.{ℤ}
use mir.Syntax.{w128}
use Rattle.definitions.specs.TwoWords.{value, wrapped}
use Rattle.wrapping_theory.specs.Words.{AreWords, low_word_is, high_word_is, wrapped_low, wrapped_high}
use Rattle.brundhal_number_answers.specs.Meaning.{number_words}

pub own_words : (low high : ℕ) → AreWords low high → low ∷ high ∷ [] ≡ number_words (value low high)
unfolding number_words
own_words low high w = λ i. sym (low_word_is low high w) i ∷ sym (high_word_is low high w) i ∷ []

pub wrapped_words : (z : ℤ) → number_words (wrapped w128 z) ≡ number_words z
unfolding number_words
wrapped_words z = λ i. wrapped_low z i ∷ wrapped_high z i ∷ []
