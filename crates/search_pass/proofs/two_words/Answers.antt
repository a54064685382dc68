-- `search_pass::two_words` meets its contract: each word is read back whole. Assumes nothing.
use Rattle.std.proofs.Common.{sym, ap, ◌∙◌, w64, to_z, to_z-of_z, arith}
use mathlib.Core.List.{[], ◌∷◌}
use Rattle.definitions.specs.TwoWords.{low_word, high_word}
use Rattle.wrapping_theory.specs.Words.{AreWords, low_word_is, high_word_is}
use Rattle.search_pass.proofs.two_words.Goals as goal

pub returns : goal.returns
returns c =
    let w = c.from-words.result in
    let are : AreWords w.low w.high = record { low_word_fits = omega arith; high_word_fits = omega arith } in
    let value = c.from-words.ensures ∙ to_z-of_z c.ranges.value in
    let low = to_z-of_z {w = w64} (record { sfits = c.cast_signed.type_inv }) ∙ c.cast_signed.ensures ∙ ap (to_z w64) (sym (low_word_is w.low w.high are) ∙ ap low_word value) in
    let high = to_z-of_z {w = w64} (record { sfits = c.cast_signed-2.type_inv }) ∙ c.cast_signed-2.ensures ∙ ap (to_z w64) (sym (high_word_is w.low w.high are) ∙ ap high_word value) in
    λ i. low i ∷ high i ∷ []
