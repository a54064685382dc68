-- `audit_notes::words` meets its contract: each word is read back whole. Assumes nothing.
use mathlib.Core.Path.{◌≡◌, sym, ap, ◌∙◌}
use mathlib.Core.List.{[], ◌∷◌}
use Prim.Native.Nat.{ℕ, ◌^◌, ◌<◌}
use native.Mathlib.Omega.{arith}
use borrow.Author.Rules.{rules}
use mir.Syntax.{w64, w128}
use mir.Val.{to_z, of_z}
use lib.IntN.{ℤ, pos}
use mir.ValLaws.{to_z-of_z, to_z_pos}
use Rattle.definitions.specs.TwoWords.{low_word, high_word}
use Rattle.wrapping_theory.specs.Words.{AreWords, low_word_is, high_word_is}
use Rattle.audit_notes.proofs.words.Goals as goal

-- a number of 32 bits that is read back
read : (n : ℕ) {r : ℤ} → n < 2 ^ 32 → r ≡ pos n → to_z w64 (of_z w64 r) ≡ pos n
read n h e = ap (λ (z : ℤ). to_z w64 (of_z w64 z)) e ∙ to_z_pos w64 n (omega (arith, h))

pub returns : goal.returns
returns c =
    let s = c.args in
    let value = c.from-value.result in
    let whole : to_z w128 (of_z w128 s.f.value) ≡ s.f.value = search rules in
    let are : AreWords value.low value.high = record { low_word_fits = omega arith; high_word_fits = omega arith } in
    let low = to_z-of_z w64 _ (record { sfits = c.signed-low.type_inv }) ∙ c.signed-low.ensures ∙ ap (to_z w64) (sym (low_word_is value.low value.high are) ∙ ap low_word (c.from-value.ensures ∙ whole)) in
    let high = to_z-of_z w64 _ (record { sfits = c.signed-high.type_inv }) ∙ c.signed-high.ensures ∙ ap (to_z w64) (sym (high_word_is value.low value.high are) ∙ ap high_word (c.from-value.ensures ∙ whole)) in
    λ i. read s.kind (omega arith) c.from.ensures i ∷ read s.level (omega arith) c.from-2.ensures i ∷ read s.f.point.a (omega arith) c.from-3.ensures i ∷ read s.f.point.b (omega arith) c.from-4.ensures i ∷ read s.f.point.c (omega arith) c.from-5.ensures i ∷ read s.f.number (omega arith) c.from-6.ensures i ∷ low i ∷ high i ∷ read s.opened (omega arith) c.from-7.ensures i ∷ []
