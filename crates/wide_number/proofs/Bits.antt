-- A number of 128 bits and its bits, what is left of a number in so many bits, and which of them one word holds. Assumes nothing.
use Rattle.std.proofs.Common.{◌≡◌, Bool, ℕ, suc, ◌*◌, ◌-◌, ◌/◌, ◌%◌, ◌^◌, ℤ, pos, negsuc, sym, ap, ◌∙◌, refl, arith, w64, SFits, to_z, of_z, mod-eq_of_lt}
use mir.Syntax.{w128}
use Rattle.std.specs.Prelude.{Some, OkIff}
use Rattle.std.specs.Int.{int_wrap}
use Rattle.std.specs.Int.Signed.{mag}
use Rattle.std.specs.Result.{result_ok}
use Rattle.std.specs.declared.result.Result.{Result}
use Rattle.std.specs.declared.result.Result.TheVariants.{Ok, Err}
use Rattle.std.proofs.Math.Nat.{lt_of_not-le}
use Rattle.std.proofs.lemmas.Int.{wrapping_add_is, wrapping_sub_is, wrapping_mul_is, wrapping_mul_onto, to_z-of_z as back}
use Rattle.definitions.specs.TwoWords.{value, remainder, wrapped, word_base}
use Rattle.foundation.specs.Words.{signed_limit}
use Rattle.wrapping_theory.specs.Words.{value_of_words_exact}
use Rattle.wrapping_theory.specs.Single.{held, not_held}
use Rattle.wide_number.specs.Meaning.{chosen, single_of}

-- the bits of a number are what it leaves
bits_left : (z : ℤ) → SFits w128 z → of_z w128 z ≡ remainder (word_base * word_base) z
bits_left (pos n) f = sym (mod-eq_of_lt (omega (arith, f.sfits)))
bits_left (negsuc n) f = ap (λ (m : ℕ). 2 ^ 128 - suc m) (sym (mod-eq_of_lt (omega (arith, f.sfits))))

-- its words are those of its bits
pub words_of_bits : (z : ℤ) → SFits w128 z → {n : ℕ} → n ≡ of_z w128 z → value (n % word_base) (n / word_base) ≡ z
words_of_bits z f e = ap (λ (m : ℕ). value (m % word_base) (m / word_base)) (e ∙ bits_left z f) ∙ value_of_words_exact z f

-- what the library's operations leave of a result in 128 bits is its representative
pub left_wrapped : (z : ℤ) → int_wrap w128 z ≡ wrapped w128 z
unfolding int_wrap wrapped
left_wrapped (pos n) = refl
left_wrapped (negsuc n) = ap (to_z w128) (omega arith)

-- a number of one word is one that fits a word
pub taken : {E : Type 0} (r : Result ℤ E) (z : ℤ) → OkIff r (SFits w64 z) z → result_ok r ≡ single_of z
unfolding single_of
taken (Ok x) z p = ap Some p.1 ∙ sym (ap (λ (b : Bool). chosen b z) (held z p.0))
taken (Err e) z f = sym (ap (λ (b : Bool). chosen b z) (not_held z (omega (arith, lt_of_not-le {n = suc (mag z)} {m = signed_limit} (λ h. f (record { sfits = h }))))))

-- what the answers cite: of a sum, a difference, a product, and of a number in one word
pub ruleset represented = (back, wrapping_add_is, wrapping_sub_is, wrapping_mul_is, wrapping_mul_onto, left_wrapped, taken)
