-- Numbers of two words: the value by the 128 bits, what an operation on the bits does to the value, and that the value determines the words.
use Rattle.std.specs.Prelude.{◌≡◌, Bool, true, false, List, [], ◌∷◌, ◌++◌, ltb, ℤ, negsuc, neg_ℤ, ◌+ℤ◌, ◌-ℤ◌, ◌*ℤ◌}
use Rattle.std.proofs.Math.Path.{refl, sym, ap}
use Rattle.std.proofs.Common.{◌∙◌, subst, le_trans, lt_of_lt_of_le, le-add_right, mul-le-mul_right, add-mul, mod-lt, mod-eq_of_lt, div-add-mod', div-lt_iff_lt-mul, arith, ltb-true, ltb-false, lit<, Fits, SFits, to_z, of_z}
use Prim.Native.Nat.{ℕ, zero, suc, ◌+◌, ◌*◌, ◌-◌, ◌/◌, ◌%◌, ◌^◌, ◌<◌, ◌≤◌}
use Rattle.std.proofs.Math.Arith.{digits_lt, digits_div, digits_mod}
use Rattle.std.proofs.Math.IntN.{pos, sub_ℕ}
use mir.Syntax.{w64, w128}
use mir.ValLaws.{to_z_pos, to_z-neg, to_z-Fits, of_z-to_z}
use Rattle.foundation.specs.Magnitude.{sub_cases}
use Rattle.foundation.specs.Polynomial.{var, add, neg, solve}
use Rattle.foundation.specs.Words.{args, signed_limit}
use Rattle.definitions.specs.TwoWords.{word_base, value, remainder, wrapped, low_word, high_word, two_words, from_two_words}
use Rattle.wrapping_theory.specs.Congruence.{Congruent, equal, itself, turned, chained, sum, difference, product, divided, left_over, remainder_below}
use Rattle.wrapping_theory.specs.Wrapping.{bits_congruent, is_wrapped, exact}

-- two words as one number of 128 bits, without a sign
abbrev pub together : ℕ → ℕ → ℕ
together low high = high * word_base + low

-- both are words
pub record AreWords (low high : ℕ) : Type 0 where
  pub low_word_fits : low < 2 ^ 64
  pub high_word_fits : high < 2 ^ 64

-- the sign of a number is that of its high word
pub data Sign (high : ℕ) : Type 0 where
  plus : high < signed_limit → Sign high
  minus : signed_limit ≤ high → Sign high

pub sign : (high : ℕ) → Sign high
sign high = go (ltb high signed_limit) refl
  where
    go : (b : Bool) → ltb high signed_limit ≡ b → Sign high
    go true e = plus (ltb-true high signed_limit e)
    go false e = minus (ltb-false high signed_limit e)

-- ---- the value by the bits
mirrored : (m n : ℕ) → n < m → m - suc (m - suc n) ≡ n
mirrored m n h = omega (arith, h)

turned_back : (m n : ℕ) → n < m → m - suc ((m - suc n) % m) ≡ n
turned_back m n h = let less : m - suc n < m = omega (arith, h) in ap (λ (k : ℕ). m - suc k) (mod-eq_of_lt less) ∙ mirrored m n h

upper : (half m n : ℕ) → m ≡ half + half → half ≤ n → n < m → m - suc n < half
upper half m n e h k = omega (arith, e, h, k)

pub value_above : (low high : ℕ) → high < signed_limit → value low high ≡ pos (together low high)
unfolding value
value_above low high h = ap (λ (z : ℤ). z *ℤ pos word_base +ℤ pos low) (to_z_pos w64 high h)

module _ (low high : ℕ) (w : AreWords low high) where
  pub together_below : together low high < 2 ^ 128
  together_below = digits_lt w.high_word_fits w.low_word_fits

  pub value_below : signed_limit ≤ high → value low high ≡ negsuc (2 ^ 128 - suc (together low high))
  unfolding value
  value_below h = let k : ℕ = 2 ^ 64 - suc high in let f : suc k + high ≡ 2 ^ 64 = omega (arith, w.high_word_fits) in
      ap (λ (z : ℤ). z *ℤ pos word_base +ℤ pos low) (ap (to_z w64) (sym (mirrored (2 ^ 64) high w.high_word_fits)) ∙ to_z-neg w64 k (upper signed_limit (2 ^ 64) high refl h w.high_word_fits))
      ∙ below k f
    where
      whole : (k : ℕ) → k + high ≡ 2 ^ 64 → k * word_base + high * word_base ≡ word_base * word_base
      whole k e = sym (add-mul k high word_base) ∙ ap (λ (n : ℕ). n * word_base) e

      rest : (m a b l n : ℕ) → a + b ≡ m → l + suc n ≡ a → n ≡ m - suc (b + l)
      rest m a b l n e f = omega (arith, e, f)

      never : (b a l n : ℕ) → b ≤ a → l < b → a + n ≡ l → ⊥
      never b a l n h k e = omega (arith, h, k, e)

      negated : (n : ℕ) → 0 < n → neg_ℤ (pos n) +ℤ pos low ≡ sub_ℕ low n
      negated zero h = absurd (omega (arith, h))
      negated (suc n) h = refl

      one_at_least : (k : ℕ) → word_base ≤ suc k * word_base
      one_at_least k = mul-le-mul_right {m = 1} {n = suc k} word_base (omega arith)

      below : (k : ℕ) → suc k + high ≡ 2 ^ 64 → negsuc k *ℤ pos word_base +ℤ pos low ≡ negsuc (2 ^ 128 - suc (together low high))
      below k e = negated (suc k * word_base) (lt_of_lt_of_le (lit< {n = word_base} tt) (one_at_least k))
          ∙ sub_cases low (suc k * word_base) (λ z. z ≡ negsuc (2 ^ 128 - suc (together low high)))
          (λ n p. ap negsuc (rest (2 ^ 128) (suc k * word_base) (high * word_base) low n (whole (suc k) e) p))
          (λ n p. absurd (never word_base (suc k * word_base) low n (one_at_least k) w.low_word_fits p))

  together_fits : Fits w128 (together low high)
  together_fits = record { fits = together_below }

  -- the number is what its 128 bits stand for
  pub value_bits : value low high ≡ to_z w128 (together low high)
  value_bits = go (sign high)
    where
      go : Sign high → value low high ≡ to_z w128 (together low high)
      go (plus h) = value_above low high h ∙ sym (to_z_pos w128 (together low high) (digits_lt h w.low_word_fits))
      go (minus h) = value_below h ∙ sym (ap (to_z w128) (sym (mirrored (2 ^ 128) (together low high) together_below))
          ∙ to_z-neg w128 (2 ^ 128 - suc (together low high)) (upper (2 ^ 127) (2 ^ 128) (together low high) refl (le_trans (mul-le-mul_right word_base h) (le-add_right (high * word_base) low)) together_below))

  pub value_fits : SFits w128 (value low high)
  value_fits = subst (SFits w128) (sym value_bits) (to_z-Fits w128 (together low high) together_fits)

  pub value_congruent : Congruent (2 ^ 128) (value low high) (pos (together low high))
  value_congruent = chained (equal value_bits) (bits_congruent w128 (together low high) together_fits)

  -- a result is the representative of z, if its bits differ from z by a multiple of 2^128
  pub result_wrapped : {z : ℤ} → Congruent (2 ^ 128) (pos (together low high)) z → value low high ≡ wrapped w128 z
  result_wrapped c = is_wrapped w128 value_fits (chained value_congruent c)

-- ---- the value determines the words
module _ (low high low' high' : ℕ) (v : AreWords low high) (w : AreWords low' high') (e : value low high ≡ value low' high') where
  same_bits : together low high ≡ together low' high'
  same_bits = sym (of_z-to_z w128 (together low high) (together_fits low high v)) ∙ ap (of_z w128) (sym (value_bits low high v) ∙ e ∙ value_bits low' high' w) ∙ of_z-to_z w128 (together low' high') (together_fits low' high' w)

  pub same_low : low ≡ low'
  same_low = sym (digits_mod high v.low_word_fits) ∙ ap (λ (n : ℕ). n % word_base) same_bits ∙ digits_mod high' w.low_word_fits

  pub same_high : high ≡ high'
  same_high = sym (digits_div high v.low_word_fits) ∙ ap (λ (n : ℕ). n / word_base) same_bits ∙ digits_div high' w.low_word_fits

-- ---- the words of a number's value, and the value of a whole number's words
module _ (low high : ℕ) (w : AreWords low high) where
  value_left : remainder (word_base * word_base) (value low high) ≡ together low high
  value_left = go (sign high)
    where
      go : Sign high → remainder (word_base * word_base) (value low high) ≡ together low high
      go (plus h) = ap (remainder (word_base * word_base)) (value_above low high h) ∙ mod-eq_of_lt (together_below low high w)
      go (minus h) = ap (remainder (word_base * word_base)) (value_below low high w h) ∙ turned_back (word_base * word_base) (together low high) (together_below low high w)

  pub low_word_is : low_word (value low high) ≡ low
  low_word_is = ap (λ (n : ℕ). n % word_base) value_left ∙ digits_mod high w.low_word_fits

  pub high_word_is : high_word (value low high) ≡ high
  high_word_is = ap (λ (n : ℕ). n / word_base) value_left ∙ digits_div high w.low_word_fits

module _ (z : ℤ) where
  pub are_words : AreWords (low_word z) (high_word z)
  are_words = record { low_word_fits = mod-lt (remainder (word_base * word_base) z) (lit< tt); high_word_fits = (div-lt_iff_lt-mul (lit< {n = word_base} tt)).1 (remainder_below (word_base * word_base) (lit< tt) z) }

  -- the representative, and in range the number itself
  pub value_of_words : value (low_word z) (high_word z) ≡ wrapped w128 z
  value_of_words = result_wrapped (low_word z) (high_word z) are_words (chained (equal (ap pos (div-add-mod' (remainder (word_base * word_base) z) word_base))) (left_over (word_base * word_base) (lit< tt) z))

  -- a whole number and its representative have the same words
  pub wrapped_low : low_word (wrapped w128 z) ≡ low_word z
  wrapped_low = ap low_word (sym value_of_words) ∙ low_word_is (low_word z) (high_word z) are_words

  pub wrapped_high : high_word (wrapped w128 z) ≡ high_word z
  wrapped_high = ap high_word (sym value_of_words) ∙ high_word_is (low_word z) (high_word z) are_words

  pub value_of_words_exact : SFits w128 z → value (low_word z) (high_word z) ≡ z
  value_of_words_exact f = value_of_words ∙ exact w128 f

-- ---- a whole number to the two words of a record, and back
word_back : (n : ℕ) → n < 2 ^ 64 → remainder word_base (to_z w64 n) ≡ n
word_back n h = go (sign n)
  where
    go : Sign n → remainder word_base (to_z w64 n) ≡ n
    go (plus l) = ap (remainder word_base) (to_z_pos w64 n l) ∙ mod-eq_of_lt h
    go (minus l) = ap (remainder word_base) (ap (to_z w64) (sym (mirrored (2 ^ 64) n h)) ∙ to_z-neg w64 (2 ^ 64 - suc n) (upper signed_limit (2 ^ 64) n refl l h)) ∙ turned_back (2 ^ 64) n h

pub words_back : (z : ℤ) (ws : List ℤ) → SFits w128 z → from_two_words (two_words z ++ ws) ≡ z
words_back z ws f = let w = are_words z in (λ i. value (word_back (low_word z) w.low_word_fits i) (word_back (high_word z) w.high_word_fits i)) ∙ value_of_words_exact z f

-- so the two words determine the number
pub words_determine : (y z : ℤ) → SFits w128 y → SFits w128 z → two_words y ≡ two_words z → y ≡ z
words_determine y z f g e = sym (words_back y [] f) ∙ ap (λ (ws : List ℤ). from_two_words (ws ++ [])) e ∙ words_back z [] g

-- ---- operations, by their bits
left_of : (m n : ℕ) → m ≡ n % 2 ^ 128 → Congruent (2 ^ 128) (pos m) (pos n)
left_of m n e = chained (equal (ap pos e)) (divided (2 ^ 128) n)

module _ {a b c d l h : ℕ} (x : AreWords a b) (y : AreWords c d) (r : AreWords l h) where
  pub sum_wrapped : together l h ≡ (together a b + together c d) % 2 ^ 128 → value l h ≡ wrapped w128 (value a b +ℤ value c d)
  sum_wrapped e = result_wrapped l h r (chained (left_of (together l h) (together a b + together c d) e) (turned (sum (value_congruent a b x) (value_congruent c d y))))

  pub product_wrapped : together l h ≡ (together a b * together c d) % 2 ^ 128 → value l h ≡ wrapped w128 (value a b *ℤ value c d)
  product_wrapped e = result_wrapped l h r (chained (left_of (together l h) (together a b * together c d) e) (turned (product (value_congruent a b x) (value_congruent c d y))))

  -- a difference is what the second number is added to
  pub difference_wrapped : together a b ≡ (together l h + together c d) % 2 ^ 128 → value l h ≡ wrapped w128 (value a b -ℤ value c d)
  difference_wrapped e = result_wrapped l h r (chained
      (equal (solve (args (pos (together l h) ∷ pos (together c d) ∷ [])) (var 0) (add (add (var 0) (var 1)) (neg (var 1))) tt))
      (difference (chained (turned (left_of (together a b) (together l h + together c d) e)) (turned (value_congruent a b x))) (turned (value_congruent c d y))))

pub multiple_wrapped : (k : ℕ) {a b l h : ℕ} → AreWords a b → AreWords l h → together l h ≡ (k * together a b) % 2 ^ 128 → value l h ≡ wrapped w128 (pos k *ℤ value a b)
multiple_wrapped k {a} {b} {l} {h} x r e = result_wrapped l h r (chained (left_of (together l h) (k * together a b) e) (turned (product (itself (pos k)) (value_congruent a b x))))
