-- The order of numbers of two words: that of their words, the high one first and with its sign bit turned.
use Rattle.std.specs.Prelude.{◌≡◌, refl, Bool, true, false, not, ℕ, zero, suc, ◌+◌, ◌*◌, ◌-◌, ◌%◌, ◌^◌, ◌<◌, ◌≤◌, ltb, leb, eqb, ℤ, pos, negsuc}
use Rattle.std.proofs.Common.{sym, ◌∙◌, ap, ap₂, lt_of_lt_of_le, le-add_right, add-mul, arith, lt-ltb, le-ltb, le-leb, ltb-true, ltb-false}
use Rattle.std.proofs.lemmas.Bool.{lt-leb}
use Rattle.std.proofs.Math.Arith.{digits_lt, add-lt_cancel_left}
use Rattle.std.proofs.Math.Dec.{leb-suc-zero, eqb-suc-zero}
use Rattle.std.proofs.Math.IntN.{sub_ℕ}
use Rattle.std.specs.Int.Signed.{lt_z, le_z}
use Rattle.foundation.specs.Magnitude.{sub_cases}
use Rattle.foundation.specs.Words.{signed_limit}
use Rattle.definitions.specs.TwoWords.{word_base, value}
use Rattle.wrapping_theory.specs.Words.{together, AreWords, Sign, plus, minus, sign, together_below, value_above, value_below}

-- ---- numbers lowered by the same
-- two tests of the same fact
one_test : (a b c d : ℕ) → (a < b → c < d) → (c < d → a < b) → ltb a b ≡ ltb c d
one_test a b c d f g = go (ltb a b) refl
  where
    go : (t : Bool) → ltb a b ≡ t → ltb a b ≡ ltb c d
    go true e = e ∙ sym (lt-ltb c d (f (ltb-true a b e)))
    go false e = e ∙ sym (le-ltb c d (omega (arith, not_less (ltb-false a b e))))
      where
        not_less : b ≤ a → d ≤ c
        not_less h = other (ltb c d) refl
          where
            other : (t : Bool) → ltb c d ≡ t → d ≤ c
            other true p = absurd (omega (arith, h, g (ltb-true c d p)))
            other false p = ltb-false c d p

pub lowered_less : (k a b : ℕ) → lt_z (sub_ℕ a k) (sub_ℕ b k) ≡ ltb a b
lowered_less k a b = sub_cases a k (λ z. lt_z z (sub_ℕ b k) ≡ ltb a b)
    (λ m p. sub_cases b k (λ z. lt_z (negsuc m) z ≡ ltb a b) (λ n q. one_test n m a b (λ h. omega (arith, p, q, h)) (λ h. omega (arith, p, q, h))) (λ n q. sym (lt-ltb a b (omega (arith, p, q)))))
    (λ m p. sub_cases b k (λ z. lt_z (pos m) z ≡ ltb a b) (λ n q. sym (le-ltb a b (omega (arith, p, q)))) (λ n q. one_test m n a b (λ h. omega (arith, p, q, h)) (λ h. omega (arith, p, q, h))))

-- ---- a number, lowered
-- a high word with its sign bit turned
abbrev pub lifted : ℕ → ℕ
lifted high = (high + signed_limit) % 2 ^ 64

lifted_plus : (h : ℕ) → h < signed_limit → lifted h ≡ h + signed_limit
lifted_plus h k = omega (arith, k)

lifted_minus : (h : ℕ) → signed_limit ≤ h → h < 2 ^ 64 → lifted h + signed_limit ≡ h
lifted_minus h k l = omega (arith, k, l)

module _ (low high : ℕ) (w : AreWords low high) where
  -- the number is 2^127 less than its words are with the sign bit turned
  pub value_lowered : value low high ≡ sub_ℕ (together low (lifted high)) (2 ^ 127)
  value_lowered = go (sign high)
    where
      more : (a b c : ℕ) → a ≡ b + c → pos b ≡ sub_ℕ a c
      more a b c e = sub_cases a c (λ z. pos b ≡ z) (λ n p. absurd (omega (arith, e, p))) (λ n p. ap pos (omega (arith, e, p)))

      less : (m a b c : ℕ) → m ≡ c + c → b < m → a + c ≡ b → negsuc (m - suc b) ≡ sub_ℕ a c
      less m a b c e h f = sub_cases a c (λ z. negsuc (m - suc b) ≡ z) (λ n p. ap negsuc (omega (arith, e, f, p))) (λ n p. absurd (omega (arith, e, f, h, p)))

      raise : (k l : ℕ) → k * word_base + l + signed_limit * word_base ≡ (k + signed_limit) * word_base + l
      raise k l = sum (k * word_base) l (signed_limit * word_base) ∙ ap (λ (n : ℕ). n + l) (sym (add-mul k signed_limit word_base))
        where
          sum : (a b c : ℕ) → a + b + c ≡ a + c + b
          sum a b c = omega arith

      go : Sign high → value low high ≡ sub_ℕ (together low (lifted high)) (2 ^ 127)
      go (plus h) = value_above low high h ∙ more (together low (lifted high)) (together low high) (2 ^ 127) (ap (λ (n : ℕ). n * word_base + low) (lifted_plus high h) ∙ sym (raise high low))
      go (minus h) = value_below low high w h ∙ less (2 ^ 128) (together low (lifted high)) (together low high) (2 ^ 127) refl (together_below low high w) (raise (lifted high) low ∙ ap (λ (n : ℕ). n * word_base + low) (lifted_minus high h w.high_word_fits))

module _ (low high low' high' : ℕ) (v : AreWords low high) (w : AreWords low' high') where
  pub less_is : lt_z (value low high) (value low' high') ≡ ltb (together low (lifted high)) (together low' (lifted high'))
  less_is = ap₂ lt_z (value_lowered low high v) (value_lowered low' high' w) ∙ lowered_less (2 ^ 127) (together low (lifted high)) (together low' (lifted high'))

  -- by the high words where they differ
  pub less_high : lifted high < lifted high' → lt_z (value low high) (value low' high') ≡ true
  less_high h = less_is ∙ lt-ltb (together low (lifted high)) (together low' (lifted high')) (lt_of_lt_of_le (digits_lt h v.low_word_fits) (le-add_right (lifted high' * word_base) low'))

  pub more_high : lifted high' < lifted high → lt_z (value low high) (value low' high') ≡ false
  more_high h = less_is ∙ le-ltb (together low (lifted high)) (together low' (lifted high')) (omega (arith, lt_of_lt_of_le (digits_lt h w.low_word_fits) (le-add_right (lifted high * word_base) low)))

  -- by the low words where they do not
  pub less_low : lifted high ≡ lifted high' → lt_z (value low high) (value low' high') ≡ ltb low low'
  less_low e = less_is ∙ ap (λ (n : ℕ). ltb (together low (lifted high)) (n * word_base + low')) (sym e)
      ∙ one_test (together low (lifted high)) (lifted high * word_base + low') low low' (add-lt_cancel_left (lifted high * word_base)) (λ h. more (lifted high * word_base) low low' h)
    where
      more : (a b c : ℕ) → b < c → a + b < a + c
      more a b c h = omega (arith, h)

-- ---- at most
pub not_less_at_most : (a b : ℕ) → leb a b ≡ not (ltb b a)
not_less_at_most a b = go (ltb b a) refl
  where
    go : (t : Bool) → ltb b a ≡ t → leb a b ≡ not (ltb b a)
    go true e = lt-leb a b (ltb-true b a e) ∙ ap not (sym e)
    go false e = le-leb a b (ltb-false b a e) ∙ ap not (sym e)

pub at_most_not_less : (x y : ℤ) → le_z x y ≡ not (lt_z y x)
at_most_not_less (pos a) (pos b) = not_less_at_most a b
at_most_not_less (pos a) (negsuc b) = refl
at_most_not_less (negsuc a) (pos b) = refl
at_most_not_less (negsuc a) (negsuc b) = not_less_at_most b a

-- ---- against 0
pub negative_low : (low high : ℕ) → AreWords low high → signed_limit ≤ high → le_z (value low high) (pos 0) ≡ true
negative_low low high w h = ap (λ (z : ℤ). le_z z (pos 0)) (value_below low high w h)

pub positive_high : (low high : ℕ) → high < signed_limit → 0 < high → le_z (value low high) (pos 0) ≡ false
positive_high low high h k = ap (λ (z : ℤ). le_z z (pos 0)) (value_above low high h) ∙ lt-leb (together low high) 0 (omega (arith, k))

pub zero_high : (low high : ℕ) → high ≡ 0 → le_z (value low high) (pos 0) ≡ eqb low 0
zero_high low high e = ap (λ (z : ℤ). le_z z (pos 0)) (value_above low high (omega (arith, e))) ∙ ap (λ (n : ℕ). leb n 0) bare ∙ none low
  where
    bare : together low high ≡ low
    bare = omega (arith, e)

    none : (n : ℕ) → leb n 0 ≡ eqb n 0
    none zero = refl
    none (suc n) = leb-suc-zero n ∙ sym (eqb-suc-zero n)
