-- The representative of a whole number modulo 2^w, at any width w: it is congruent and in range, no other number is both, and so a number in range is its own.
use Rattle.std.specs.Prelude.{◌≡◌, refl, Bool, true, false, [], ◌∷◌, ℕ, zero, suc, ◌*◌, ◌-◌, ◌^◌, ◌<◌, ltb, ℤ, pos, negsuc, nat_abs, ◌+ℤ◌, ◌-ℤ◌, ◌*ℤ◌, neg_ℤ, ◌≤ℤ◌}
use Rattle.std.proofs.Common.{sym, ◌∙◌, ap, subst, lt_of_le_of_lt, arith, leb→le, pow_pos}
use Rattle.std.specs.Int.Signed.{mag}
use Rattle.std.specs.Int.{Width}
use mir.Val.{Fits, SFits, to_z, sel, bits, hbits}
use mir.ValLaws.{pow-bits, to_z-Fits}
use Rattle.foundation.specs.Magnitude.{sub_cases, magnitude_mul, magnitude_zero}
use Rattle.foundation.specs.Polynomial.{var, con, add, mul, neg, solve}
use Rattle.foundation.specs.Words.{args}
use Rattle.definitions.specs.TwoWords.{remainder, wrapped}
use Rattle.wrapping_theory.specs.Congruence.{Congruent, itself, turned, chained, left_over, remainder_below}

-- ---- the bits of a word and the signed number that they stand for
signed_congruent : (m n : ℕ) (b : Bool) → n < m → Congruent m (sel b (pos n) (negsuc (m - suc n))) (pos n)
signed_congruent m n true h = itself (pos n)
signed_congruent m n false h = record { times = negsuc 0; is = go m h }
  where
    go : (m : ℕ) → n < m → negsuc (m - suc n) ≡ pos n +ℤ negsuc 0 *ℤ pos m
    go zero h = absurd (omega (arith, h))
    go (suc m) h = let one : suc m ≡ 1 * suc m = omega arith in
        sub_cases n (suc m) (λ z. negsuc (suc m - suc n) ≡ z) (λ k e. ap negsuc (omega (arith, e))) (λ k e. absurd (omega (arith, h, e))) ∙ ap (λ (k : ℕ). pos n +ℤ neg_ℤ (pos k)) one

module _ (w : Width) where
  pub bits_congruent : (n : ℕ) → Fits w n → Congruent (2 ^ bits w) (to_z w n) (pos n)
  bits_congruent n f = signed_congruent (2 ^ bits w) n (ltb n (2 ^ hbits w)) f.fits

  left_fits : (z : ℤ) → Fits w (remainder (2 ^ bits w) z)
  left_fits z = record { fits = remainder_below (2 ^ bits w) (pow_pos (bits w)) z }

  pub wrapped_congruent : (z : ℤ) → Congruent (2 ^ bits w) (wrapped w z) z
  unfolding wrapped
  wrapped_congruent z = chained (bits_congruent (remainder (2 ^ bits w) z) (left_fits z)) (left_over (2 ^ bits w) (pow_pos (bits w)) z)

  pub wrapped_fits : (z : ℤ) → SFits w (wrapped w z)
  unfolding wrapped
  wrapped_fits z = to_z-Fits w (remainder (2 ^ bits w) z) (left_fits z)

-- ---- one number alone of those that are congruent is in range
-- two numbers in range are nearer to each other than m
near : (half m : ℕ) → m ≡ half * 2 → (a b : ℤ) → mag a < half → mag b < half → nat_abs (a -ℤ b) < m
near half m e (pos a) (pos zero) h k = omega (arith, e, h, k)
near half m e (pos a) (pos (suc b)) h k = sub_cases a (suc b) (λ z. nat_abs z < m) (λ n p. omega (arith, e, h, k, p)) (λ n p. omega (arith, e, h, k, p))
near half m e (pos a) (negsuc b) h k = omega (arith, e, h, k)
near half m e (negsuc a) (pos zero) h k = sub_cases 0 (suc a) (λ z. nat_abs z < m) (λ n p. omega (arith, e, h, k, p)) (λ n p. omega (arith, e, h, k, p))
near half m e (negsuc a) (pos (suc b)) h k = omega (arith, e, h, k)
near half m e (negsuc a) (negsuc b) h k = sub_cases (suc b) (suc a) (λ z. nat_abs z < m) (λ n p. omega (arith, e, h, k, p)) (λ n p. omega (arith, e, h, k, p))

no_times : (k m : ℕ) → k * m < m → k ≡ 0
no_times zero m h = refl
no_times (suc k) m h = absurd (omega (arith, h))

module _ (w : Width) where
  abbrev m : ℕ
  m = 2 ^ bits w

  pub one_alone : {a b : ℤ} → SFits w a → SFits w b → Congruent (2 ^ bits w) a b → a ≡ b
  one_alone {a} {b} f g c = c.is ∙ ap (λ (k : ℤ). b +ℤ k *ℤ pos m) none ∙ solve (args (b ∷ pos m ∷ [])) (add (var 0) (mul (con (pos 0)) (var 1))) (var 0) tt
    where
      apart : a -ℤ b ≡ c.times *ℤ pos m
      apart = ap (λ (x : ℤ). x -ℤ b) c.is ∙ solve (args (b ∷ c.times ∷ pos m ∷ [])) (add (add (var 0) (mul (var 1) (var 2))) (neg (var 0))) (mul (var 1) (var 2)) tt

      less : nat_abs c.times * m < m
      less = subst (λ (n : ℕ). n < m) (ap nat_abs apart ∙ magnitude_mul c.times (pos m)) (near (2 ^ hbits w) m (pow-bits w) a b f.sfits g.sfits)

      none : c.times ≡ pos 0
      none = magnitude_zero c.times (no_times (nat_abs c.times) m less)

  -- what is in range and congruent to z is its representative
  pub is_wrapped : {a z : ℤ} → SFits w a → Congruent (2 ^ bits w) a z → a ≡ wrapped w z
  is_wrapped {a} {z} f c = one_alone f (wrapped_fits w z) (chained c (turned (wrapped_congruent w z)))

  -- a whole number in range is its own representative
  pub exact : {z : ℤ} → SFits w z → wrapped w z ≡ z
  exact {z} f = sym (is_wrapped f (itself z))

  -- the same, with the range written out: −2^(w−1) to 2^(w−1) − 1
  pub exact_between : (z : ℤ) → negsuc (2 ^ hbits w - 1) ≤ℤ z → z ≤ℤ pos (2 ^ hbits w - 1) → wrapped w z ≡ z
  exact_between z low high = exact (record { sfits = inside z low high })
    where
      less : 2 ^ hbits w - 1 < 2 ^ hbits w
      less = omega (arith, pow_pos (hbits w))

      inside : (z : ℤ) → negsuc (2 ^ hbits w - 1) ≤ℤ z → z ≤ℤ pos (2 ^ hbits w - 1) → mag z < 2 ^ hbits w
      inside (pos n) low high = lt_of_le_of_lt (leb→le n (2 ^ hbits w - 1) high.le) less
      inside (negsuc n) low high = lt_of_le_of_lt (leb→le n (2 ^ hbits w - 1) low.le) less
