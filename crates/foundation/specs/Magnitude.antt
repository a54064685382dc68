-- Magnitudes of negatives, products and sums, a magnitude by two comparisons, and cancelling a factor above 0.
use Rattle.std.specs.Prelude.{◌≡◌, refl, Bool, true, false, not, cond, ◌&&◌, ℕ, zero, suc, ◌+◌, ◌*◌, ◌-◌, ◌<◌, ◌≤◌, T, ltb, leb, ℤ, pos, negsuc, neg_ℤ, nat_abs, ◌+ℤ◌, ◌-ℤ◌, ◌*ℤ◌}
use Rattle.std.proofs.Common.{sym, ◌∙◌, ap, ap₂, arith, ltb→lt, nltb→le}
use Rattle.std.proofs.Math.Bool.{and-true}
use Rattle.std.proofs.Math.Dec.{leb-suc-suc}
use Rattle.std.proofs.Math.IntN.{sub_ℕ, +ℤ_invr, neg_ℤ-neg_ℤ}
use Rattle.std.specs.Int.Signed.{le_z}
use Rattle.foundation.specs.Ring.{distrib_left, neg_unique, neg_mul_right}

pub magnitude_neg : (a : ℤ) → nat_abs (neg_ℤ a) ≡ nat_abs a
magnitude_neg (pos zero) = refl
magnitude_neg (pos (suc n)) = refl
magnitude_neg (negsuc n) = refl

pub magnitude_mul : (a b : ℤ) → nat_abs (a *ℤ b) ≡ nat_abs a * nat_abs b
magnitude_mul (pos a) (pos b) = refl
magnitude_mul (pos a) (negsuc b) = magnitude_neg (pos (a * suc b))
magnitude_mul (negsuc a) (pos b) = magnitude_neg (pos (suc a * b))
magnitude_mul (negsuc a) (negsuc b) = refl

cond_cases : (c : Bool) (x y : ℤ) (P : ℤ → Type 0) → (T c → P x) → (T (not c) → P y) → P (cond c x y)
cond_cases true x y P f g = f tt
cond_cases false x y P f g = g tt

-- the difference of two natural numbers: below 0, or not
pub sub_cases : (a b : ℕ) (P : ℤ → Type 0) → ((n : ℕ) → a + suc n ≡ b → P (negsuc n)) → ((n : ℕ) → b + n ≡ a → P (pos n)) → P (sub_ℕ a b)
sub_cases a b P f g = cond_cases (ltb a b) (negsuc (b - suc a)) (pos (a - b)) P
    (λ t. let h : a < b = ltb→lt a b t in f (b - suc a) (omega arith))
    (λ t. let h : b ≤ a = nltb→le a b t in g (a - b) (omega arith))

magnitude_sub : (a b : ℕ) → nat_abs (sub_ℕ a b) ≤ a + b
magnitude_sub a b = sub_cases a b (λ z. nat_abs z ≤ a + b) (λ n h. omega arith) (λ n h. omega arith)

pub magnitude_add : (a b : ℤ) → nat_abs (a +ℤ b) ≤ nat_abs a + nat_abs b
magnitude_add (pos a) (pos b) = omega arith
magnitude_add (pos a) (negsuc b) = magnitude_sub a (suc b)
magnitude_add (negsuc a) (pos b) = omega (arith, magnitude_sub b (suc a))
magnitude_add (negsuc a) (negsuc b) = omega arith

pub magnitude_zero : (z : ℤ) → nat_abs z ≡ 0 → z ≡ pos 0
magnitude_zero (pos n) h = ap pos h
magnitude_zero (negsuc n) h = absurd (omega arith)

-- a number lies between −1 − n and 1 + n
pub within_tests : (n : ℕ) (x : ℤ) → (le_z (negsuc n) x && le_z x (pos (suc n))) ≡ leb (nat_abs x) (suc n)
within_tests n (pos k) = refl
within_tests n (negsuc k) = and-true (leb k n) ∙ sym (leb-suc-suc k n)

-- a factor above 0 cancels: the difference times the factor is 0, and so is the difference
pub cancel : (k : ℕ) (a b : ℤ) → pos (suc k) *ℤ a ≡ pos (suc k) *ℤ b → a ≡ b
cancel k a b e = neg_unique a (neg_ℤ b) (magnitude_zero (a -ℤ b) (factor (nat_abs (a -ℤ b)) scaled)) ∙ neg_ℤ-neg_ℤ b
  where
    scaled : suc k * nat_abs (a -ℤ b) ≡ 0
    scaled = sym (magnitude_mul (pos (suc k)) (a -ℤ b))
        ∙ ap nat_abs (distrib_left (pos (suc k)) a (neg_ℤ b) ∙ ap₂ ◌+ℤ◌ e (neg_mul_right (pos (suc k)) b) ∙ +ℤ_invr (pos (suc k) *ℤ b))

    factor : (n : ℕ) → suc k * n ≡ 0 → n ≡ 0
    factor n h = omega arith
