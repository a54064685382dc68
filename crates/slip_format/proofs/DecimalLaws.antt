-- Printed numbers, digit by digit, and how long they are.
use Rattle.std.specs.Prelude.{◌≡◌, List, [], ◌∷◌, ◌++◌, ℕ, zero, suc, ◌+◌, ◌/◌, ◌%◌, ◌^◌, ◌<◌, ◌≤◌, length, ℤ, pos, negsuc}
use Rattle.std.proofs.Common.{sym, ◌∙◌, ap, pow-suc, arith, lt-ltb, le-ltb, length-append}
use Rattle.std.proofs.Math.Decide.{dec_lt}
use Rattle.std.specs.Int.Signed.{mag}
use Rattle.foundation.specs.Words.{signed_limit}
use Rattle.slip_format.specs.Decimal.{digits, decimal, signed_decimal}

-- ---- one digit
digits_one : (k x : ℕ) → x < 10 → digits (suc k) x ≡ (48 + x) ∷ []
unfolding digits
digits_one k x h = rw (lt-ltb x 10 h, digits)

digits_more : (k x : ℕ) → 10 ≤ x → digits (suc k) x ≡ digits k (x / 10) ++ ((48 + x % 10) ∷ [])
unfolding digits
digits_more k x h = rw (le-ltb x 10 h, digits)

-- whatever number falls at each digit, so long as it is above x
digits_enough : (j k x : ℕ) → x < j → x < k → digits j x ≡ digits k x
digits_enough zero k x h i = absurd (omega arith)
digits_enough (suc j) zero x h i = absurd (omega arith)
digits_enough (suc j) (suc k) x h i = elim (dec_lt x 10) [
  | yes s ↦ digits_one j x s ∙ sym (digits_one k x s)
  | no s ↦ digits_more j x (omega arith) ∙ ap (λ (l : List ℕ). l ++ ((48 + x % 10) ∷ [])) (digits_enough j k (x / 10) (omega arith) (omega arith)) ∙ sym (digits_more k x (omega arith))
]

pub decimal_one : (x : ℕ) → x < 10 → decimal x ≡ (48 + x) ∷ []
unfolding decimal
decimal_one x h = digits_one x x h

pub decimal_more : (x : ℕ) → 10 ≤ x → decimal x ≡ decimal (x / 10) ++ ((48 + x % 10) ∷ [])
unfolding decimal
decimal_more x h = digits_more x x h ∙ ap (λ (l : List ℕ). l ++ ((48 + x % 10) ∷ [])) (digits_enough x (suc (x / 10)) (x / 10) (omega arith) (omega arith))

-- ---- lengths
pub decimal_length : (n x : ℕ) → x < 10 ^ suc n → length (decimal x) ≤ suc n
decimal_length zero x h = rw (decimal_one x (omega arith)) (omega arith)
decimal_length (suc n) x h = elim (dec_lt x 10) [
  | yes s ↦ rw (decimal_one x s) (omega arith)
  | no s ↦ rw (decimal_more x (omega arith)) (simp length-append (omega (arith, decimal_length n (x / 10) (omega (arith, pow-suc 10 (suc n))))))
]

-- the widths that are printed: an element's number, a count, a word of a record
pub decimal_short : (x : ℕ) → x < 10000 → length (decimal x) ≤ 4
decimal_short x h = decimal_length 3 x h

pub decimal_32 : (x : ℕ) → x < 2 ^ 32 → length (decimal x) ≤ 10
decimal_32 x h = decimal_length 9 x (omega arith)

pub signed_length : (z : ℤ) → mag z < signed_limit → length (signed_decimal z) ≤ 20
signed_length (pos x) h = omega (arith, decimal_length 18 x (omega arith))
signed_length (negsuc x) h = omega (arith, decimal_length 18 (suc x) (omega arith))
