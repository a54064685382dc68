-- Numbers of one word as numbers of two: the sign fills the high word; and which numbers of two words one word holds.
use Rattle.std.specs.Prelude.{◌≡◌, refl, Bool, true, false, ◌&&◌, ℕ, zero, suc, ◌+◌, ◌*◌, ◌-◌, ◌^◌, ◌<◌, ◌≤◌, ℤ, pos, negsuc, nat_abs, ◌*ℤ◌}
use Rattle.std.proofs.Common.{sym, ◌∙◌, ap, le_trans, le-add_right, mul-le-mul_right, le_of_lt, mul-le-mul, le_of_eq, arith, le-leb, lit≤, SFits, to_z}
use Rattle.std.proofs.lemmas.Bool.{lt-leb}
use Rattle.std.proofs.Math.Arith.{digits_lt, lt_of_le-ne}
use Rattle.std.specs.Int.Signed.{mag}
use Rattle.std.specs.Int.{w64, w128}
use mir.ValLaws.{to_z_pos, to_z-neg}
use Rattle.foundation.specs.Magnitude.{magnitude_mul}
use Rattle.foundation.specs.Words.{signed_limit}
use Rattle.definitions.specs.TwoWords.{word_base, value, in_one_word}
use Rattle.wrapping_theory.specs.Runs.{size_fits}
use Rattle.wrapping_theory.specs.Words.{together, AreWords, Sign, plus, minus, sign, value_above, value_below}

-- ---- the sign fills the high word
bare : (low : ℕ) → together low 0 ≡ low
bare low = omega arith

pub filled_plus : (low : ℕ) → low < signed_limit → value low 0 ≡ to_z w64 low
filled_plus low h = value_above low 0 (omega arith) ∙ ap pos (bare low) ∙ sym (to_z_pos w64 low h)

filled : (m k b n : ℕ) → m ≡ k + b → n < b → m - suc (k + n) ≡ b - suc n
filled m k b n e h = omega (arith, e, h)

ones_value : (low : ℕ) → low < 2 ^ 64 → value low 18446744073709551615 ≡ negsuc (word_base - suc low)
ones_value low h = value_below low 18446744073709551615 (record { low_word_fits = h; high_word_fits = omega arith }) (omega arith)
    ∙ ap negsuc (filled (2 ^ 128) (18446744073709551615 * word_base) word_base low refl h)

pub filled_minus : (low : ℕ) → signed_limit ≤ low → low < 2 ^ 64 → value low 18446744073709551615 ≡ to_z w64 low
filled_minus low h k = let back : 2 ^ 64 - suc (2 ^ 64 - suc low) ≡ low = omega (arith, k) in let m : 2 ^ 64 - suc low < signed_limit = omega (arith, h, k) in
    ones_value low k ∙ sym (ap (to_z w64) (sym back) ∙ to_z-neg w64 (2 ^ 64 - suc low) m)

-- ---- which numbers one word holds
pub held : (z : ℤ) → SFits w64 z → in_one_word z ≡ true
held (pos n) f = let h : n ≤ 2 ^ 63 - 1 = omega (arith, f.sfits) in le-leb n (2 ^ 63 - 1) h
held (negsuc n) f = let h : n ≤ 2 ^ 63 - 1 = omega (arith, f.sfits) in ap (λ (b : Bool). b && true) (le-leb n (2 ^ 63 - 1) h)

pub not_held : (z : ℤ) → signed_limit ≤ mag z → in_one_word z ≡ false
not_held (pos n) h = let l : 2 ^ 63 - 1 < n = omega (arith, h) in lt-leb n (2 ^ 63 - 1) l
not_held (negsuc n) h = let l : 2 ^ 63 - 1 < n = omega (arith, h) in ap (λ (b : Bool). b && true) (lt-leb n (2 ^ 63 - 1) l)

pub above_plus : (low : ℕ) → signed_limit ≤ low → in_one_word (value low 0) ≡ false
above_plus low h = ap in_one_word (value_above low 0 (omega arith) ∙ ap pos (bare low)) ∙ not_held (pos low) h

pub below_minus : (low : ℕ) → low < signed_limit → in_one_word (value low 18446744073709551615) ≡ false
below_minus low h = let l : signed_limit ≤ word_base - suc low = omega (arith, h) in ap in_one_word (ones_value low (omega (arith, h))) ∙ not_held (negsuc (word_base - suc low)) l

-- any other high word
far : (m k n : ℕ) → m ≡ k + word_base → n < k → signed_limit ≤ m - suc n
far m k n e h = omega (arith, e, h)

some : (low high : ℕ) → (high ≡ 0 → ⊥) → signed_limit ≤ together low high
some low zero f = absurd (f refl)
some low (suc high) f = le_trans (lit≤ {n = 1 * word_base} tt) (le_trans (mul-le-mul_right {m = 1} {n = suc high} word_base (omega arith)) (le-add_right (suc high * word_base) low))

pub neither : (low high : ℕ) → AreWords low high → (high ≡ 0 → ⊥) → (high ≡ 18446744073709551615 → ⊥) → in_one_word (value low high) ≡ false
neither low high w f g = go (sign high)
  where
    go : Sign high → in_one_word (value low high) ≡ false
    go (plus h) = ap in_one_word (value_above low high h) ∙ not_held (pos (together low high)) (some low high f)
    go (minus h) = ap in_one_word (value_below low high w h) ∙ not_held (negsuc (2 ^ 128 - suc (together low high)))
        (far (2 ^ 128) (18446744073709551615 * word_base) (together low high) refl (digits_lt (lt_of_le-ne (omega (arith, w.high_word_fits)) g) w.low_word_fits))

-- ---- the product of two numbers of one word is in range
pub one_word : (z : ℤ) → SFits w64 z → nat_abs z ≤ signed_limit
one_word (pos n) f = le_of_lt f.sfits
one_word (negsuc n) f = f.sfits

pub product_fits : (x y : ℤ) → SFits w64 x → SFits w64 y → SFits w128 (x *ℤ y)
product_fits x y f g = size_fits w128 (signed_limit * signed_limit) (x *ℤ y) (le_trans (le_of_eq (magnitude_mul x y)) (mul-le-mul (one_word x f) (one_word y g))) tt
