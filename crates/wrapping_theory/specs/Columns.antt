-- Sums, products and shifts of numbers of two words, word by word, over any base: what the words come to is the whole modulo the base's square.
use Rattle.std.specs.Prelude.{◌≡◌, ℕ, ◌+◌, ◌*◌, ◌/◌, ◌%◌, ◌^◌, ◌<◌, ◌≤◌}
use Rattle.std.proofs.Common.{sym, ◌∙◌, ap, subst, add-mul, mul-add, mul_assoc, mul_comm, mul_left_comm, mul-le-mul, add_assoc, div-add-mod', mod-lt, div-lt_iff_lt-mul, arith}
use Rattle.std.proofs.Math.Arith.{digits_lt, digits_mod}

-- ---- sums: k is carried from the low words, m out of the high ones
carried_whole : (b a c x y low high k m : ℕ) → a + c ≡ k * b + low → x + y + k ≡ m * b + high → (x * b + a) + (y * b + c) ≡ m * (b * b) + (high * b + low)
carried_whole b a c x y low high k m p q = omega (arith, p, simp (add-mul, mul_assoc) at (ap (λ (n : ℕ). n * b) q))

pub carried : (b a c x y low high k m : ℕ) → low < b → high < b → a + c ≡ k * b + low → x + y + k ≡ m * b + high → high * b + low ≡ ((x * b + a) + (y * b + c)) % (b * b)
carried b a c x y low high k m hl hh p q = rw (carried_whole b a c x y low high k m p q) (sym (digits_mod m (digits_lt hh hl)))

-- ---- the whole product of two numbers, by the halves of each, over the base b of a half: t and s are the middle columns, with what the column before carries
pub columns : (b u₀ u₁ v₀ v₁ q₀ r₀ qt rt qs rs : ℕ) → u₀ * v₀ ≡ q₀ * b + r₀ → u₁ * v₀ + q₀ ≡ qt * b + rt → u₀ * v₁ + rt ≡ qs * b + rs
    → (u₁ * v₁ + qt + qs) * (b * b) + (rs * b + r₀) ≡ (u₁ * b + u₀) * (v₁ * b + v₀)
columns b u₀ u₁ v₀ v₁ q₀ r₀ qt rt qs rs p q r =
    let t : u₁ * (v₀ * b) + q₀ * b ≡ qt * (b * b) + rt * b = simp (add-mul, mul_assoc) at (ap (λ (n : ℕ). n * b) q) in
    let s : u₀ * (v₁ * b) + rt * b ≡ qs * (b * b) + rs * b = simp (add-mul, mul_assoc) at (ap (λ (n : ℕ). n * b) r) in
    let top : u₁ * (b * (v₁ * b)) ≡ u₁ * (v₁ * (b * b)) = ap (λ (n : ℕ). u₁ * n) (mul_left_comm b v₁ b) in
    let cross : u₁ * (b * v₀) ≡ u₁ * (v₀ * b) = ap (λ (n : ℕ). u₁ * n) (mul_comm b v₀) in
    simp (add-mul, mul-add, mul_assoc) (omega (arith, p))

-- the most that the product of two halves of a word can be
pub halves_small : (a b : ℕ) → a < 2 ^ 32 → b < 2 ^ 32 → a * b ≤ 18446744065119617025
halves_small a b ha hb = mul-le-mul {n₁ = a} {m₁ = b} {n₂ = 4294967295} {m₂ = 4294967295} (omega arith) (omega arith)

-- ---- the low two words of the product of numbers of two words: of the middle products only the low words count
crossed_whole : (b a c x y low h p q pl ql r s : ℕ) → h * b + low ≡ a * c → p * b + pl ≡ x * c → q * b + ql ≡ a * y → h + (pl + ql) ≡ s * b + r
    → (x * b + a) * (y * b + c) ≡ (x * y + p + q + s) * (b * b) + (r * b + low)
crossed_whole b a c x y low h p q pl ql r s e f g k =
    let f' : p * (b * b) + pl * b ≡ x * (c * b) = simp (add-mul, mul_assoc) at (ap (λ (n : ℕ). n * b) f) in
    let g' : q * (b * b) + ql * b ≡ a * (y * b) = simp (add-mul, mul_assoc) at (ap (λ (n : ℕ). n * b) g) in
    let k' : h * b + (pl * b + ql * b) ≡ s * (b * b) + r * b = simp (add-mul, mul_assoc) at (ap (λ (n : ℕ). n * b) k) in
    let top : x * (b * (y * b)) ≡ x * (y * (b * b)) = ap (λ (n : ℕ). x * n) (mul_left_comm b y b) in
    let cross : x * (b * c) ≡ x * (c * b) = ap (λ (n : ℕ). x * n) (mul_comm b c) in
    simp (add-mul, mul-add, mul_assoc) (omega (arith, e))

pub crossed : (b a c x y low h p q pl ql r s : ℕ) → low < b → r < b → h * b + low ≡ a * c → p * b + pl ≡ x * c → q * b + ql ≡ a * y → h + (pl + ql) ≡ s * b + r
    → r * b + low ≡ ((x * b + a) * (y * b + c)) % (b * b)
crossed b a c x y low h p q pl ql r s hl hr e f g k = rw (crossed_whole b a c x y low h p q pl ql r s e f g k) (sym (digits_mod (x * y + p + q + s) (digits_lt hr hl)))

-- ---- d times a number, where d · e is the base: each word shifted, with what the low word hands over
scaled : (b d a x k low high m : ℕ) → low < b → high < b → d * a ≡ k * b + low → d * x + k ≡ m * b + high → high * b + low ≡ (d * (x * b + a)) % (b * b)
scaled b d a x k low high m hl hh p q = rw whole (sym (digits_mod m (digits_lt hh hl)))
  where
    up : d * (x * b) + k * b ≡ m * (b * b) + high * b
    up = simp (add-mul, mul_assoc) at (ap (λ (n : ℕ). n * b) q)

    whole : d * (x * b + a) ≡ m * (b * b) + (high * b + low)
    whole = simp (mul-add) (omega (arith, p, up))

module _ (b d e : ℕ) (s : d * e ≡ b) (he : 0 < e) where
  apart : (n : ℕ) → n * d ≡ n / e * b + n % e * d
  apart n = ap (λ (m : ℕ). m * d) (sym (div-add-mod' n e)) ∙ add-mul (n / e * e) (n % e) d ∙ ap (λ (m : ℕ). m + n % e * d) (mul_assoc (n / e) e d ∙ ap (λ (m : ℕ). n / e * m) (mul_comm e d ∙ s))

  small : (n r : ℕ) → r < d → n % e * d + r < b
  small n r h = subst (λ (m : ℕ). n % e * d + r < m) (mul_comm e d ∙ s) (digits_lt (mod-lt n he) h)

  module _ (a x : ℕ) (hd : 0 < d) (h : a < b) where
    over : a / e < d
    over = (div-lt_iff_lt-mul he).1 (subst (λ (m : ℕ). a < m) (sym s) h)

    kept : (n : ℕ) → (n * d) % b ≡ n % e * d
    kept n = ap (λ (m : ℕ). m % b) (apart n) ∙ digits_mod (n / e) (omega (arith, small n 0 hd))

    pub shift_fits : (x * d) % b + a / e < b
    shift_fits = subst (λ (m : ℕ). m + a / e < b) (sym (kept x)) (small x (a / e) over)

    pub shifted : ((x * d) % b + a / e) * b + (a * d) % b ≡ (d * (x * b + a)) % (b * b)
    shifted = scaled b d a x (a / e) ((a * d) % b) ((x * d) % b + a / e) (x / e) (mod-lt (a * d) (omega (arith, h))) shift_fits
        (mul_comm d a ∙ apart a ∙ ap (λ (m : ℕ). a / e * b + m) (sym (kept a)))
        (ap (λ (m : ℕ). m + a / e) (mul_comm d x ∙ apart x ∙ ap (λ (m : ℕ). x / e * b + m) (sym (kept x))) ∙ add_assoc (x / e * b) ((x * d) % b) (a / e))
