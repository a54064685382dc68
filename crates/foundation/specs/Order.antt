-- The order of ℤ: a ≤ b where b is a and a natural number; what it keeps; the numbers above 0.
use Rattle.std.specs.Prelude.{◌≡◌, refl, Bool, true, false, not, ◌⊎◌, ℕ, zero, suc, ◌+◌, ◌*◌, ◌-◌, ◌≤◌, T, ℤ, pos, negsuc, ◌+ℤ◌, ◌*ℤ◌, ◌≤ℤ◌, ◌<ℤ◌}
use Rattle.std.proofs.Common.{sym, ◌∙◌, ap, ap₂, subst, inl, inr, le_of_lt, arith, ltb→lt, leb→le, le→leb}
use Rattle.std.proofs.Math.Dec.{nleb→lt, leb-suc-zero}
use Rattle.std.proofs.Math.IntN.{+ℤ_assoc, *ℤ-zero}
use Rattle.std.specs.Int.Signed.{le_z, lt_z, le_z_yes, lt_z_no}
use Rattle.foundation.specs.Ring.{interchange, distrib_left}
use Rattle.foundation.specs.Magnitude.{sub_cases}

-- ---- the gap between two numbers
pub le_plus : (a : ℤ) (n : ℕ) → a ≤ℤ (a +ℤ pos n)
le_plus (pos a) n = le_z_yes (le→leb a (a + n) (omega arith))
le_plus (negsuc a) n = le_z_yes (sub_cases n (suc a) (λ z. T (le_z (negsuc a) z)) (λ k h. le→leb k a (omega arith)) (λ k h. tt))

gap : (a b : ℤ) → T (le_z a b) → (n : ℕ) × (a +ℤ pos n ≡ b)
gap (pos a) (pos b) t = let h : a ≤ b = leb→le a b t in (b - a, ap pos (omega arith))
gap (pos a) (negsuc b) t = absurd t
gap (negsuc a) (pos b) t = (suc a + b, sub_cases (suc a + b) (suc a) (λ z. z ≡ pos b) (λ n h. absurd (omega arith)) (λ n h. ap pos (omega arith)))
gap (negsuc a) (negsuc b) t = let h : b ≤ a = leb→le b a t in
    (a - b, sub_cases (a - b) (suc a) (λ z. z ≡ negsuc b) (λ n k. ap negsuc (omega arith)) (λ n k. absurd (omega arith)))

pub le_gap : {a b : ℤ} → a ≤ℤ b → (n : ℕ) × (a +ℤ pos n ≡ b)
le_gap {a} {b} h = gap a b h.le

pub le_by : {a b : ℤ} (n : ℕ) → a +ℤ pos n ≡ b → a ≤ℤ b
le_by {a} n e = subst (λ (x : ℤ). a ≤ℤ x) e (le_plus a n)

-- ---- a total order
pub le_trans : {a b c : ℤ} → a ≤ℤ b → b ≤ℤ c → a ≤ℤ c
le_trans {a} h k = let (m, p) = le_gap h in let (n, q) = le_gap k in
    le_by (m + n) (sym (+ℤ_assoc a (pos m) (pos n)) ∙ ap (λ (x : ℤ). x +ℤ pos n) p ∙ q)

pub le_antisym : (a b : ℤ) → a ≤ℤ b → b ≤ℤ a → a ≡ b
le_antisym (pos a) (pos b) h k = let p : a ≤ b = leb→le a b h.le in let q : b ≤ a = leb→le b a k.le in ap pos (omega arith)
le_antisym (pos a) (negsuc b) h k = absurd h.le
le_antisym (negsuc a) (pos b) h k = absurd k.le
le_antisym (negsuc a) (negsuc b) h k = let p : b ≤ a = leb→le b a h.le in let q : a ≤ b = leb→le a b k.le in ap negsuc (omega arith)

pub le_total : (a b : ℤ) → (a ≤ℤ b) ⊎ (b <ℤ a)
le_total a b = go (lt_z b a) refl
  where
    go : (c : Bool) → lt_z b a ≡ c → (a ≤ℤ b) ⊎ (b <ℤ a)
    go true e = inr (record { lt = subst T (sym e) tt })
    go false e = inl (lt_z_no (subst (λ (c : Bool). T (not c)) (sym e) tt))

weaken : (a b : ℤ) → T (lt_z a b) → T (le_z a b)
weaken (pos a) (pos b) t = le→leb a b (le_of_lt (ltb→lt a b t))
weaken (pos a) (negsuc b) t = t
weaken (negsuc a) (pos b) t = tt
weaken (negsuc a) (negsuc b) t = le→leb b a (le_of_lt (ltb→lt b a t))

pub lt_le : {a b : ℤ} → a <ℤ b → a ≤ℤ b
lt_le {a} {b} h = le_z_yes (weaken a b h.lt)

-- ---- sums and multiples keep the order
pub le_add : {a b c d : ℤ} → a ≤ℤ b → c ≤ℤ d → (a +ℤ c) ≤ℤ (b +ℤ d)
le_add {a} {b} {c} {d} h k = let (m, p) = le_gap h in let (n, q) = le_gap k in
    le_by (m + n) (interchange a c (pos m) (pos n) ∙ ap₂ ◌+ℤ◌ p q)

pub le_scale : {a b : ℤ} (n : ℕ) → a ≤ℤ b → (pos n *ℤ a) ≤ℤ (pos n *ℤ b)
le_scale {a} n h = let (m, p) = le_gap h in
    le_by (n * m) (sym (distrib_left (pos n) a (pos m)) ∙ ap (λ (x : ℤ). pos n *ℤ x) p)

-- ---- above 0
abbrev pub Positive : ℤ → Type 0
Positive z = pos 1 ≤ℤ z

pub not_low_positive : (z : ℤ) → le_z z (pos 0) ≡ false → Positive z
not_low_positive (pos n) e = le_z_yes (le→leb 1 n (nleb→lt n 0 (subst (λ (b : Bool). T (not b)) (sym e) tt)))
not_low_positive (negsuc n) e = absurd (subst T e tt)

pub positive_not_low : (z : ℤ) → Positive z → le_z z (pos 0) ≡ false
positive_not_low (pos zero) h = absurd h.le
positive_not_low (pos (suc n)) h = leb-suc-zero n
positive_not_low (negsuc n) h = absurd h.le

-- no number is above 0 and at most 0
clash : {z : ℤ} → Positive z → z ≤ℤ pos 0 → ⊥
clash {z} h k = subst T (positive_not_low z h) k.le

pub positive_lt : (z : ℤ) → Positive z → pos 0 <ℤ z
positive_lt z h = elim (le_total z (pos 0)) [ inl k ↦ absurd (clash h k) | inr k ↦ k ]

pub positive_unscale : (k : ℕ) (z : ℤ) → Positive (pos (suc k) *ℤ z) → Positive z
positive_unscale k z h = go (le_z z (pos 0)) refl
  where
    go : (b : Bool) → le_z z (pos 0) ≡ b → Positive z
    go true e = let low : z ≤ℤ pos 0 = le_z_yes (subst T (sym e) tt) in
        absurd (clash h (subst (λ (x : ℤ). (pos (suc k) *ℤ z) ≤ℤ x) (*ℤ-zero (pos (suc k))) (le_scale (suc k) low)))
    go false e = not_low_positive z e
