-- ℤ is a commutative ring: the laws that lib.IntN lacks.
use Rattle.std.specs.Prelude.{◌≡◌, zero, suc, ℤ, pos, negsuc, neg_ℤ, ◌+ℤ◌, ◌-ℤ◌, ◌*ℤ◌}
use Rattle.std.proofs.Common.{sym, ◌∙◌, ap, ap₂}
use Rattle.std.proofs.Math.IntN.{suc_ℤ, pred_ℤ, one, suc_ℤ-+ℤ, pred_ℤ-+ℤ, +ℤ_idl, +ℤ_idr, +ℤ_assoc, +ℤ_comm, +ℤ_invl, +ℤ_invr, zero-*ℤ, *ℤ-one, suc_ℤ-*ℤ, pred_ℤ-*ℤ, *ℤ_comm}

-- induction by successor and predecessor
pub induction {ℓ} : (P : ℤ → Type ℓ) → P (pos 0) → ((k : ℤ) → P k → P (suc_ℤ k)) → ((k : ℤ) → P k → P (pred_ℤ k)) → (z : ℤ) → P z
induction P base up down (pos zero) = base
induction P base up down (pos (suc n)) = up (pos n) (induction P base up down (pos n))
induction P base up down (negsuc zero) = down (pos zero) base
induction P base up down (negsuc (suc n)) = down (negsuc n) (induction P base up down (negsuc n))

-- ---- sums in another order
pub right_comm : (a b c : ℤ) → a +ℤ b +ℤ c ≡ a +ℤ c +ℤ b
right_comm a b c = +ℤ_assoc a b c ∙ ap (λ (x : ℤ). a +ℤ x) (+ℤ_comm b c) ∙ sym (+ℤ_assoc a c b)

pub left_comm : (a b c : ℤ) → a +ℤ (b +ℤ c) ≡ b +ℤ (a +ℤ c)
left_comm a b c = sym (+ℤ_assoc a b c) ∙ ap (λ (x : ℤ). x +ℤ c) (+ℤ_comm a b) ∙ +ℤ_assoc b a c

pub interchange : (a b c d : ℤ) → a +ℤ b +ℤ (c +ℤ d) ≡ a +ℤ c +ℤ (b +ℤ d)
interchange a b c d = +ℤ_assoc a b (c +ℤ d) ∙ ap (λ (x : ℤ). a +ℤ x) (left_comm b c d) ∙ sym (+ℤ_assoc a c (b +ℤ d))

-- ---- products of sums
pub distrib_right : (a b c : ℤ) → (a +ℤ b) *ℤ c ≡ a *ℤ c +ℤ b *ℤ c
distrib_right a b c = induction (λ (k : ℤ). (k +ℤ b) *ℤ c ≡ k *ℤ c +ℤ b *ℤ c) base up down a
  where
    base : (pos 0 +ℤ b) *ℤ c ≡ pos 0 *ℤ c +ℤ b *ℤ c
    base = ap (λ (x : ℤ). x *ℤ c) (+ℤ_idl b) ∙ sym (ap (λ (x : ℤ). x +ℤ b *ℤ c) (zero-*ℤ c) ∙ +ℤ_idl (b *ℤ c))

    up : (k : ℤ) → (k +ℤ b) *ℤ c ≡ k *ℤ c +ℤ b *ℤ c → (suc_ℤ k +ℤ b) *ℤ c ≡ suc_ℤ k *ℤ c +ℤ b *ℤ c
    up k h = ap (λ (x : ℤ). x *ℤ c) (suc_ℤ-+ℤ k b) ∙ suc_ℤ-*ℤ (k +ℤ b) c ∙ ap (λ (x : ℤ). x +ℤ c) h
        ∙ right_comm (k *ℤ c) (b *ℤ c) c ∙ ap (λ (x : ℤ). x +ℤ b *ℤ c) (sym (suc_ℤ-*ℤ k c))

    down : (k : ℤ) → (k +ℤ b) *ℤ c ≡ k *ℤ c +ℤ b *ℤ c → (pred_ℤ k +ℤ b) *ℤ c ≡ pred_ℤ k *ℤ c +ℤ b *ℤ c
    down k h = ap (λ (x : ℤ). x *ℤ c) (pred_ℤ-+ℤ k b) ∙ pred_ℤ-*ℤ (k +ℤ b) c ∙ ap (λ (x : ℤ). x -ℤ c) h
        ∙ right_comm (k *ℤ c) (b *ℤ c) (neg_ℤ c) ∙ ap (λ (x : ℤ). x +ℤ b *ℤ c) (sym (pred_ℤ-*ℤ k c))

pub distrib_left : (a b c : ℤ) → a *ℤ (b +ℤ c) ≡ a *ℤ b +ℤ a *ℤ c
distrib_left a b c = *ℤ_comm a (b +ℤ c) ∙ distrib_right b c a ∙ ap₂ ◌+ℤ◌ (*ℤ_comm b a) (*ℤ_comm c a)

-- ---- negatives: a number has only one
pub neg_unique : (x y : ℤ) → x +ℤ y ≡ pos 0 → x ≡ neg_ℤ y
neg_unique x y h = sym (+ℤ_idr x) ∙ ap (λ (t : ℤ). x +ℤ t) (sym (+ℤ_invr y)) ∙ sym (+ℤ_assoc x y (neg_ℤ y)) ∙ ap (λ (t : ℤ). t +ℤ neg_ℤ y) h ∙ +ℤ_idl (neg_ℤ y)

pub neg_mul_left : (a b : ℤ) → neg_ℤ a *ℤ b ≡ neg_ℤ (a *ℤ b)
neg_mul_left a b = neg_unique (neg_ℤ a *ℤ b) (a *ℤ b) (sym (distrib_right (neg_ℤ a) a b) ∙ ap (λ (x : ℤ). x *ℤ b) (+ℤ_invl a) ∙ zero-*ℤ b)

pub neg_mul_right : (a b : ℤ) → a *ℤ neg_ℤ b ≡ neg_ℤ (a *ℤ b)
neg_mul_right a b = *ℤ_comm a (neg_ℤ b) ∙ neg_mul_left b a ∙ ap neg_ℤ (*ℤ_comm b a)

-- ---- products of products
pub mul_assoc : (a b c : ℤ) → a *ℤ b *ℤ c ≡ a *ℤ (b *ℤ c)
mul_assoc a b c = induction (λ (k : ℤ). k *ℤ b *ℤ c ≡ k *ℤ (b *ℤ c)) base up down a
  where
    base : pos 0 *ℤ b *ℤ c ≡ pos 0 *ℤ (b *ℤ c)
    base = ap (λ (x : ℤ). x *ℤ c) (zero-*ℤ b) ∙ zero-*ℤ c ∙ sym (zero-*ℤ (b *ℤ c))

    up : (k : ℤ) → k *ℤ b *ℤ c ≡ k *ℤ (b *ℤ c) → suc_ℤ k *ℤ b *ℤ c ≡ suc_ℤ k *ℤ (b *ℤ c)
    up k h = ap (λ (x : ℤ). x *ℤ c) (suc_ℤ-*ℤ k b) ∙ distrib_right (k *ℤ b) b c ∙ ap (λ (x : ℤ). x +ℤ b *ℤ c) h ∙ sym (suc_ℤ-*ℤ k (b *ℤ c))

    down : (k : ℤ) → k *ℤ b *ℤ c ≡ k *ℤ (b *ℤ c) → pred_ℤ k *ℤ b *ℤ c ≡ pred_ℤ k *ℤ (b *ℤ c)
    down k h = ap (λ (x : ℤ). x *ℤ c) (pred_ℤ-*ℤ k b) ∙ distrib_right (k *ℤ b) (neg_ℤ b) c ∙ ap₂ ◌+ℤ◌ h (neg_mul_left b c) ∙ sym (pred_ℤ-*ℤ k (b *ℤ c))

pub one_mul : (a : ℤ) → pos 1 *ℤ a ≡ a
unfolding one
one_mul a = *ℤ_comm (pos 1) a ∙ *ℤ-one a

pub mul_left_comm : (a b c : ℤ) → a *ℤ (b *ℤ c) ≡ b *ℤ (a *ℤ c)
mul_left_comm a b c = sym (mul_assoc a b c) ∙ ap (λ (x : ℤ). x *ℤ c) (*ℤ_comm a b) ∙ mul_assoc b a c
