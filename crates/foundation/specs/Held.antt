-- What one local's bits stand for, with a running bound: put together operation by operation, as the code computes.
use Rattle.std.specs.Prelude.{◌≡◌, ℕ, ◌+◌, ◌*◌, ◌≤◌, ◌<◌, T, ltb, ℤ, neg_ℤ, nat_abs, ◌+ℤ◌, ◌-ℤ◌, ◌*ℤ◌}
use Rattle.std.proofs.Common.{sym, ◌∙◌, ap₂, subst, le_trans, le_of_eq, add-le-add, mul-le-mul, ltb→lt, SFits, to_z, of_z, to_z-of_z}
use Rattle.std.specs.Int.Signed.{mag}
use Rattle.std.specs.Int.{w64}
use Rattle.foundation.specs.Magnitude.{magnitude_neg, magnitude_mul, magnitude_add}
use Rattle.foundation.specs.Words.{sfits_below, signed_limit}

-- the bits b read as z, whose magnitude is at most n, and n is in range
pub record Rep (b : ℕ) (z : ℤ) (n : ℕ) : Type 0 where
  pub value : to_z w64 b ≡ z
  pub magnitude : nat_abs z ≤ n
  pub room : n < signed_limit

-- a parameter, a field or an element, whose bits are those of z
pub leaf : (n : ℕ) (z : ℤ) → nat_abs z ≤ n → T (ltb n signed_limit) → Rep (of_z w64 z) z n
leaf n z h t = let k = ltb→lt n signed_limit t in record { value = to_z-of_z (sfits_below z h k); magnitude = h; room = k }

-- a call's result that equals z
pub answered : {r z : ℤ} (n : ℕ) → r ≡ z → nat_abs z ≤ n → T (ltb n signed_limit) → Rep (of_z w64 r) z n
answered {z = z} n e h t = subst (λ (y : ℤ). Rep (of_z w64 y) z n) (sym e) (leaf n z h t)

-- one whose range is known is read back whole
pub read_back : {r z : ℤ} → mag r < signed_limit → r ≡ z → to_z w64 (of_z w64 r) ≡ z
read_back h e = to_z-of_z {w = w64} (record { sfits = h }) ∙ e

pub small : {b n : ℕ} {z : ℤ} → Rep b z n → nat_abs (to_z w64 b) ≤ n
small {n = n} u = subst (λ (y : ℤ). nat_abs y ≤ n) (sym u.value) u.magnitude

-- a larger bound will do
pub weaken : {b m n : ℕ} {z : ℤ} → Rep b z m → m ≤ n → n < signed_limit → Rep b z n
weaken r h k = record { value = r.value; magnitude = le_trans r.magnitude h; room = k }

module _ {b c m n : ℕ} {x y : ℤ} (u : Rep b x m) (v : Rep c y n) where
  -- ---- the result of any operation on two locals, given a bound on it
  pub made_fits : (f : ℤ → ℤ → ℤ) (k : ℕ) → nat_abs (f x y) ≤ k → k < signed_limit → SFits w64 (f (to_z w64 b) (to_z w64 c))
  made_fits f k h r = subst (SFits w64) (sym (ap₂ f u.value v.value)) (sfits_below (f x y) h r)

  pub made : (f : ℤ → ℤ → ℤ) (k : ℕ) → nat_abs (f x y) ≤ k → k < signed_limit → Rep (of_z w64 (f (to_z w64 b) (to_z w64 c))) (f x y) k
  made f k h r = record { value = to_z-of_z (made_fits f k h r) ∙ ap₂ f u.value v.value; magnitude = h; room = r }

  -- ---- the three operations
  mul_bound : nat_abs (x *ℤ y) ≤ m * n
  mul_bound = le_trans (le_of_eq (magnitude_mul x y)) (mul-le-mul u.magnitude v.magnitude)

  add_bound : nat_abs (x +ℤ y) ≤ m + n
  add_bound = le_trans (magnitude_add x y) (add-le-add u.magnitude v.magnitude)

  sub_bound : nat_abs (x -ℤ y) ≤ m + n
  sub_bound = le_trans (magnitude_add x (neg_ℤ y)) (add-le-add u.magnitude (le_trans (le_of_eq (magnitude_neg y)) v.magnitude))

  pub mul : T (ltb (m * n) signed_limit) → Rep (of_z w64 (to_z w64 b *ℤ to_z w64 c)) (x *ℤ y) (m * n)
  mul t = made ◌*ℤ◌ (m * n) mul_bound (ltb→lt (m * n) signed_limit t)

  pub add : T (ltb (m + n) signed_limit) → Rep (of_z w64 (to_z w64 b +ℤ to_z w64 c)) (x +ℤ y) (m + n)
  add t = made ◌+ℤ◌ (m + n) add_bound (ltb→lt (m + n) signed_limit t)

  pub sub : T (ltb (m + n) signed_limit) → Rep (of_z w64 (to_z w64 b -ℤ to_z w64 c)) (x -ℤ y) (m + n)
  sub t = made ◌-ℤ◌ (m + n) sub_bound (ltb→lt (m + n) signed_limit t)

  pub mul_fits : T (ltb (m * n) signed_limit) → SFits w64 (to_z w64 b *ℤ to_z w64 c)
  mul_fits t = made_fits ◌*ℤ◌ (m * n) mul_bound (ltb→lt (m * n) signed_limit t)

  pub add_fits : T (ltb (m + n) signed_limit) → SFits w64 (to_z w64 b +ℤ to_z w64 c)
  add_fits t = made_fits ◌+ℤ◌ (m + n) add_bound (ltb→lt (m + n) signed_limit t)

  pub sub_fits : T (ltb (m + n) signed_limit) → SFits w64 (to_z w64 b -ℤ to_z w64 c)
  sub_fits t = made_fits ◌-ℤ◌ (m + n) sub_bound (ltb→lt (m + n) signed_limit t)

  -- ---- a sum under a bound that is proved, not computed
  pub add_under : m + n < signed_limit → Rep (of_z w64 (to_z w64 b +ℤ to_z w64 c)) (x +ℤ y) (m + n)
  add_under = made ◌+ℤ◌ (m + n) add_bound

  pub add_fits_under : m + n < signed_limit → SFits w64 (to_z w64 b +ℤ to_z w64 c)
  add_fits_under = made_fits ◌+ℤ◌ (m + n) add_bound
