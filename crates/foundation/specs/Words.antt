-- What a run of signed 64-bit operations holds: each local keeps the low bits of a result and reads them back.
-- Where the computed bound of every part fits, nothing is lost.
use Rattle.std.specs.Prelude.{◌≡◌, refl, Bool, true, false, ◌&&◌, List, ◌++◌, ℕ, ◌+◌, ◌-◌, ◌<◌, ◌≤◌, ◌^◌, T, ltb, get_or, length, ℤ, pos, negsuc, nat_abs, ◌+ℤ◌, ◌-ℤ◌, ◌*ℤ◌}
use Rattle.std.proofs.Common.{sym, ◌∙◌, ap, ap₂, subst, zero-le, le_trans, le_refl, lt_of_le_of_lt, arith, ltb-true, ltb-false, ltb→lt, get_or-append-add, SFits, to_z, of_z, to_z-of_z}
use Rattle.std.proofs.Math.Nat.{le-suc}
use Rattle.std.proofs.Math.ListN.{get_or-append}
use Rattle.std.specs.Int.Signed.{mag}
use Rattle.std.specs.Int.{w64}
use Rattle.std.specs.Float.Ieee.Fits.{and_l, and_r}
use Rattle.foundation.specs.Lists.{All, all_get_d_default}
use Rattle.foundation.specs.Polynomial.{Expr, var, con, add, mul, neg, eval}
use Rattle.foundation.specs.Bound.{bound, bound_is}

-- a magnitude below this fits a word, signed
abbrev pub signed_limit : ℕ
signed_limit = 2 ^ 63

pub data Op : Type 0 where
  arg : ℕ → Op
  lit : ℤ → Op
  plus : Op → Op → Op
  minus : Op → Op → Op
  times : Op → Op → Op

-- the run without loss
abbrev pub formula : Op → Expr
formula (arg i) = var i
formula (lit c) = con c
formula (plus a b) = add (formula a) (formula b)
formula (minus a b) = add (formula a) (neg (formula b))
formula (times a b) = mul (formula a) (formula b)

-- what a local reads back, and the operation's own result on what its operands' locals read back
abbrev pub held : (ℕ → ℤ) → Op → ℤ
held ρ (arg i) = to_z w64 (of_z w64 (ρ i))
held ρ (lit c) = to_z w64 (of_z w64 c)
held ρ (plus a b) = to_z w64 (of_z w64 (held ρ a +ℤ held ρ b))
held ρ (minus a b) = to_z w64 (of_z w64 (held ρ a -ℤ held ρ b))
held ρ (times a b) = to_z w64 (of_z w64 (held ρ a *ℤ held ρ b))

abbrev pub result : (ℕ → ℤ) → Op → ℤ
result ρ (arg i) = ρ i
result ρ (lit c) = c
result ρ (plus a b) = held ρ a +ℤ held ρ b
result ρ (minus a b) = held ρ a -ℤ held ρ b
result ρ (times a b) = held ρ a *ℤ held ρ b

-- the bound of each part fits a word
abbrev small : (ℕ → ℕ) → Op → Bool
small β o = ltb (bound β (formula o)) signed_limit

abbrev pub fits : (ℕ → ℕ) → Op → Bool
fits β (arg i) = small β (arg i)
fits β (lit c) = small β (lit c)
fits β (plus a b) = small β (plus a b) && (fits β a && fits β b)
fits β (minus a b) = small β (minus a b) && (fits β a && fits β b)
fits β (times a b) = small β (times a b) && (fits β a && fits β b)

fits_small : (β : ℕ → ℕ) (o : Op) → T (fits β o) → T (small β o)
fits_small β (arg i) t = t
fits_small β (lit c) t = t
fits_small β (plus a b) t = and_l (small β (plus a b)) (fits β a && fits β b) t
fits_small β (minus a b) t = and_l (small β (minus a b)) (fits β a && fits β b) t
fits_small β (times a b) t = and_l (small β (times a b)) (fits β a && fits β b) t

held_back : (ρ : ℕ → ℤ) (o : Op) → held ρ o ≡ to_z w64 (of_z w64 (result ρ o))
held_back ρ (arg i) = refl
held_back ρ (lit c) = refl
held_back ρ (plus a b) = refl
held_back ρ (minus a b) = refl
held_back ρ (times a b) = refl

mag_small : (z : ℤ) → mag z ≤ nat_abs z
mag_small (pos n) = le_refl n
mag_small (negsuc n) = le-suc n

-- what is below the limit in magnitude fits
pub sfits_below : {n : ℕ} (z : ℤ) → nat_abs z ≤ n → n < signed_limit → SFits w64 z
sfits_below z h k = record { sfits = lt_of_le_of_lt (le_trans (mag_small z) h) k }

module _ (ρ : ℕ → ℤ) (β : ℕ → ℕ) (h : (i : ℕ) → nat_abs (ρ i) ≤ β i) where
  value_fits : (o : Op) → T (fits β o) → SFits w64 (eval ρ (formula o))
  value_fits o t = sfits_below (eval ρ (formula o)) (bound_is ρ β h (formula o)) (ltb→lt (bound β (formula o)) signed_limit (fits_small β o t))

  -- an exact result is read back whole
  read : (o : Op) → (T (fits β o) → result ρ o ≡ eval ρ (formula o)) → T (fits β o) → held ρ o ≡ eval ρ (formula o)
  read o e t = held_back ρ o ∙ ap (λ (z : ℤ). to_z w64 (of_z w64 z)) (e t) ∙ to_z-of_z (value_fits o t)

  -- an operation on two exact operands is exact
  binary : (f : ℤ → ℤ → ℤ) (c : Bool) (a b : Op) → (T (fits β a) → result ρ a ≡ eval ρ (formula a)) → (T (fits β b) → result ρ b ≡ eval ρ (formula b))
      → T (c && (fits β a && fits β b)) → f (held ρ a) (held ρ b) ≡ f (eval ρ (formula a)) (eval ρ (formula b))
  binary f c a b p q t = let parts = and_r c (fits β a && fits β b) t in
      ap₂ f (read a p (and_l (fits β a) (fits β b) parts)) (read b q (and_r (fits β a) (fits β b) parts))

  pub result_is : (o : Op) → T (fits β o) → result ρ o ≡ eval ρ (formula o)
  result_is (arg i) t = refl
  result_is (lit c) t = refl
  result_is (plus a b) t = binary ◌+ℤ◌ (small β (plus a b)) a b (result_is a) (result_is b) t
  result_is (minus a b) t = binary ◌-ℤ◌ (small β (minus a b)) a b (result_is a) (result_is b) t
  result_is (times a b) t = binary ◌*ℤ◌ (small β (times a b)) a b (result_is a) (result_is b) t

  pub held_is : (o : Op) → T (fits β o) → held ρ o ≡ eval ρ (formula o)
  held_is o t = read o (result_is o) t

  pub result_fits : (o : Op) → T (fits β o) → SFits w64 (result ρ o)
  result_fits o t = subst (SFits w64) (sym (result_is o t)) (value_fits o t)

-- ---- the arguments as a list, with one bound for all
abbrev pub args : List ℤ → ℕ → ℤ
args xs i = get_or xs i (pos 0)

abbrev pub Within : ℕ → List ℤ → Type 0
Within b xs = All (λ x. nat_abs x ≤ b) xs

pub within : (b : ℕ) (xs : List ℤ) → Within b xs → (i : ℕ) → nat_abs (args xs i) ≤ b
within b xs h i = all_get_d_default (λ x. nat_abs x ≤ b) xs (pos 0) i zero-le h

-- ---- with one bound for the first k of them and another for the rest
abbrev pub split : ℕ → ℕ → ℕ → ℕ → ℕ
split k b c i = elim (ltb i k) [ true ↦ b | false ↦ c ]

pub split_cases : (P : ℕ → Type 0) {b c : ℕ} → P b → P c → (k i : ℕ) → P (split k b c i)
split_cases P {b} {c} p q k i = go (ltb i k)
  where
    go : (t : Bool) → P (elim t [ true ↦ b | false ↦ c ])
    go true = p
    go false = q

pub within_split : (b c : ℕ) (xs ys : List ℤ) → Within b xs → Within c ys → (i : ℕ) → nat_abs (args (xs ++ ys) i) ≤ split (length xs) b c i
within_split b c xs ys h k i = go (ltb i (length xs)) refl
  where
    back : length xs ≤ i → length xs + (i - length xs) ≡ i
    back l = omega (arith, l)

    go : (t : Bool) → ltb i (length xs) ≡ t → nat_abs (args (xs ++ ys) i) ≤ elim t [ true ↦ b | false ↦ c ]
    go true e = subst (λ (z : ℤ). nat_abs z ≤ b) (sym (get_or-append xs ys (pos 0) i (ltb-true i (length xs) e))) (within b xs h i)
    go false e = subst (λ (z : ℤ). nat_abs z ≤ c) (sym (ap (args (xs ++ ys)) (sym (back (ltb-false i (length xs) e))) ∙ get_or-append-add xs ys (i - length xs) (pos 0))) (within c ys k (i - length xs))
