-- A run of operations at any width, none of which may leave it: each local keeps the low bits of a result and reads them back. Where the computed bound of
-- every part is in range, every part is, and nothing is lost.
use Rattle.std.specs.Prelude.{◌≡◌, refl, Bool, ◌&&◌, ℕ, ◌^◌, ◌≤◌, T, ltb, ℤ, nat_abs, ◌+ℤ◌, ◌-ℤ◌, ◌*ℤ◌}
use Rattle.std.proofs.Common.{sym, ◌∙◌, ap, ap₂, subst}
use Rattle.std.specs.Float.Ieee.Fits.{and_l, and_r}
use Rattle.std.specs.Int.{Width}
use mir.Val.{SFits, to_z, of_z, hbits}
use mir.Facts.{to_z-of_z}
use Rattle.foundation.specs.Bound.{bound, bound_is}
use Rattle.foundation.specs.Polynomial.{eval}
use Rattle.foundation.specs.Words.{Op, arg, lit, plus, minus, times, formula}
use Rattle.wrapping_theory.specs.Runs.{size_fits}

module _ (w : Width) where
  -- what a local reads back, and the operation's own result on what its operands' locals read back
  abbrev pub held : (ℕ → ℤ) → Op → ℤ
  held ρ (arg i) = to_z w (of_z w (ρ i))
  held ρ (lit c) = to_z w (of_z w c)
  held ρ (plus a b) = to_z w (of_z w (held ρ a +ℤ held ρ b))
  held ρ (minus a b) = to_z w (of_z w (held ρ a -ℤ held ρ b))
  held ρ (times a b) = to_z w (of_z w (held ρ a *ℤ held ρ b))

  abbrev pub result : (ℕ → ℤ) → Op → ℤ
  result ρ (arg i) = ρ i
  result ρ (lit c) = c
  result ρ (plus a b) = held ρ a +ℤ held ρ b
  result ρ (minus a b) = held ρ a -ℤ held ρ b
  result ρ (times a b) = held ρ a *ℤ held ρ b

  -- the bound of each part is in range
  abbrev small : (ℕ → ℕ) → Op → Bool
  small β o = ltb (bound β (formula o)) (2 ^ hbits w)

  abbrev pub fits : (ℕ → ℕ) → Op → Bool
  fits β (arg i) = small β (arg i)
  fits β (lit c) = small β (lit c)
  fits β (plus a b) = small β (plus a b) && (fits β a && fits β b)
  fits β (minus a b) = small β (minus a b) && (fits β a && fits β b)
  fits β (times a b) = small β (times a b) && (fits β a && fits β b)

  fits_small : (β : ℕ → ℕ) (o : Op) → T (fits β o) → T (small β o)
  fits_small β (arg i) t = t
  fits_small β (lit c) t = t
  fits_small β (plus a b) t = and_l (small β (plus a b)) (fits β a && fits β b) t
  fits_small β (minus a b) t = and_l (small β (minus a b)) (fits β a && fits β b) t
  fits_small β (times a b) t = and_l (small β (times a b)) (fits β a && fits β b) t

  held_back : (ρ : ℕ → ℤ) (o : Op) → held ρ o ≡ to_z w (of_z w (result ρ o))
  held_back ρ (arg i) = refl
  held_back ρ (lit c) = refl
  held_back ρ (plus a b) = refl
  held_back ρ (minus a b) = refl
  held_back ρ (times a b) = refl

  module _ (ρ : ℕ → ℤ) (β : ℕ → ℕ) (h : (i : ℕ) → nat_abs (ρ i) ≤ β i) where
    value_fits : (o : Op) → T (fits β o) → SFits w (eval ρ (formula o))
    value_fits o t = size_fits w (bound β (formula o)) (eval ρ (formula o)) (bound_is ρ β h (formula o)) (fits_small β o t)

    -- an exact result is read back whole
    read : (o : Op) → (T (fits β o) → result ρ o ≡ eval ρ (formula o)) → T (fits β o) → held ρ o ≡ eval ρ (formula o)
    read o e t = held_back ρ o ∙ ap (λ (z : ℤ). to_z w (of_z w z)) (e t) ∙ to_z-of_z (value_fits o t)

    -- an operation on two exact operands is exact
    binary : (f : ℤ → ℤ → ℤ) (c : Bool) (a b : Op) → (T (fits β a) → result ρ a ≡ eval ρ (formula a)) → (T (fits β b) → result ρ b ≡ eval ρ (formula b))
        → T (c && (fits β a && fits β b)) → f (held ρ a) (held ρ b) ≡ f (eval ρ (formula a)) (eval ρ (formula b))
    binary f c a b p q t = let parts = and_r c (fits β a && fits β b) t in
        ap₂ f (read a p (and_l (fits β a) (fits β b) parts)) (read b q (and_r (fits β a) (fits β b) parts))

    pub result_is : (o : Op) → T (fits β o) → result ρ o ≡ eval ρ (formula o)
    result_is (arg i) t = refl
    result_is (lit c) t = refl
    result_is (plus a b) t = binary ◌+ℤ◌ (small β (plus a b)) a b (result_is a) (result_is b) t
    result_is (minus a b) t = binary ◌-ℤ◌ (small β (minus a b)) a b (result_is a) (result_is b) t
    result_is (times a b) t = binary ◌*ℤ◌ (small β (times a b)) a b (result_is a) (result_is b) t

    pub held_is : (o : Op) → T (fits β o) → held ρ o ≡ eval ρ (formula o)
    held_is o t = read o (result_is o) t

    pub result_fits : (o : Op) → T (fits β o) → SFits w (result ρ o)
    result_fits o t = subst (SFits w) (sym (result_is o t)) (value_fits o t)
