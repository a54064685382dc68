-- A bound on the magnitude of an expression's value, computed from bounds on its variables.
use Rattle.std.specs.Prelude.{◌≡◌, Bool, true, ◌&&◌, List, [], ◌∷◌, ℕ, ◌+◌, ◌*◌, ◌^◌, ◌≤◌, T, eqb, length, ℤ, nat_abs, ◌+ℤ◌, ◌*ℤ◌}
use Rattle.std.proofs.Common.{sym, subst, zero-le, le_trans, le_refl, le_of_eq, mul-le-mul, mul-le-mul_left, add-le-add, add-mul, eqb→eq}
use Rattle.std.proofs.Math.Nat.{pow-zero, pow-succ'}
use Rattle.std.specs.Float.Ieee.Fits.{and_l, and_r}
use Rattle.foundation.specs.Magnitude.{magnitude_neg, magnitude_mul, magnitude_add}
use Rattle.foundation.specs.Polynomial.{Expr, var, con, add, mul, neg, eval, eval_monomial, Poly, nil, term, eval_poly, normal, normal_is}

abbrev pub bound : (ℕ → ℕ) → Expr → ℕ
bound β (var i) = β i
bound β (con c) = nat_abs c
bound β (add a b) = bound β a + bound β b
bound β (mul a b) = bound β a * bound β b
bound β (neg a) = bound β a

pub bound_is : (ρ : ℕ → ℤ) (β : ℕ → ℕ) → ((i : ℕ) → nat_abs (ρ i) ≤ β i) → (e : Expr) → nat_abs (eval ρ e) ≤ bound β e
bound_is ρ β h (var i) = h i
bound_is ρ β h (con c) = le_refl (nat_abs c)
bound_is ρ β h (add a b) = le_trans (magnitude_add (eval ρ a) (eval ρ b)) (add-le-add (bound_is ρ β h a) (bound_is ρ β h b))
bound_is ρ β h (mul a b) = subst (λ (t : ℕ). t ≤ bound β a * bound β b) (sym (magnitude_mul (eval ρ a) (eval ρ b))) (mul-le-mul (bound_is ρ β h a) (bound_is ρ β h b))
bound_is ρ β h (neg a) = subst (λ (t : ℕ). t ≤ bound β a) (sym (magnitude_neg (eval ρ a))) (bound_is ρ β h a)

-- ---- by the terms that are left when an expression is multiplied out: what cancels does not count
abbrev pub weight : Poly → ℕ
weight nil = 0
weight (term c m p) = nat_abs c + weight p

abbrev pub of_degree : ℕ → Poly → Bool
of_degree d nil = true
of_degree d (term c m p) = eqb (length m) d && of_degree d p

module _ (ρ : ℕ → ℤ) (L : ℕ) (h : (i : ℕ) → nat_abs (ρ i) ≤ L) where
  monomial_is : (m : List ℕ) → nat_abs (eval_monomial ρ m) ≤ L ^ length m
  monomial_is [] = le_of_eq (sym (pow-zero L))
  monomial_is (i ∷ m) = subst (λ (n : ℕ). nat_abs (ρ i *ℤ eval_monomial ρ m) ≤ n) (sym (pow-succ' L (length m))) (le_trans (le_of_eq (magnitude_mul (ρ i) (eval_monomial ρ m))) (mul-le-mul (h i) (monomial_is m)))

  terms_are : (d : ℕ) (p : Poly) → T (of_degree d p) → nat_abs (eval_poly ρ p) ≤ weight p * L ^ d
  terms_are d nil t = zero-le
  terms_are d (term c m p) t = subst (λ (n : ℕ). nat_abs (c *ℤ eval_monomial ρ m +ℤ eval_poly ρ p) ≤ n) (sym (add-mul (nat_abs c) (weight p) (L ^ d)))
      (le_trans (magnitude_add (c *ℤ eval_monomial ρ m) (eval_poly ρ p)) (add-le-add one (terms_are d p (and_r (eqb (length m) d) (of_degree d p) t))))
    where
      degree : length m ≡ d
      degree = eqb→eq (length m) d (and_l (eqb (length m) d) (of_degree d p) t)

      one : nat_abs (c *ℤ eval_monomial ρ m) ≤ nat_abs c * L ^ d
      one = le_trans (le_of_eq (magnitude_mul c (eval_monomial ρ m))) (mul-le-mul_left (nat_abs c) (subst (λ (n : ℕ). nat_abs (eval_monomial ρ m) ≤ L ^ n) degree (monomial_is m)))

  pub terms_bound : (d : ℕ) (e : Expr) → T (of_degree d (normal e)) → nat_abs (eval ρ e) ≤ weight (normal e) * L ^ d
  terms_bound d e t = subst (λ (z : ℤ). nat_abs z ≤ weight (normal e) * L ^ d) (normal_is ρ e) (terms_are d (normal e) t)
