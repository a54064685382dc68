-- Sums against the products of the Bernstein functions of degree 2. With N − a and a for 1 − t and t, each function is N² times its value.
use Rattle.std.specs.Prelude.{◌≡◌, true, false, ℕ, zero, suc, ◌+◌, ◌*◌, ◌-◌, ◌/◌, ◌%◌, ltb, ℤ, pos, ◌*ℤ◌}
use Rattle.foundation.specs.Polynomial.{Arithmetic, Expr, var, con, mul, integers, expressions, solve}
use Rattle.definitions.specs.Jacobian.{Weights}

module _ {A : Type 0} (o : Arithmetic A) where
  infixl 6 ◌⊕◌
  infixl 7 ◌⊗◌
  open o use {plus as ◌⊕◌, times as ◌⊗◌, whole as number}

  -- function i in direction d: (1 − t)², 2 (1 − t) t, t²
  abbrev pub bernstein : Weights A → ℕ → ℕ → A
  bernstein w d zero = w d 0 ⊗ w d 0
  bernstein w d (suc zero) = number (pos 2) ⊗ (w d 0 ⊗ w d 1)
  bernstein w d (suc (suc i)) = w d 1 ⊗ w d 1

  -- a row of three against the functions of direction d
  abbrev pub row_value : Weights A → ℕ → (ℕ → A) → A
  row_value w d f = bernstein w d 0 ⊗ f 0 ⊕ (bernstein w d 1 ⊗ f 1 ⊕ bernstein w d 2 ⊗ f 2)

  -- the 27 numbers c i j k against the products, direction by direction
  abbrev pub value : (ℕ → ℕ → ℕ → A) → Weights A → A
  value c w = row_value w 0 (λ i. row_value w 1 (λ j. row_value w 2 (λ k. c i j k)))

-- ---- over expressions: at most 27 variables, here the numbers by place, and then the weights
abbrev pub place_var : ℕ → ℕ → ℕ → Expr
place_var i j k = var (9 * i + 3 * j + k)

abbrev pub by_place : (ℕ → ℕ → ℕ → ℤ) → ℕ → ℤ
by_place c p = c (p / 9) (p / 3 % 3) (p % 3)

abbrev pub weight_var : Weights Expr
weight_var d s = var (27 + (2 * d + s))

abbrev pub weighted : (ℕ → ℤ) → Weights ℤ → ℕ → ℤ
weighted ρ w n = elim (ltb n 27) [ true ↦ ρ n | false ↦ w ((n - 27) / 2) ((n - 27) % 2) ]

-- the sum has degree 6 in the weights
pub value_twice : (c : ℕ → ℕ → ℕ → ℤ) (w : Weights ℤ) → value integers c (λ d s. pos 2 *ℤ w d s) ≡ pos 64 *ℤ value integers c w
value_twice c w = solve (weighted (by_place c) w) (value expressions place_var (λ d s. mul (con (pos 2)) (weight_var d s))) (mul (con (pos 64)) (value expressions place_var weight_var)) tt
