-- The Bézier expansion: J at every grid point is the sum of the 27 coefficients against the Bernstein products, and no other 27 numbers have those sums.
use Rattle.std.specs.Prelude.{◌≡◌, refl, List, ℕ, zero, suc, ◌<◌, ◌≤◌, ◌^◌, length, ℤ, pos, ◌-ℤ◌, ◌*ℤ◌}
use Rattle.std.proofs.Common.{sym, ◌∙◌, ap, ap₂, arith}
use Rattle.foundation.specs.Magnitude.{cancel}
use Rattle.foundation.specs.Polynomial.{Expr, var, con, add, mul, neg, integers, expressions, solve}
use Rattle.definitions.specs.Jacobian.{Weights, nodes_of, pair, grid, J, jacobian, scaled_jacobian}
use Rattle.definitions.specs.Coefficients.{numbered, at, coefficients}
use Rattle.expansion_theory.specs.Bernstein.{row_value, value}
use Rattle.expansion_theory.specs.Numbering.{numbered_cong, numbered_at}
use Rattle.expansion_theory.specs.Polar.{polar_value, coefficients_polar}

pub length_coefficients : (xs : List ℤ) → length (coefficients xs) ≡ 27
unfolding coefficients
length_coefficients xs = refl

-- for any weights, of grid points or not
pub whole_value : (xs : List ℤ) (w : Weights ℤ) → value integers (at (coefficients xs)) w ≡ pos 8 *ℤ J integers (nodes_of xs) w
unfolding numbered at
whole_value xs w = ap (λ (c : List ℤ). value integers (at c) w) (coefficients_polar xs) ∙ polar_value (nodes_of xs) w

pub expansion : (xs : List ℤ) (m a b c : ℕ) → scaled_jacobian xs m a b c ≡ value integers (at (coefficients xs)) (grid (2 ^ m) a b c)
unfolding scaled_jacobian jacobian
expansion xs m a b c = sym (whole_value xs (grid (2 ^ m) a b c))

-- ---- the only ones: a row of three is fixed by its sums at 0, 1/2 and 1
-- the sum at a/2, in whole numbers
abbrev at_halves : ℕ → (ℕ → ℤ) → ℤ
at_halves a f = row_value integers (λ d. pair 2 a) 0 f

abbrev halves_expr : ℕ → Expr
halves_expr a = row_value expressions (λ d s. con (pair 2 a s)) 0 var

start : (f : ℕ → ℤ) → pos 4 *ℤ f 0 ≡ at_halves 0 f
start f = solve f (mul (con (pos 4)) (var 0)) (halves_expr 0) tt

middle : (f : ℕ → ℤ) → pos 2 *ℤ f 1 ≡ at_halves 1 f -ℤ f 0 -ℤ f 2
middle f = solve f (mul (con (pos 2)) (var 1)) (add (add (halves_expr 1) (neg (var 0))) (neg (var 2))) tt

end : (f : ℕ → ℤ) → pos 4 *ℤ f 2 ≡ at_halves 2 f
end f = solve f (mul (con (pos 4)) (var 2)) (halves_expr 2) tt

module _ (f g : ℕ → ℤ) (h : (a : ℕ) → a < 3 → at_halves a f ≡ at_halves a g) where
  same_start : f 0 ≡ g 0
  same_start = cancel 3 (f 0) (g 0) (start f ∙ h 0 (omega arith) ∙ sym (start g))

  same_end : f 2 ≡ g 2
  same_end = cancel 3 (f 2) (g 2) (end f ∙ h 2 (omega arith) ∙ sym (end g))

  only_row : (i : ℕ) → i < 3 → f i ≡ g i
  only_row zero k = same_start
  only_row (suc zero) k = cancel 1 (f 1) (g 1) (middle f ∙ ap₂ ◌-ℤ◌ (ap₂ ◌-ℤ◌ (h 1 (omega arith)) same_start) same_end ∙ sym (middle g))
  only_row (suc (suc zero)) k = same_end
  only_row (suc (suc (suc i))) k = absurd (omega arith)

-- and so direction by direction
only_places : (f g : ℕ → ℕ → ℕ → ℤ) → ((a b c : ℕ) → a < 3 → b < 3 → c < 3 → value integers f (grid 2 a b c) ≡ value integers g (grid 2 a b c))
    → (i j k : ℕ) → i < 3 → j < 3 → k < 3 → f i j k ≡ g i j k
only_places f g h i j k hi hj hk =
    only_row (f i j) (g i j) (λ c hc.
    only_row (λ j. at_halves c (f i j)) (λ j. at_halves c (g i j)) (λ b hb.
    only_row (λ i. at_halves b (λ j. at_halves c (f i j))) (λ i. at_halves b (λ j. at_halves c (g i j))) (λ a ha. h a b c ha hb hc) i hi) j hj) k hk

pub only : (xs cs : List ℤ) → length cs ≡ 27 → ((m a b c : ℕ) → a ≤ 2 ^ m → b ≤ 2 ^ m → c ≤ 2 ^ m → scaled_jacobian xs m a b c ≡ value integers (at cs) (grid (2 ^ m) a b c)) → cs ≡ coefficients xs
only xs cs e h = sym (numbered_at cs e) ∙ numbered_cong (at cs) (at (coefficients xs)) (only_places (at cs) (at (coefficients xs)) agree) ∙ numbered_at (coefficients xs) (length_coefficients xs)
  where
    agree : (a b c : ℕ) → a < 3 → b < 3 → c < 3 → value integers (at cs) (grid 2 a b c) ≡ value integers (at (coefficients xs)) (grid 2 a b c)
    agree a b c ha hb hc = sym (h 1 a b c (omega arith) (omega arith) (omega arith)) ∙ expansion xs 1 a b c
