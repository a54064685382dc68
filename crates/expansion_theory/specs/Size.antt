-- The size of the coefficients: with coordinates of at most L, those of level m are at most 384 L³ · 64^m, and by a closer count at most 192 L³ · 64^m.
use Rattle.std.specs.Prelude.{◌≡◌, Bool, ◌&&◌, List, ℕ, zero, suc, ◌*◌, ◌≤◌, ◌<◌, ◌^◌, T, leb, get_or, ℤ, pos, ◌+ℤ◌, ◌*ℤ◌}
use Rattle.std.proofs.Common.{sym, ◌∙◌, ap, zero-le, le_trans, add-le-add, mul-le-mul_left, mul-le-mul_right, add-mul, mul_comm, mul_assoc, mul-one, one-mul, pow-suc, arith, leb→le}
use Rattle.std.proofs.Math.Path.{subst}
use Rattle.std.proofs.Math.Nat.{pow-zero}
use Rattle.std.specs.Float.Ieee.Fits.{and_l, and_r}
use Rattle.std.proofs.Math.IntN.{nat_abs}
use Rattle.foundation.specs.Magnitude.{magnitude_add, magnitude_mul}
use Rattle.foundation.specs.Polynomial.{Arithmetic, Expr, var, con, add, mul, integers, expressions, normal, solve}
use Rattle.foundation.specs.Bound.{bound, bound_is, weight, of_degree, terms_bound}
use Rattle.foundation.specs.Lists.{All, all_map, all_concat, all_tabulate, all_below, below}
use Rattle.definitions.specs.Jacobian.{nodes_of}
use Rattle.definitions.specs.Coefficients.{at, numbered}
use Rattle.definitions.specs.Subdivision.{halve, Cell, child, children, whole, cells}
use Rattle.expansion_theory.specs.Numbering.{numbered_all, at_default}
use Rattle.expansion_theory.specs.Polar.{polar, node_var, coordinate, at_place, coefficients_polar}
use Rattle.expansion_theory.specs.Combination.{Combines, halve_keeps, child_keeps}
use Rattle.expansion_theory.specs.Cells.{eight}

-- ---- a cut
module _ (B : ℕ) where
  abbrev Within : ℕ → ℤ → Type 0
  Within n x = nat_abs x ≤ n * B

  combines : Combines Within
  combines = record {
    sums = λ {m} {n} {x} {y} p q. subst (λ (t : ℕ). nat_abs (x +ℤ y) ≤ t) (sym (add-mul m n B)) (le_trans (magnitude_add x y) (add-le-add p q));
    multiples = λ {n} {x} k p. subst (λ (t : ℕ). nat_abs (pos k *ℤ x) ≤ t) (sym (mul_assoc k n B)) (subst (λ (t : ℕ). t ≤ k * (n * B)) (sym (magnitude_mul (pos k) x)) (mul-le-mul_left k p));
  }

  -- past a list's end 0 is read
  everywhere : (c : List ℤ) → All (λ v. nat_abs v ≤ B) c → (i j k : ℕ) → Within 1 (at c i j k)
  everywhere c p = at_default (Within 1) c zero-le (all_map (λ v. nat_abs v ≤ B) (Within 1) (λ v q. omega arith) c p)

  pub halve_size : (d h : ℕ) (c : List ℤ) → All (λ v. nat_abs v ≤ B) c → All (λ v. nat_abs v ≤ 4 * B) (halve d h c)
  halve_size d h c p = halve_keeps Within combines 1 d h c (everywhere c p)

  pub child_size : (s : Cell) (k : ℕ) → All (λ v. nat_abs v ≤ B) s.control → All (λ v. nat_abs v ≤ 64 * B) (child s k).control
  child_size s k p = child_keeps Within combines s k (everywhere s.control p)

-- ---- the whole: eight determinants, each of six products of three edges' coordinates, each at most 2 L
-- with sums for differences: the bound of an expression as an expression in L
abbrev sizes : Arithmetic Expr
sizes = record { plus = add; minus = add; times = mul; whole = con }

cube : (L : ℕ) → L * L * L ≡ L ^ 3
cube L = sym (pow-suc L 2 ∙ ap (λ (t : ℕ). t * L) (pow-suc L 1 ∙ ap (λ (t : ℕ). t * L) (pow-suc L 0 ∙ ap (λ (t : ℕ). t * L) (pow-zero L) ∙ one-mul L)))

polar_bound : (L i j k : ℕ) → bound (λ n. L) (polar expressions node_var i j k) ≡ 384 * L ^ 3
polar_bound L i j k = ap nat_abs (solve (λ n. pos L) (polar sizes (λ n e. var 0) i j k) (mul (con (pos 384)) (mul (mul (var 0) (var 0)) (var 0))) tt) ∙ ap (λ (t : ℕ). 384 * t) (cube L)

abbrev Bounded : ℕ → List ℤ → Type 0
Bounded B c = All (λ v. nat_abs v ≤ B) c

level_bound : (B m : ℕ) → 64 * (B * 64 ^ m) ≡ B * 64 ^ suc m
level_bound B m = mul_comm 64 (B * 64 ^ m) ∙ mul_assoc B (64 ^ m) 64 ∙ ap (λ (t : ℕ). B * t) (sym (pow-suc 64 m))

-- from a bound at level 0
module _ (xs : List ℤ) (B : ℕ) (h : All (λ v. nat_abs v ≤ B) (whole xs).control) where
  abbrev BoundedAt : ℕ → Cell → Type 0
  BoundedAt m s = Bounded (B * 64 ^ m) s.control

  pub cells_size : (m : ℕ) → All (λ s. All (λ v. nat_abs v ≤ B * 64 ^ m) s.control) (cells xs m)
  cells_size zero = (subst (λ (n : ℕ). Bounded n (whole xs).control) (sym (mul-one B)) h, tt)
  cells_size (suc m) = all_concat (BoundedAt (suc m)) children (cells xs m)
      (all_map (BoundedAt m) (λ s. All (BoundedAt (suc m)) (children s))
      (λ s p. eight (BoundedAt (suc m)) s (λ k _. subst (λ (n : ℕ). Bounded n (child s k).control) (level_bound B m) (child_size (B * 64 ^ m) s k p)))
      (cells xs m) (cells_size m))

module _ (xs : List ℤ) (L : ℕ) (h : (i : ℕ) → nat_abs (get_or xs i (pos 0)) ≤ L) where
  abbrev most : ℕ
  most = 384 * L ^ 3

  pub whole_size : All (λ v. nat_abs v ≤ 384 * L ^ 3) (whole xs).control
  unfolding whole
  whole_size = subst (Bounded most) (sym (coefficients_polar xs)) (numbered_all (λ v. nat_abs v ≤ most) (polar integers (nodes_of xs))
      (λ i j k. subst (λ (n : ℕ). nat_abs (polar integers (nodes_of xs) i j k) ≤ n) (polar_bound L i j k) (bound_is (coordinate xs) (λ n. L) h (polar expressions node_var i j k))))

  pub coefficient_size : (m : ℕ) → All (λ s. All (λ v. nat_abs v ≤ 384 * L ^ 3 * 64 ^ m) s.control) (cells xs m)
  coefficient_size = cells_size xs most whole_size

-- ---- finer: multiplied out, half of the terms cancel, and no coefficient has more than 192 left
abbrev light : ℕ → Bool
light n = let p = normal (at_place (polar expressions node_var) n) in of_degree 3 p && leb (weight p) 192

all_light : T (all_below 27 light)
all_light = tt

module _ (xs : List ℤ) (L : ℕ) (h : (i : ℕ) → nat_abs (get_or xs i (pos 0)) ≤ L) where
  place_finer : (n : ℕ) → n < 27 → nat_abs (at_place (polar integers (nodes_of xs)) n) ≤ 192 * L ^ 3
  place_finer n l = let p = normal (at_place (polar expressions node_var) n) in let t = below light 27 all_light n l in
      le_trans (terms_bound (coordinate xs) L h 3 (at_place (polar expressions node_var) n) (and_l (of_degree 3 p) (leb (weight p) 192) t)) (mul-le-mul_right (L ^ 3) (leb→le (weight p) 192 (and_r (of_degree 3 p) (leb (weight p) 192) t)))

  whole_finer : All (λ v. nat_abs v ≤ 192 * L ^ 3) (whole xs).control
  unfolding whole numbered
  whole_finer = subst (All (λ v. nat_abs v ≤ 192 * L ^ 3)) (sym (coefficients_polar xs)) (all_tabulate (λ v. nat_abs v ≤ 192 * L ^ 3) (at_place (polar integers (nodes_of xs))) 0 27 (λ n _ l. place_finer n (omega (arith, l))))

  pub coefficient_finer : (m : ℕ) → All (λ s. All (λ v. nat_abs v ≤ 192 * L ^ 3 * 64 ^ m) s.control) (cells xs m)
  coefficient_finer = cells_size xs (192 * L ^ 3) whole_finer
