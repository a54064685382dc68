-- The element in N parts in each direction: from the weights of a point of a part to those of the same point of the whole, which add up to N times as much.
use Rattle.std.specs.Prelude.{◌≡◌, [], ◌∷◌, ℕ, zero, suc, ◌+◌, ◌*◌, ◌-◌, ◌<◌, ◌≤◌, T, get_or, ℤ, pos, ◌+ℤ◌, ◌-ℤ◌, ◌*ℤ◌}
use Rattle.std.proofs.Common.{sym, ◌∙◌, ap, ap₂, mul-suc, mul_comm, mul-le-mul_left, le_of_lt, arith}
use Rattle.foundation.specs.Polynomial.{Arithmetic, Expr, var, add, mul, neg, integers, expressions, eval, same, solve}
use Rattle.definitions.specs.Jacobian.{Nodes, Weights, pair, J}

module _ {A : Type 0} (o : Arithmetic A) where
  infixl 6 ◌⊕◌
  infixl 6 ◌⊖◌
  infixl 7 ◌⊗◌
  open o use {plus as ◌⊕◌, minus as ◌⊖◌, times as ◌⊗◌, whole as number}

  -- in one direction, for part a of 0 to N − 1: side 0 of the part weighs N − a and a, its side 1 weighs N − (a + 1) and a + 1
  abbrev pub part_row : ℕ → ℕ → (ℕ → A) → ℕ → A
  part_row N a u zero = number (pos (N - a)) ⊗ u 0 ⊕ number (pos (N - suc a)) ⊗ u 1
  part_row N a u (suc s) = number (pos a) ⊗ u 0 ⊕ number (pos (suc a)) ⊗ u 1

  -- the same, and the weights of a grid point, with differences of the ring
  abbrev ring_row : A → A → (ℕ → A) → ℕ → A
  ring_row N a u zero = (N ⊖ a) ⊗ u 0 ⊕ (N ⊖ (a ⊕ number (pos 1))) ⊗ u 1
  ring_row N a u (suc s) = a ⊗ u 0 ⊕ (a ⊕ number (pos 1)) ⊗ u 1

  abbrev ring_pair : A → A → ℕ → A
  ring_pair N a zero = N ⊖ a
  ring_pair N a (suc s) = a

-- in one direction, and for the part at (a, b, c)
abbrev pub view_row : ℕ → ℕ → (ℕ → ℤ) → ℕ → ℤ
view_row N a u s = part_row integers N a u s

abbrev pub view : ℕ → ℕ → ℕ → ℕ → Weights ℤ → Weights ℤ
view N a b c w zero = view_row N a (w 0)
view N a b c w (suc zero) = view_row N b (w 1)
view N a b c w (suc (suc d)) = view_row N c (w 2)

-- ---- weights in one direction, of sides 0 and 1, and in the three
abbrev pub two : {A : Type 0} → A → A → ℕ → A
two x y zero = x
two x y (suc s) = y

abbrev pub three : {A : Type 0} → A → A → A → ℕ → A
three x y z zero = x
three x y z (suc zero) = y
three x y z (suc (suc d)) = z

abbrev pub ends : (ℕ → ℤ) → ℕ → ℤ
ends u = two (u 0) (u 1)

pub J-cong : (x : Nodes ℤ) (v w : Weights ℤ) → ends (v 0) ≡ ends (w 0) → ends (v 1) ≡ ends (w 1) → ends (v 2) ≡ ends (w 2) → J integers x v ≡ J integers x w
J-cong x v w p q r = λ i. J integers x (three (p i) (q i) (r i))

solve_row : (ρ : ℕ → ℤ) (e f : ℕ → Expr) → T (same (e 0) (f 0)) → T (same (e 1) (f 1)) → ends (λ s. eval ρ (e s)) ≡ ends (λ s. eval ρ (f s))
solve_row ρ e f p q = ap₂ two (solve ρ (e 0) (f 0) p) (solve ρ (e 1) (f 1) q)

difference : (N a : ℕ) → a ≤ N → pos (N - a) ≡ pos N -ℤ pos a
difference N a h = let n = N - a in let e : a + n ≡ N = omega arith in
    solve (two (pos a) (pos n)) (var 1) (add (add (var 0) (var 1)) (neg (var 0))) tt ∙ ap (λ (t : ℕ). pos t -ℤ pos a) e

pair_ring : (N a : ℕ) → a ≤ N → ends (pair N a) ≡ ends (ring_pair integers (pos N) (pos a))
pair_ring N a h = ap (λ (x : ℤ). two x (pos a)) (difference N a h)

view_ring : (N a : ℕ) (u : ℕ → ℤ) → a < N → ends (view_row N a u) ≡ ends (ring_row integers (pos N) (pos a) u)
view_ring N a u h = let e : suc a ≡ a + 1 = omega arith in let next : pos (suc a) ≡ pos (a + 1) = ap pos e in
    ap₂ two (ap₂ (λ (x y : ℤ). x *ℤ u 0 +ℤ y *ℤ u 1) (difference N a (le_of_lt h)) (difference N (suc a) h ∙ ap (λ (x : ℤ). pos N -ℤ x) next))
    (ap (λ (x : ℤ). pos a *ℤ u 0 +ℤ x *ℤ u 1) next)

module _ (N M a b : ℕ) (ha : a < N) where
  -- what part a leaves below the end
  room : (n : ℕ) → n ≤ M → M * a + n ≤ N * M
  room n h = let p : M * suc a ≤ M * N = mul-le-mul_left M ha in omega (arith, mul-suc M a, mul_comm M N)

  -- N, a, M, b and the two weights as the variables 0 to 5
  abbrev known : (ℕ → ℤ) → ℕ → ℤ
  known u i = get_or (pos N ∷ pos a ∷ pos M ∷ pos b ∷ u 0 ∷ u 1 ∷ []) i (pos 0)

  abbrev within : (ℕ → ℤ) → ℕ → ℤ
  within u = ends (ring_row integers (pos N) (pos a) u)

  abbrev within_expr : (ℕ → Expr) → ℕ → Expr
  within_expr = ring_row expressions (var 0) (var 1)

  abbrev joint : (Expr → Expr → ℕ → Expr) → ℕ → Expr
  joint f = f (mul (var 0) (var 2)) (add (mul (var 2) (var 1)) (var 3))

  -- a part of a part is a part
  pub part_of_part : (u : ℕ → ℤ) → b < M → ends (view_row N a (view_row M b u)) ≡ ends (view_row (N * M) (M * a + b) u)
  part_of_part u hb = view_ring N a (view_row M b u) ha ∙ ap within (view_ring M b u hb)
      ∙ solve_row (known u) (within_expr (ring_row expressions (var 2) (var 3) (λ s. var (4 + s)))) (joint (λ n x. ring_row expressions n x (λ s. var (4 + s)))) tt tt
      ∙ sym (view_ring (N * M) (M * a + b) u (omega (arith, room (suc b) hb)))

  -- a point of a part is a point of the whole
  pub point_of_part : b ≤ M → ends (view_row N a (pair M b)) ≡ ends (pair (N * M) (M * a + b))
  point_of_part hb = view_ring N a (pair M b) ha ∙ ap within (pair_ring M b hb)
      ∙ solve_row (known (λ s. pos 0)) (within_expr (ring_pair expressions (var 2) (var 3))) (joint (ring_pair expressions)) tt tt
      ∙ sym (pair_ring (N * M) (M * a + b) (room b hb))

-- the whole is its only part
pub whole_row : (u : ℕ → ℤ) → ends u ≡ ends (view_row 1 0 u)
whole_row u = solve_row u var (part_row expressions 1 0 var) tt tt
