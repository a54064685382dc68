-- The polar form of J: each direction enters two of the three partial derivatives, and is given a value of its own in each.
-- It is what the coefficients are, both by the Bernstein products and by the table.
use Rattle.std.specs.Prelude.{◌≡◌, refl, Bool, List, [], ◌∷◌, map, ℕ, zero, suc, ◌+◌, ◌*◌, ◌-◌, ◌/◌, ◌%◌, T, get_or, ℤ, pos, ◌+ℤ◌, ◌*ℤ◌}
use Rattle.std.proofs.Common.{sym, ◌∙◌, ap}
use Rattle.foundation.specs.Polynomial.{Arithmetic, Expr, var, con, mul, integers, expressions, eval, same, solve}
use Rattle.foundation.specs.Lists.{tabulate_cong, all_below, below}
use Rattle.definitions.specs.Jacobian.{Nodes, Weights, nodes_of, det, J}
use Rattle.definitions.specs.Coefficients.{numbering, place, numbered, volumes, row, dot, coefficients}
use Rattle.expansion_theory.specs.Bernstein.{value, weight_var, weighted}

-- the corner with sides i, j, k
abbrev corner : ℕ → ℕ → ℕ → ℕ
corner i zero k = 4 * k + i
corner i (suc j) k = 4 * k + (3 - i)

-- the two values of a direction, s 0 and 1: both 0 at place 0, then 0 and 1, then both 1
abbrev argument : ℕ → ℕ → ℕ
argument zero s = 0
argument (suc zero) s = s
argument (suc (suc i)) s = 1

module _ {A : Type 0} (o : Arithmetic A) (x : Nodes A) where
  infixl 6 ◌⊕◌
  infixl 6 ◌⊖◌
  open o use {plus as ◌⊕◌, minus as ◌⊖◌}

  -- the edges, by direction and the sides in the two other directions
  abbrev edge : ℕ → ℕ → ℕ → ℕ → A
  edge zero q r e = x (corner 1 q r) e ⊖ x (corner 0 q r) e
  edge (suc zero) p r e = x (corner p 1 r) e ⊖ x (corner p 0 r) e
  edge (suc (suc d)) p q e = x (corner p q 1) e ⊖ x (corner p q 0) e

  abbrev both : (ℕ → A) → A
  both f = f 0 ⊕ f 1

  -- the coefficient at place (i, j, k), times 8: the two values of each direction are shared out in the two possible ways
  abbrev pub polar : ℕ → ℕ → ℕ → A
  polar i j k = both (λ r. both (λ s. both (λ t.
      det o (edge 0 (argument j s) (argument k t)) (edge 1 (argument i r) (argument k (1 - t))) (edge 2 (argument i (1 - r)) (argument j (1 - s))))))

-- ---- over expressions in the coordinates, in place order
abbrev pub node_var : Nodes Expr
node_var k e = var (3 * k + e)

abbrev pub coordinate : List ℤ → ℕ → ℤ
coordinate xs i = get_or xs i (pos 0)

-- against the Bernstein products the polar form is 8 J
pub polar_value : (x : Nodes ℤ) (w : Weights ℤ) → value integers (polar integers x) w ≡ pos 8 *ℤ J integers x w
polar_value x w = solve (weighted (λ n. x (n / 3) (n % 3)) w) (value expressions (polar expressions node_var) weight_var) (mul (con (pos 8)) (J expressions node_var weight_var)) tt

-- ---- the table makes the polar form from the twenty volumes
eval_dot : (ρ : ℕ → ℤ) (cs : List ℤ) (es : List Expr) → eval ρ (dot expressions cs es) ≡ dot integers cs (map (eval ρ) es)
eval_dot ρ [] es = refl
eval_dot ρ (c ∷ cs) [] = refl
eval_dot ρ (c ∷ cs) (e ∷ es) = ap (λ (t : ℤ). c *ℤ eval ρ e +ℤ t) (eval_dot ρ cs es)

-- row n against the volumes, and the polar form at coefficient n's place: one test for all 27
abbrev from_table : ℕ → Expr
from_table n = dot expressions (row n) (volumes expressions node_var)

abbrev pub at_place : {A : Type 0} → (ℕ → ℕ → ℕ → A) → ℕ → A
at_place f n = let corners = get_or numbering n [] in f (place 0 corners) (place 1 corners) (place 2 corners)

abbrev row_agrees : ℕ → Bool
row_agrees n = same (from_table n) (at_place (polar expressions node_var) n)

rows_agree : T (all_below 27 row_agrees)
rows_agree = tt

pub coefficients_polar : (xs : List ℤ) → coefficients xs ≡ numbered (polar integers (nodes_of xs))
unfolding coefficients numbered
coefficients_polar xs = tabulate_cong (λ n. dot integers (row n) (volumes integers (nodes_of xs))) (at_place (polar integers (nodes_of xs))) 0 27
    (λ n h. sym (eval_dot (coordinate xs) (row n) (volumes expressions node_var))
    ∙ solve (coordinate xs) (from_table n) (at_place (polar expressions node_var) n) (below row_agrees 27 rows_agree n h))
