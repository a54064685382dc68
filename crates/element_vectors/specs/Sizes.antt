-- Magnitudes of edges and of sums of two edges, from the range of coordinates, and of a determinant, from those of its vectors.
use Rattle.std.specs.Prelude.{List, [], ◌∷◌, ◌++◌, ℕ, ◌+◌, ◌*◌, ◌≤◌, ℤ, nat_abs}
use Rattle.std.proofs.Common.{le_trans, mul-add, arith}
use Rattle.foundation.specs.Polynomial.{Expr, var, integers, expressions, eval}
use Rattle.foundation.specs.Bound.{bound, bound_is}
use Rattle.foundation.specs.Words.{args, split, within_split}
use Rattle.definitions.specs.Jacobian.{Nodes, nodes_of, det}
use Rattle.definitions.specs.Coefficients.{edge, middle}
use Rattle.element_vectors.specs.Range.{InRange}

-- coordinates as unknowns
abbrev pub unknowns : Nodes Expr
unknowns k e = var (3 * k + e)

module _ {range : ℕ} {xs : List ℤ} (h : InRange range xs) where
  -- of any formula over the coordinates
  pub bounded : (f : Expr) → nat_abs (eval (args xs) f) ≤ bound (λ _. range) f
  bounded = bound_is (args xs) (λ _. range) h.small

  pub edge_small : (a b e : ℕ) → nat_abs (edge integers (nodes_of xs) a b e) ≤ 2 * range
  edge_small a b e = le_trans (bounded (edge expressions unknowns a b e)) twice
    where
      twice : range + range ≤ 2 * range
      twice = omega arith

  pub middle_small : (a b c e : ℕ) → nat_abs (middle integers (nodes_of xs) a b c e) ≤ 4 * range
  middle_small a b c e = le_trans (bounded (middle expressions unknowns a b c e)) four_times
    where
      four_times : range + range + (range + range) ≤ 4 * range
      four_times = omega arith

pub det_small : (b c : ℕ) (u v w : ℕ → ℤ) → ((e : ℕ) → nat_abs (u e) ≤ b) → ((e : ℕ) → nat_abs (v e) ≤ c) → ((e : ℕ) → nat_abs (w e) ≤ c) → nat_abs (det integers u v w) ≤ 6 * (b * (c * c))
det_small b c u v w h k l = le_trans (bound_is (args (first ++ others)) (split 3 b c)
    (within_split b c first others (h 0, (h 1, (h 2, tt))) (k 0, (k 1, (k 2, (l 0, (l 1, (l 2, tt)))))))
    (det expressions (λ e. var e) (λ e. var (3 + e)) (λ e. var (6 + e)))) six
  where
    first : List ℤ
    first = u 0 ∷ u 1 ∷ u 2 ∷ []

    others : List ℤ
    others = v 0 ∷ v 1 ∷ v 2 ∷ w 0 ∷ w 1 ∷ w 2 ∷ []

    six : b * (c * c + c * c) + b * (c * c + c * c) + b * (c * c + c * c) ≤ 6 * (b * (c * c))
    six = simp (mul-add) (omega arith)
