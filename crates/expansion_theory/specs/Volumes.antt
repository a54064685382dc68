-- The twenty volumes are J at the corners and four times J at the middles of the edges.
use Rattle.std.specs.Prelude.{◌≡◌, Bool, List, [], ℕ, ◌+◌, ◌<◌, T, get_or, ℤ, pos, ◌*ℤ◌}
use Rattle.std.proofs.Common.{sym, ◌∙◌, ap}
use Rattle.std.proofs.Math.ListN.{get_or-map}
use Rattle.foundation.specs.Ring.{one_mul}
use Rattle.foundation.specs.Polynomial.{Expr, con, mul, integers, expressions, eval, same, solve}
use Rattle.foundation.specs.Lists.{below}
use Rattle.definitions.specs.Jacobian.{side, nodes_of, grid, J, jacobian}
use Rattle.definitions.specs.Coefficients.{edge_numbers, place, volumes}
use Rattle.expansion_theory.specs.Polar.{node_var, coordinate}

-- volume n so many times, and J at a grid point, as expressions in the coordinates
abbrev volume : ℤ → ℕ → Expr
volume scale n = mul (con scale) (get_or (volumes expressions node_var) n (con (pos 0)))

abbrev at_grid : ℕ → ℕ → ℕ → ℕ → Expr
at_grid N a b c = J expressions node_var (λ d s. con (grid N a b c d s))

volume_is : (xs : List ℤ) (scale : ℤ) (n N a b c : ℕ) → T (same (volume scale n) (at_grid N a b c)) → scale *ℤ get_or (volumes integers (nodes_of xs)) n (pos 0) ≡ J integers (nodes_of xs) (grid N a b c)
volume_is xs scale n N a b c t = ap (λ (v : ℤ). scale *ℤ v) (get_or-map (eval (coordinate xs)) (volumes expressions node_var) n (con (pos 0)))
    ∙ solve (coordinate xs) (volume scale n) (at_grid N a b c) t

abbrev corner_agrees : ℕ → Bool
corner_agrees k = same (volume (pos 1) k) (at_grid 1 (side 0 k) (side 1 k) (side 2 k))

pub corner_volume_law : (xs : List ℤ) (k : ℕ) → k < 8 → get_or (volumes integers (nodes_of xs)) k (pos 0) ≡ jacobian xs 0 (side 0 k) (side 1 k) (side 2 k)
unfolding jacobian
corner_volume_law xs k h = sym (one_mul (get_or (volumes integers (nodes_of xs)) k (pos 0))) ∙ volume_is xs (pos 1) k 1 (side 0 k) (side 1 k) (side 2 k) (below corner_agrees 8 tt k h)

-- the middle of edge k is a grid point of level 1, where 64 J is 16 times four times J
abbrev edge_agrees : ℕ → Bool
edge_agrees k = let ends = get_or edge_numbers k [] in same (volume (pos 16) (8 + k)) (at_grid 2 (place 0 ends) (place 1 ends) (place 2 ends))

pub edge_volume_law : (xs : List ℤ) (k : ℕ) → k < 12
    → pos 16 *ℤ get_or (volumes integers (nodes_of xs)) (8 + k) (pos 0) ≡ jacobian xs 1 (place 0 (get_or edge_numbers k [])) (place 1 (get_or edge_numbers k [])) (place 2 (get_or edge_numbers k []))
unfolding jacobian
edge_volume_law xs k h = let ends = get_or edge_numbers k [] in volume_is xs (pos 16) (8 + k) 2 (place 0 ends) (place 1 ends) (place 2 ends) (below edge_agrees 12 tt k h)
