-- Document 01, "The determinant". Directions ξ, η, ζ and axes x, y, z are 0, 1, 2; corner k is the one that the documents number k + 1.
-- Formulas are written once over operations: at `integers` they are the definition, at `expressions` the computed tests use them.
use Rattle.std.specs.Prelude.{List, [], ◌∷◌, true, false, ℕ, zero, suc, ◌+◌, ◌*◌, ◌-◌, ◌^◌, eqb, get_or, ℤ, pos, negsuc, ◌*ℤ◌}
use Rattle.foundation.specs.Polynomial.{Arithmetic, integers}

-- "Corners 1 to 8 stand at (0,0,0), (1,0,0), (1,1,0), (0,1,0), (0,0,1), (1,0,1), (1,1,1), (0,1,1)."
abbrev pub sides : ℕ → List ℕ
sides zero = 0 ∷ 1 ∷ 1 ∷ 0 ∷ 0 ∷ 1 ∷ 1 ∷ 0 ∷ []
sides (suc zero) = 0 ∷ 0 ∷ 1 ∷ 1 ∷ 0 ∷ 0 ∷ 1 ∷ 1 ∷ []
sides (suc (suc d)) = 0 ∷ 0 ∷ 0 ∷ 0 ∷ 1 ∷ 1 ∷ 1 ∷ 1 ∷ []

-- the side, 0 or 1, of corner k in direction d
abbrev pub side : ℕ → ℕ → ℕ
side d k = get_or (sides d) k 0

-- Coordinates: node k's on axis e.
abbrev pub Nodes : Type 0 → Type 0
Nodes A = ℕ → ℕ → A

-- In each direction the numbers N − a and a that weigh its sides 0 and 1.
abbrev pub Weights : Type 0 → Type 0
Weights A = ℕ → ℕ → A

module _ {A : Type 0} (o : Arithmetic A) where
  infixl 6 ◌⊕◌
  infixl 6 ◌⊖◌
  infixl 7 ◌⊗◌
  open o use {plus as ◌⊕◌, minus as ◌⊖◌, times as ◌⊗◌, whole as number}

  abbrev pub det : (ℕ → A) → (ℕ → A) → (ℕ → A) → A
  det u v w = u 0 ⊗ (v 1 ⊗ w 2 ⊖ v 2 ⊗ w 1) ⊖ u 1 ⊗ (v 0 ⊗ w 2 ⊖ v 2 ⊗ w 0) ⊕ u 2 ⊗ (v 0 ⊗ w 1 ⊖ v 1 ⊗ w 0)

  -- "The mapping is trilinear in the eight nodes": N³ times it.
  abbrev pub trilinear : Nodes A → Weights A → ℕ → A
  trilinear x w e = term 0 ⊕ term 1 ⊕ term 2 ⊕ term 3 ⊕ term 4 ⊕ term 5 ⊕ term 6 ⊕ term 7
    where
      term : ℕ → A
      term k = w 0 (side 0 k) ⊗ w 1 (side 1 k) ⊗ w 2 (side 2 k) ⊗ x k e

  -- In direction d the weights 1 − t and t have the derivatives −1 and 1; the others stay.
  abbrev pub slope : ℕ → ℕ → A
  slope d zero = number (negsuc 0)
  slope d (suc s) = number (pos 1)

  abbrev pub along : ℕ → Weights A → Weights A
  along d w e s = elim (eqb d e) [ true ↦ slope d s | false ↦ w e s ]

  -- "J is the determinant of its three partial derivatives in the order ξ, η, ζ": N⁶ times it.
  abbrev pub J : Nodes A → Weights A → A
  J x w = det (trilinear x (along 0 w)) (trilinear x (along 1 w)) (trilinear x (along 2 w))

-- "A grid point of level m is (a, b, c)/2^m": its weights, with N for 2^m.
abbrev pub pair : ℕ → ℕ → ℕ → ℤ
pair N a zero = pos (N - a)
pair N a (suc s) = pos a

abbrev pub grid : ℕ → ℕ → ℕ → ℕ → Weights ℤ
grid N a b c zero = pair N a
grid N a b c (suc zero) = pair N b
grid N a b c (suc (suc d)) = pair N c

-- Eight points are a list of 24 coordinates, in place order, x, y, z of each.
abbrev pub nodes_of : List ℤ → Nodes ℤ
nodes_of xs k e = get_or xs (3 * k + e) (pos 0)

-- "there 64^m · J is a whole number, and that whole number is the definition"
unfoldable pub jacobian : List ℤ → ℕ → ℕ → ℕ → ℕ → ℤ
jacobian xs m a b c = J integers (nodes_of xs) (grid (2 ^ m) a b c)

-- J held as the coefficients of level m are: times 8 · 64^m
unfoldable pub scaled_jacobian : List ℤ → ℕ → ℕ → ℕ → ℕ → ℤ
scaled_jacobian xs m a b c = pos 8 *ℤ jacobian xs m a b c
