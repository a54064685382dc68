-- Vectors by their coordinates, and arrays that hold them.
use Rattle.std.specs.Prelude.{◌≡◌, List, [], ◌∷◌, ℕ, ◌*◌, ◌≤◌, ℤ, nat_abs}
use Rattle.std.proofs.Common.{sym, ◌∙◌, subst, le_trans}
use Rattle.foundation.specs.Polynomial.{integers}
use Rattle.foundation.specs.Words.{Within, args}
use Rattle.definitions.specs.Jacobian.{nodes_of, det}
use Rattle.definitions.specs.Coefficients.{edge, middle}
use Rattle.element_vectors.specs.Range.{InRange}
use Rattle.element_vectors.specs.Sizes.{edge_small, middle_small}

-- a vector's three coordinates
abbrev pub coordinates : (ℕ → ℤ) → List ℤ
coordinates u = u 0 ∷ u 1 ∷ u 2 ∷ []

-- the array v holds the vector u, whose coordinates are at most n
pub record HeldVector (n : ℕ) (v : List ℤ) (u : ℕ → ℤ) : Type 0 where
  pub is : v ≡ coordinates u
  pub short : Within n (coordinates u)

pub vector_within : {n : ℕ} {v : List ℤ} {u : ℕ → ℤ} → HeldVector n v u → Within n v
vector_within {n} h = subst (Within n) (sym h.is) h.short

-- the determinant of what the arrays hold, with f on the first vector's coordinates, is that of the vectors
pub det_read : (f : ℤ → ℤ) {k m n : ℕ} {u' v' w' : List ℤ} {u v w : ℕ → ℤ} → HeldVector k u' u → HeldVector m v' v → HeldVector n w' w
    → {d : ℤ} → d ≡ det integers (λ e. f (args u' e)) (args v') (args w') → d ≡ det integers (λ e. f (u e)) v w
det_read f p q r e = e ∙ λ i. det integers (λ k. f (args (p.is i) k)) (args (q.is i)) (args (r.is i))

-- an array of a vector's coordinates
pub vector_held : (n : ℕ) (u : ℕ → ℤ) → ((e : ℕ) → nat_abs (u e) ≤ n) → {v : List ℤ} → v ≡ coordinates u → HeldVector n v u
vector_held n u h e = record { is = e; short = (h 0, (h 1, (h 2, tt))) }

module _ {range : ℕ} {xs : List ℤ} (h : InRange range xs) (n : ℕ) {v : List ℤ} where
  pub edge_held : 2 * range ≤ n → (a b : ℕ) → v ≡ coordinates (edge integers (nodes_of xs) a b) → HeldVector n v (edge integers (nodes_of xs) a b)
  edge_held l a b = vector_held n (edge integers (nodes_of xs) a b) (λ e. le_trans (edge_small h a b e) l)

  pub middle_held : 4 * range ≤ n → (a b c : ℕ) → v ≡ coordinates (middle integers (nodes_of xs) a b c) → HeldVector n v (middle integers (nodes_of xs) a b c)
  middle_held l a b c = vector_held n (middle integers (nodes_of xs) a b c) (λ e. le_trans (middle_small h a b c e) l)
