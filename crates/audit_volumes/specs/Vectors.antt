-- Vectors as lists of their coordinates, the nodes of a tetrahedron, and the volume at each place.
use Rattle.std.specs.Prelude.{◌≡◌, refl, List, [], ◌∷◌, map, Bool, ◌&&◌, ℕ, ◌+◌, ◌<◌, ◌≤◌, T, leb, get_or, ℤ, pos, nat_abs}
use Rattle.std.proofs.Common.{sym, ◌∙◌, subst}
use Rattle.std.proofs.Math.Facts.{leb_yes}
use Rattle.std.proofs.Math.ListN.{get_or-append}
use Rattle.std.proofs.Math.Seq.{get_or-append-add}
use Rattle.std.specs.Float.Ieee.Fits.{and_l, and_r}
use Rattle.foundation.specs.Lists.{all_below, below, tabulate, get_d_image}
use Rattle.foundation.specs.Polynomial.{integers}
use Rattle.foundation.specs.Words.{args, Within}
use Rattle.definitions.specs.Jacobian.{Nodes as NodesOf, nodes_of}
use Rattle.definitions.specs.Coefficients.{corner_volume, edge_volume, volumes, corner_tetrahedra, edge_tetrahedra}
use Rattle.element_vectors.specs.Range.{Node}
use Rattle.element_vectors.specs.Vectors.{coordinates}

-- ---- vectors
pub within_all : (n : ℕ) (u : ℕ → ℤ) {v : List ℤ} → v ≡ coordinates u → ((e : ℕ) → nat_abs (u e) ≤ n) → Within n v
within_all n u e h = subst (Within n) (sym e) (h 0, (h 1, (h 2, tt)))

-- ---- tetrahedra: the first n numbers are nodes'
abbrev pub Nodes : ℕ → List ℕ → Type 0
Nodes n t = (k : ℕ) → k < n → Node (get_or t k 0)

abbrev is_node : ℕ → Bool
is_node a = leb 1 a && leb a 8

abbrev are_nodes : ℕ → List ℕ → Bool
are_nodes n t = all_below n (λ k. is_node (get_or t k 0))

nodes_tested : (n : ℕ) (t : List ℕ) → T (are_nodes n t) → Nodes n t
nodes_tested n t h k l = let a = get_or t k 0 in let p = below (λ k. is_node (get_or t k 0)) n h k l in (leb_yes (and_l (leb 1 a) (leb a 8) p), leb_yes (and_r (leb 1 a) (leb a 8) p))

pub corner_nodes : (k : ℕ) → k < 8 → Nodes 4 (get_or corner_tetrahedra k [])
corner_nodes k h = nodes_tested 4 (get_or corner_tetrahedra k []) (below (λ k. are_nodes 4 (get_or corner_tetrahedra k [])) 8 tt k h)

pub edge_nodes : (k : ℕ) → k < 12 → Nodes 6 (get_or edge_tetrahedra k [])
edge_nodes k h = nodes_tested 6 (get_or edge_tetrahedra k []) (below (λ k. are_nodes 6 (get_or edge_tetrahedra k [])) 12 tt k h)

-- ---- volume k of the points, counted from 0
unfoldable pub volume_at : List ℤ → ℕ → ℤ
volume_at xs k = args (volumes integers (nodes_of xs)) k

module _ (xs : List ℤ) where
  abbrev x : NodesOf ℤ
  x = nodes_of xs

  abbrev corners : List ℤ
  corners = map (corner_volume integers x) corner_tetrahedra

  abbrev edges : List ℤ
  edges = map (edge_volume integers x) edge_tetrahedra

  pub corner_volume_law : (k : ℕ) → k < 8 → corner_volume integers x (get_or corner_tetrahedra k []) ≡ volume_at xs k
  unfolding volume_at
  corner_volume_law k h = sym (get_or-append corners edges (pos 0) k h ∙ get_d_image (corner_volume integers x) corner_tetrahedra k [] (pos 0) h)

  pub edge_volume_law : (k : ℕ) → k < 12 → edge_volume integers x (get_or edge_tetrahedra k []) ≡ volume_at xs (8 + k)
  unfolding volume_at
  edge_volume_law k h = sym (get_or-append-add corners edges k (pos 0) ∙ get_d_image (edge_volume integers x) edge_tetrahedra k [] (pos 0) h)

  -- all twenty
  pub whole : tabulate (volume_at xs) 0 20 ≡ volumes integers x
  unfolding volume_at
  whole = refl
