-- Magnitudes of volumes, computed from the range of coordinates.
use Rattle.std.specs.Prelude.{List, map, ℕ, ◌≤◌, ℤ, nat_abs}
use Rattle.std.proofs.Common.{le_trans, lit≤}
use Rattle.foundation.specs.Lists.{all_append, all_image, all_every}
use Rattle.foundation.specs.Polynomial.{integers, expressions}
use Rattle.foundation.specs.Words.{Within}
use Rattle.definitions.specs.Limits.{base}
use Rattle.definitions.specs.Jacobian.{nodes_of}
use Rattle.definitions.specs.Coefficients.{corner_volume, edge_volume, volumes, corner_tetrahedra, edge_tetrahedra}
use Rattle.element_vectors.specs.Range.{InRange}
use Rattle.element_vectors.specs.Sizes.{unknowns, bounded}
use Rattle.audit_volumes.specs.Limits.{volume_limit}

module _ {xs : List ℤ} (h : InRange base.range xs) where
  corner_small : (t : List ℕ) → nat_abs (corner_volume integers (nodes_of xs) t) ≤ volume_limit
  corner_small t = le_trans (bounded h (corner_volume expressions unknowns t)) (lit≤ tt)

  edge_volume_small : (t : List ℕ) → nat_abs (edge_volume integers (nodes_of xs) t) ≤ volume_limit
  edge_volume_small t = le_trans (bounded h (edge_volume expressions unknowns t)) (lit≤ tt)

  pub volumes_small : Within volume_limit (volumes integers (nodes_of xs))
  volumes_small = all_append Small corners edges
      (all_image Small (corner_volume integers (nodes_of xs)) corner_tetrahedra (all_every (λ t. Small (corner_volume integers (nodes_of xs) t)) corner_small corner_tetrahedra))
      (all_image Small (edge_volume integers (nodes_of xs)) edge_tetrahedra (all_every (λ t. Small (edge_volume integers (nodes_of xs) t)) edge_volume_small edge_tetrahedra))
    where
      Small : ℤ → Type 0
      Small v = nat_abs v ≤ volume_limit

      corners : List ℤ
      corners = map (corner_volume integers (nodes_of xs)) corner_tetrahedra

      edges : List ℤ
      edges = map (edge_volume integers (nodes_of xs)) edge_tetrahedra
