-- An index that names no node. Assumes nothing.
use Rattle.std.specs.Prelude.{◌≡◌, List, ℕ, ◌<◌, get_or}
use Rattle.std.proofs.Math.Option.{none, some}
use Rattle.std.proofs.Common.{arith}
use borrow.Author.Tests.{leb-false}
use Rattle.std.proofs.Math.Dec.{leb}
use Rattle.definitions.specs.Mesh.{missing_index}
use Rattle.mesh_points.specs.Search.{first_below, first_none}

module _ (nodes : ℕ) (ix : List ℕ) where
  pub missing_below : (k : ℕ) → missing_index nodes ix ≡ some k → k < 8
  unfolding missing_index
  missing_below k e = first_below (λ k. leb nodes (get_or ix k 0)) 0 8 k e

  pub missing_none : missing_index nodes ix ≡ none → (k : ℕ) → k < 8 → get_or ix k 0 < nodes
  unfolding missing_index
  missing_none e k h = leb-false nodes (get_or ix k 0) (first_none (λ k. leb nodes (get_or ix k 0)) 0 8 e k (omega arith) h)
