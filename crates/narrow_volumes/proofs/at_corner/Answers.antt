-- Three edges, and their determinant.
use lib.Dec.{lit≤}
use Rattle.element_vectors.specs.Fitting.{alike}
use Rattle.element_vectors.specs.Vectors.{vector_within, edge_held}
use Rattle.narrow_volumes.specs.Range.{middle_limit}
use Rattle.narrow_volumes.proofs.at_corner.Goals as goal

pub determinant-requires : goal.determinant-requires
determinant-requires c = let h = c.requires.range in record {
  sort = alike;
  first = vector_within (edge_held h middle_limit (lit≤ tt) _ _ c.edge.ensures);
  second = vector_within (edge_held h middle_limit (lit≤ tt) _ _ c.edge-2.ensures);
  third = vector_within (edge_held h middle_limit (lit≤ tt) _ _ c.edge-3.ensures);
}
