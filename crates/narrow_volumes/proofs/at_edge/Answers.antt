-- An edge and two sums of edges, and their determinant.
use lib.Dec.{lit≤}
use Rattle.element_vectors.specs.Fitting.{alike}
use Rattle.element_vectors.specs.Vectors.{vector_within, edge_held, middle_held}
use Rattle.narrow_volumes.specs.Range.{middle_limit}
use Rattle.narrow_volumes.proofs.at_edge.Goals as goal

pub determinant-requires : goal.determinant-requires
determinant-requires c = let h = c.requires.range in record {
  sort = alike;
  first = vector_within (edge_held h middle_limit (lit≤ tt) _ _ c.edge.ensures);
  second = vector_within (middle_held h middle_limit (lit≤ tt) _ _ _ c.middle.ensures);
  third = vector_within (middle_held h middle_limit (lit≤ tt) _ _ _ c.middle-2.ensures);
}
