-- An edge and two sums of edges, and the digits of their determinant.
use lib.Dec.{lit≤}
use Rattle.element_vectors.specs.Vectors.{vector_within, edge_held, middle_held}
use Rattle.wide_volumes.specs.Range.{edge_limit, middle_limit}
use Rattle.wide_volumes.proofs.at_edge.Goals as goal

pub determinant_digits-requires : goal.determinant_digits-requires
determinant_digits-requires c = let h = c.requires.range in record {
  first = vector_within (edge_held h edge_limit (lit≤ tt) _ _ c.edge.ensures);
  second = vector_within (middle_held h middle_limit (lit≤ tt) _ _ _ c.middle.ensures);
  third = vector_within (middle_held h middle_limit (lit≤ tt) _ _ _ c.middle-2.ensures);
}
