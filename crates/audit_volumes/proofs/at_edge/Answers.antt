-- `at_edge` meets its contract: the determinant of an edge and two sums of edges. Assumes nothing.
use mathlib.Core.Path.{◌∙◌}
use Prim.Native.Nat.{ℕ}
use native.Mathlib.Omega.{arith}
use lib.ListN.{get_or}
use mir.Facts.{to_z-of_z}
use mir.Syntax.{w128}
use Rattle.foundation.specs.Polynomial.{integers}
use Rattle.foundation.specs.Words.{args}
use Rattle.definitions.specs.Jacobian.{nodes_of, det}
use Rattle.definitions.specs.Coefficients.{edge, middle}
use Rattle.element_vectors.specs.Sizes.{edge_small, middle_small}
use Rattle.audit_volumes.specs.Limits.{edge_limit, middle_limit}
use Rattle.audit_volumes.specs.Vectors.{within_all}
use Rattle.audit_volumes.proofs.at_edge.Goals as goal

pub edge-requires : goal.edge-requires
edge-requires c = (c.requires.nodes 0 (omega arith), c.requires.nodes 1 (omega arith))

pub middle-requires : goal.middle-requires
middle-requires c = (c.requires.nodes 0 (omega arith), c.requires.nodes 2 (omega arith), c.requires.nodes 3 (omega arith))

pub middle-requires-2 : goal.middle-requires-2
middle-requires-2 c = (c.requires.nodes 0 (omega arith), c.requires.nodes 4 (omega arith), c.requires.nodes 5 (omega arith))

pub determinant-requires : goal.determinant-requires
determinant-requires c = let r = c.requires.range in let x = nodes_of c.args.p.now in let n : ℕ → ℕ = λ i. get_or c.args.t i 0 in record {
  first = within_all edge_limit (edge integers x (n 0) (n 1)) c.edge.ensures (edge_small r (n 0) (n 1));
  second = within_all middle_limit (middle integers x (n 0) (n 2) (n 3)) c.middle.ensures (middle_small r (n 0) (n 2) (n 3));
  third = within_all middle_limit (middle integers x (n 0) (n 4) (n 5)) c.middle-2.ensures (middle_small r (n 0) (n 4) (n 5));
}

pub returns : goal.returns
returns c = to_z-of_z {w = w128} (record { sfits = c.determinant.type_inv }) ∙ c.determinant.ensures ∙ (λ i. det integers (args (c.edge.ensures i)) (args (c.middle.ensures i)) (args (c.middle-2.ensures i)))
