-- `at_corner` meets its contract: the determinant of three edges. Assumes nothing.
use mathlib.Core.Path.{◌∙◌}
use Prim.Native.Nat.{ℕ}
use native.Mathlib.Nat.{le_trans}
use native.Mathlib.Omega.{arith}
use lib.Dec.{lit≤}
use lib.ListN.{get_or}
use mir.Facts.{to_z-of_z}
use mir.Syntax.{w128}
use Rattle.foundation.specs.Polynomial.{integers}
use Rattle.foundation.specs.Words.{args}
use Rattle.definitions.specs.Jacobian.{nodes_of, det}
use Rattle.definitions.specs.Coefficients.{edge}
use Rattle.element_vectors.specs.Sizes.{edge_small}
use Rattle.audit_volumes.specs.Limits.{edge_limit, middle_limit}
use Rattle.audit_volumes.specs.Vectors.{within_all}
use Rattle.audit_volumes.proofs.at_corner.Goals as goal

pub edge-requires : goal.edge-requires
edge-requires c = (c.requires.nodes 0 (omega arith), c.requires.nodes 1 (omega arith))

pub edge-requires-2 : goal.edge-requires-2
edge-requires-2 c = (c.requires.nodes 0 (omega arith), c.requires.nodes 2 (omega arith))

pub edge-requires-3 : goal.edge-requires-3
edge-requires-3 c = (c.requires.nodes 0 (omega arith), c.requires.nodes 3 (omega arith))

pub determinant-requires : goal.determinant-requires
determinant-requires c = let r = c.requires.range in let toward = edge integers (nodes_of c.args.p.now) in let n : ℕ → ℕ = λ i. get_or c.args.t i 0 in record {
  first = within_all edge_limit (toward (n 0) (n 1)) c.edge.ensures (edge_small r (n 0) (n 1));
  second = within_all middle_limit (toward (n 0) (n 2)) c.edge-2.ensures (λ e. le_trans (edge_small r (n 0) (n 2) e) (lit≤ tt));
  third = within_all middle_limit (toward (n 0) (n 3)) c.edge-3.ensures (λ e. le_trans (edge_small r (n 0) (n 3) e) (lit≤ tt));
}

pub returns : goal.returns
returns c = to_z-of_z {w = w128} (record { sfits = c.determinant.type_inv }) ∙ c.determinant.ensures ∙ (λ i. det integers (args (c.edge.ensures i)) (args (c.edge-2.ensures i)) (args (c.edge-3.ensures i)))
