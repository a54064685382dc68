-- `volumes` meets its contract: the corners' volumes, and the edges' behind them. Assumes nothing.
use mathlib.Core.Path.{◌≡◌, refl, subst, ◌∙◌}
use Prim.Native.Nat.{ℕ, ◌+◌}
use native.Mathlib.Omega.{arith}
use lib.ListN.{set}
use mir.Val.{to_z, of_z}
use mir.Facts.{to_z-of_z}
use mir.Syntax.{w128}
use Rattle.foundation.specs.Filled.{Filled, none_filled, one_filled, all_filled}
use Rattle.audit_volumes.specs.Vectors.{volume_at, corner_nodes, edge_nodes, corner_volume_law, edge_volume_law, whole}
use Rattle.audit_volumes.proofs.volumes.Goals as goal

pub loop-k-init : goal.loop-k-init
loop-k-init c = none_filled (volume_at c.args.p.now) refl

pub at_corner-requires : goal.at_corner-requires
at_corner-requires c = record { range = c.requires; nodes = corner_nodes c.loop-k.k c.loop-k-test.true }

pub loop-k-preserved : goal.loop-k-preserved
loop-k-preserved c = let k = c.loop-k.k in
    one_filled (volume_at c.args.p.now) c.loop-k.invariant (omega (arith, c.loop-k-test.true)) (to_z-of_z {w = w128} (record { sfits = c.at_corner.type_inv }) ∙ c.at_corner.ensures ∙ corner_volume_law c.args.p.now k c.loop-k-test.true)

pub loop-k-2-init : goal.loop-k-2-init
loop-k-2-init c = let e : c.loop-k.k ≡ 8 + 0 = omega (arith, c.loop-k.auto.k-end, c.loop-k-test.false) in subst (λ (k : ℕ). Filled (volume_at c.args.p.now) 20 k c.loop-k.out) e c.loop-k.invariant

pub at_edge-requires : goal.at_edge-requires
at_edge-requires c = record { range = c.requires; nodes = edge_nodes c.loop-k-2.k c.loop-k-2-test.true }

pub loop-k-2-preserved : goal.loop-k-2-preserved
loop-k-2-preserved c = let k = c.loop-k-2.k in let e : 8 + k + 1 ≡ 8 + (k + 1) = omega arith in
    subst (λ (n : ℕ). Filled (volume_at c.args.p.now) 20 n (set c.loop-k-2.out (8 + k) (to_z w128 (of_z w128 c.at_edge.result)))) e
    (one_filled (volume_at c.args.p.now) c.loop-k-2.invariant (omega (arith, c.loop-k-2-test.true)) (to_z-of_z {w = w128} (record { sfits = c.at_edge.type_inv }) ∙ c.at_edge.ensures ∙ edge_volume_law c.args.p.now k c.loop-k-2-test.true))

pub returns : goal.returns
returns c = let xs = c.args.p.now in let e : 8 + c.loop-k-2.k ≡ 20 = omega (arith, c.loop-k-2.auto.k-end, c.loop-k-2-test.false) in
    all_filled (volume_at xs) (subst (λ (k : ℕ). Filled (volume_at xs) 20 k c.loop-k-2.out) e c.loop-k-2.invariant) ∙ whole xs
