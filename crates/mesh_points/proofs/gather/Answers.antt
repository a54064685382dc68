-- `gather` meets its contract. The loop's invariant: the numbers of the first places are those of the points. Assumes nothing.
use mathlib.Core.Path.{◌≡◌, sym, ◌∙◌, ap}
use Prim.Native.Nat.{ℕ, ◌+◌, ◌*◌, ◌<◌}
use native.Mathlib.Omega.{arith}
use borrow.Author.Rules.{rules}
use lib.ListN.{length-set, get_or}
use lib.Seq.{ext_get_or}
use lib.IntN.{pos}
use mir.Syntax.{w32}
use mir.ValLaws.{to_z-of_z}
use Rattle.definitions.specs.Mesh.{points_of}
use Rattle.mesh_points.specs.Points.{length_points, axis_at}
use Rattle.mesh_points.proofs.Laws.{fill_three}
use Rattle.mesh_points.proofs.gather.Goals as goal

pub loop-place-preserved : goal.loop-place-preserved
loop-place-preserved c =
    let at = c.loop-place in
    let k = at.place in
    let coordinates = c.args.coordinates.now in
    let ix = c.args.ix.now in
    let node = 3 * get_or ix k 0 in
    let here : k < 8 = omega arith in
    let first : node + 0 ≡ node = omega arith in
    let start : 3 * k + 0 ≡ 3 * k = omega arith in
    let x = to_z-of_z w32 (get_or coordinates node (pos 0)) (record { sfits = search rules }) ∙ ap (λ (n : ℕ). get_or coordinates n (pos 0)) (sym first) ∙ sym (axis_at coordinates ix k 0 here (omega arith)) ∙ ap (λ (n : ℕ). get_or (points_of coordinates ix) n (pos 0)) start in
    let y = to_z-of_z w32 (get_or coordinates (node + 1) (pos 0)) (record { sfits = search rules }) ∙ sym (axis_at coordinates ix k 1 here (omega arith)) in
    let z = to_z-of_z w32 (get_or coordinates (node + 2) (pos 0)) (record { sfits = search rules }) ∙ sym (axis_at coordinates ix k 2 here (omega arith)) in
    let below = fill_three at.p (points_of coordinates ix) (3 * k) _ _ _ (omega (arith, at.invariant.0)) at.invariant.1 x y z in
    (simp length-set at.invariant.0, λ j h. below j (omega arith))

pub returns : goal.returns
returns c =
    let at = c.loop-place in
    ext_get_or (pos 0) at.p (points_of c.args.coordinates.now c.args.ix.now)
    (at.invariant.0 ∙ sym (length_points c.args.coordinates.now c.args.ix.now))
    (λ j h. at.invariant.1 j (omega arith))
