-- `cell_bounds::with_corners` meets its contract: before each turn the least is that of v and the corners passed. Assumes nothing.
use Rattle.std.proofs.Common.{◌≡◌, sym, ◌∙◌, ap₂, map, take, length, ◌<◌, arith}
use Rattle.std.proofs.lemmas.List.{length-map}
use Rattle.foundation.specs.Least.{lesser, least_from}
use Rattle.search_theory.specs.Bounds.{least_next}
use Rattle.cell_numbers.specs.Values.{value_read}
use Rattle.cell_bounds.proofs.with_corners.Goals as goal

pub loop-k-preserved : goal.loop-k-preserved
loop-k-preserved g c =
    let value = g.N.Number.value in
    let xs = c.args.g.now in
    let k = c.loop-k.k in
    let here : k < length (map value xs) = omega (arith, c.told-g, length-map xs value) in (
      omega arith,
      c.lesser-least.ensures ∙ ap₂ lesser c.loop-k.invariant.1 (value_read value xs k c.index-g-k.result (omega (arith, c.told-g))) ∙ sym (least_next (value c.args.v) (map value xs) k here),
    )

pub returns : goal.returns
returns g c =
    let value = g.N.Number.value in
    let e : c.loop-k.k ≡ 8 = omega arith in
    c.loop-k.invariant.1 ∙ (λ i. least_from (value c.args.v) (take (e i) (map value c.args.g.now)))
