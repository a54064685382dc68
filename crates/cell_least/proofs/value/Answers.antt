-- `cell_least::value` meets its contract: the rows, one after the other. Assumes nothing.
use Rattle.std.specs.Prelude.{map}
use Rattle.std.proofs.Common.{ap, ◌∙◌, arith}
use Rattle.std.proofs.lemmas.List.{length-map}
use Rattle.foundation.specs.Least.{least_from}
use Rattle.expansion_theory.specs.Rows.{line_at}
use Rattle.search_theory.specs.Eighths.{least_rows}
use Rattle.cell_numbers.specs.Values.{value_read}
use Rattle.cell_least.proofs.value.Goals as goal

pub returns : goal.returns
returns g c =
    let value = g.N.Number.value in
    let vs = map value c.args.g.now in
    let first = value_read value c.args.g.now 0 c.index-g-0.result (omega (arith, c.told-g)) in
    let row1 = c.with_row-a.ensures ∙ ap (λ v. least_from v (line_at vs 0 8 1)) first in
    let row2 = c.with_row-b.ensures ∙ ap (λ v. least_from v (line_at vs 12 21 13)) row1 in
    let row3 = c.with_row-c.ensures ∙ ap (λ v. least_from v (line_at vs 4 16 5)) row2 in
    let row4 = c.with_row-d.ensures ∙ ap (λ v. least_from v (line_at vs 11 20 9)) row3 in
    let row5 = c.with_row-e.ensures ∙ ap (λ v. least_from v (line_at vs 24 26 22)) row4 in
    let row6 = c.with_row-f.ensures ∙ ap (λ v. least_from v (line_at vs 19 25 17)) row5 in
    let row7 = c.with_row-h.ensures ∙ ap (λ v. least_from v (line_at vs 3 10 2)) row6 in
    let row8 = c.with_row-i.ensures ∙ ap (λ v. least_from v (line_at vs 15 23 14)) row7 in
    let row9 = c.with_row.ensures ∙ ap (λ v. least_from v (line_at vs 7 18 6)) row8 in
    row9 ∙ least_rows vs (length-map c.args.g.now value ∙ c.told-g)
