-- The sum of a row's entries, from the first to the last.
use native.Mathlib.Omega.{arith}
use Rattle.std.proofs.Math.ListN.{drop_of_length-le}
use Rattle.coefficient_rows.proofs.Sums.{column_inside, product_fits, sum_fits, sum_next, row_summed}
use Rattle.coefficient_rows.proofs.row.Goals as goal

pub offset_bounds-v-column : goal.offset_bounds-v-column
offset_bounds-v-column c = record { fits = omega (arith, column_inside c.requires.inside c.requires.within c.row-column-items.ensures c.loop-column-test.true) }

pub bounds-v-column : goal.bounds-v-column
bounds-v-column c = column_inside c.requires.inside c.requires.within c.row-column-items.ensures c.loop-column-test.true

pub overflow_mul-sum : goal.overflow_mul-sum
overflow_mul-sum c = product_fits c.requires.inside c.requires.within c.row-column-items.ensures c.loop-column-test.true c.loop-column.sum-bits c.loop-column.invariant

pub overflow_add-sum : goal.overflow_add-sum
overflow_add-sum c = sum_fits c.requires.inside c.requires.within c.row-column-items.ensures c.loop-column-test.true c.loop-column.sum-bits c.loop-column.invariant

pub loop-column-preserved : goal.loop-column-preserved
loop-column-preserved c = sum_next c.requires.inside c.requires.within c.row-column-items.ensures c.loop-column-test.true c.loop-column.sum-bits c.loop-column.invariant

pub returns : goal.returns
returns c = row_summed c.requires.inside c.requires.within c.row-column-items.ensures (drop_of_length-le c.row-column-items.result.now (omega arith)) c.loop-column.invariant
