-- The list of row n stands where the runs have it. Assumes nothing.
use Rattle.std.proofs.Common.{arith}
use Rattle.coefficient_table.specs.SparseRuns.{rows_held, starts_ordered, row_inside}
use Rattle.coefficient_table.proofs.sparse.row.Goals as goal

pub offset_bounds-terms-starts : goal.offset_bounds-terms-starts
offset_bounds-terms-starts c = let r = c.lists.ensures in record { fits = omega (arith, starts_ordered r c.args.n c.requires, row_inside r c.args.n c.requires) }

pub slice_bounds-result-count : goal.slice_bounds-result-count
slice_bounds-result-count c = starts_ordered c.lists.ensures c.args.n c.requires

pub slice_bounds-result-start : goal.slice_bounds-result-start
slice_bounds-result-start c = starts_ordered c.lists.ensures c.args.n c.requires

pub slice_bounds-result-end : goal.slice_bounds-result-end
slice_bounds-result-end c = row_inside c.lists.ensures c.args.n c.requires

pub returns : goal.returns
returns c = (rows_held c.lists.ensures).same c.args.n c.requires
