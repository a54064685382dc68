-- `put_grouped` meets its contract. The loop's invariant: how far the elements and groups are written (`Among`). Assumes nothing.
use Rattle.bytes_output.specs.Progress.{laid_more, laid_last}
use Rattle.lot_entries_writer.proofs.Among.{last_next, among_next, group-next}
use Rattle.lot_entries_writer.proofs.put_grouped.Goals as goal

pub loop-k-preserved : goal.loop-k-preserved
loop-k-preserved c =
    let l = c.loop-k in
    (among_next c.requires.grouped l.invariant.0 c.loop-k-test.true, laid_more l.invariant.1 (group-next c.requires.grouped l.invariant.0 c.loop-k-test.true) c.put_group.ensures)

pub returns : goal.returns
returns c = let l = c.loop-k in laid_last l.invariant.1 (last_next c.requires.grouped l.invariant.0 c.loop-k-test.false) c.put_elements.ensures
