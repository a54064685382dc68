-- What holds when a turn of the loop of `put_grouped` begins: how far the elements and groups are written.
use Rattle.std.proofs.Common.{◌≤◌, length}
use Rattle.lot_format.specs.Format.{grouped_entries}
use Rattle.lot_runs.specs.Meaning.{groups_held}
use Rattle.bytes_output.specs.Progress.{Progress}
use Rattle.lot_entries_writer.proofs.Among.{Among, left_among}
use Rattle.lot_entries_writer.proofs.put_grouped.Given as goal

abbrev pub invariant-loop-k : goal.invariant-loop-k
invariant-loop-k l =
    Among l.elements l.groups.names.now l.groups.lengths.now l.groups.offsets.now l.k l.done l.named
    × Progress l.initial.out (grouped_entries 0 (groups_held l.groups) l.elements)
    (left_among l.elements l.groups.names.now l.groups.lengths.now l.groups.offsets.now l.k l.done l.named) l.out
