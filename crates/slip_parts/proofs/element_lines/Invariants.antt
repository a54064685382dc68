-- What holds when a turn of the loop of `element_lines` begins: the lines from there on are left to be written.
use Rattle.std.proofs.Common.{◌/◌, length}
use Rattle.definitions.specs.Limits.{record_words}
use Rattle.lot_runs.specs.Meaning.{groups_held}
use Rattle.slip_format.specs.Slip.{element_lines}
use Rattle.bytes_output.specs.Progress.{Progress}
use Rattle.slip_parts.proofs.Lines.{lines_from}
use Rattle.slip_parts.proofs.element_lines.Given as goal

abbrev pub invariant-loop-k : goal.invariant-loop-k
invariant-loop-k l =
    Progress l.initial.out (element_lines l.label (groups_held l.groups) record_words 0 (length l.report / record_words) l.report)
    (lines_from l.label (groups_held l.groups) (length l.report / record_words) l.report l.k) l.out
