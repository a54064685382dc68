-- What holds when a turn of a loop of `scan_file` begins, and what grows less.
use Prim.Native.Nat.{◌-◌, ◌≤◌}
use lib.ListN.{length}
use Rattle.lot_format.specs.Format.{lot_file}
use Rattle.lot_marks.specs.Meaning.{stage_held}
use Rattle.lot_scan.specs.Seen.{Seen}
use Rattle.lot_scan.proofs.scan_file.Given as goal

abbrev pub invariant-loop-stage : goal.invariant-loop-stage
invariant-loop-stage l = (length l.file ≤ lot_file.bytes) × Seen l.file l.at (stage_held l.stage) l.counts

abbrev pub decreases-loop-stage : goal.decreases-loop-stage
decreases-loop-stage l = length l.file - l.at
