-- What holds when a turn of a loop of `hand_out` begins, and what grows less.
use Rattle.std.proofs.Common.{◌-◌, length}
use Rattle.lot_runs.specs.Meaning.{space_held, Kept}
use Rattle.lot_hand_out.proofs.Handed.{Handed}
use Rattle.lot_hand_out.proofs.hand_out.Given as goal

abbrev pub invariant-loop-at : goal.invariant-loop-at
invariant-loop-at l = Handed l.file (space_held l.initial.space) (space_held l.space) l.at l.n × Kept l.initial.space l.space

abbrev pub decreases-loop-at : goal.decreases-loop-at
decreases-loop-at l = length l.file - l.at
