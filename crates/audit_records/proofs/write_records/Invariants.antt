-- What holds when a turn of a loop of `write_records` begins.
use Rattle.definitions.specs.Limits.{base}
use Rattle.inspection_counts.specs.Meaning.{counts_held}
use Rattle.mesh_report.specs.Entries.{Entered}
use Rattle.audit_records.proofs.write_records.Given as goal

abbrev pub invariant-loop-e : goal.invariant-loop-e
invariant-loop-e l = Entered base l.coordinates l.indices l.depth l.initial.report l.e l.report (counts_held l.counts)
