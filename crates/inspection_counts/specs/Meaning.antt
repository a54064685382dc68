-- What the counts and the stamps of the code stand for.
use Rattle.definitions.specs.Mesh.{Counts, Stamp, sound, faulty, «open»}
use Rattle.inspection_counts.specs.declared.Counts.{Counts as HeldCounts}
use Rattle.inspection_counts.specs.declared.Stamp.{Stamp as HeldStamp}
use Rattle.inspection_counts.specs.declared.Stamp.TheVariants.{Sound, Faulty, Open}

abbrev pub counts_held : HeldCounts → Counts
counts_held n = record { valid = n.valid; invalid = n.invalid; undecided = n.undecided; refused = n.refused }

abbrev pub stamp_held : HeldStamp → Stamp
stamp_held Sound = sound
stamp_held Faulty = faulty
stamp_held Open = «open»
