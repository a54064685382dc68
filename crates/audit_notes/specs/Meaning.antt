-- What the auditor's notes stand for.
use Rattle.std.specs.Prelude.{Bool, true, false, List, ℕ, zero, suc, ltb, ℤ, pos, Option, Some, None}
use Rattle.definitions.specs.Subdivision.{Cell}
use Rattle.definitions.specs.Verdict.{Finding}
use Rattle.definitions.specs.Record.{words, verdict_words}
use Rattle.verdict_theory.specs.Search.{nothing, coefficient, point}
use Rattle.verdict_theory.specs.Extremes.{Extremes}
use Rattle.search_theory.specs.Meaning.{cell_of, Grid}
use Rattle.search_theory.specs.Lowest.{at_corner, at_cell}
use Rattle.search_theory.specs.Visit.{is_blocked}
use Rattle.search_theory.specs.Levels.{outcome}
use Rattle.audit_theory.specs.Walk.{Notes, sought, surveyed}
use Rattle.audit_notes.specs.declared.Point.{Point}
use Rattle.audit_notes.specs.declared.Finding.{Finding as HeldFinding}
use Rattle.audit_notes.specs.declared.Extremes.{Extremes as HeldExtremes}
use Rattle.audit_notes.specs.declared.Notes.{Notes as HeldNotes}
use Rattle.audit_notes.specs.declared.Notes.TheVariants.{Nothing, Coefficient, Corner, Survey}

-- the cell at a point with these coefficients, and that its other corners have numbers too
abbrev pub cell_at : Point → List ℤ → Cell
cell_at p g = cell_of p.a p.b p.c g

abbrev pub OnGrid : Point → Type 0
OnGrid p = Grid p.a 0 × Grid p.b 0 × Grid p.c 0

-- a number from 1, or none where it is 0
abbrev pub numbered : ℕ → Option ℕ
numbered zero = None
numbered (suc k) = Some (suc k)

abbrev pub finding_of : HeldFinding → Finding
finding_of f = record { number = f.number; a = f.point.a; b = f.point.b; c = f.point.c; value = f.value }

abbrev pub extremes_of : HeldExtremes → Extremes
extremes_of e = record { low = e.low; high = e.high }

abbrev pub notes_of : HeldNotes → Notes
notes_of (Nothing n) = sought (record { count = n; found = nothing })
notes_of (Coefficient n f) = sought (record { count = n; found = coefficient (finding_of f) })
notes_of (Corner n f) = sought (record { count = n; found = point (finding_of f) })
notes_of (Survey e) = surveyed (extremes_of e)

-- coefficient j of a cell, counted from 0: a corner at its point, any other at the cell
abbrev pub finding_at : Cell → ℕ → Finding
finding_at s j = elim (ltb j 8) [ true ↦ at_corner s j | false ↦ at_cell s j ]

-- whether a search found a low coefficient and no low corner
abbrev pub blocked_in : Notes → Bool
blocked_in (sought p) = is_blocked p.found
blocked_in (surveyed e) = false

-- the record of a search of a level, where it is the last
abbrev pub record_in : ℕ → Notes → List ℤ
record_in level (sought p) = verdict_words (outcome level p.found) p.count
record_in level (surveyed e) = words 0 0 0 0 0 0 (pos 0) 0

-- what a survey comes to
abbrev pub extremes_in : Notes → Extremes
extremes_in (sought p) = record { low = pos 0; high = pos 0 }
extremes_in (surveyed e) = e
