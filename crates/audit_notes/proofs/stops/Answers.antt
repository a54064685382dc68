-- `stops` meets its contract: case by case, and by the lowest number. Assumes nothing.
use mathlib.Core.Path.{◌≡◌, refl, sym, ap, ◌∙◌}
use mathlib.Core.List.{List}
use Prim.Native.Nat.{ℕ}
use lib.IntN.{ℤ}
use Rattle.verdict_theory.specs.Search.{nothing, coefficient}
use Rattle.search_theory.specs.Meaning.{cell_of}
use Rattle.audit_theory.specs.Walk.{stops}
use Rattle.audit_notes.specs.declared.Notes.{Notes}
use Rattle.audit_notes.specs.Meaning.{finding_of, notes_of}
use Rattle.audit_notes.specs.Notes.{stops_by}
use Rattle.audit_notes.proofs.stops.Goals as goal

-- by the case that the notes are
by : (g : List ℤ) (a b c : ℕ) {n x : Notes} → n ≡ x → stops (cell_of a b c g) (notes_of n) ≡ stops (cell_of a b c g) (notes_of x)
by g a b c e = ap (λ (n : Notes). stops (cell_of a b c g) (notes_of n)) e

pub returns-in-Nothing : goal.returns-in-Nothing
returns-in-Nothing c = λ a b z. let g = c.args.g.now in stops_by a b z g nothing refl c.lowest_number.ensures c.is_none.ensures ∙ sym (by g a b z c.in-Nothing.is)

pub returns-in-Coefficient : goal.returns-in-Coefficient
returns-in-Coefficient c = λ a b z. let g = c.args.g.now in stops_by a b z g (coefficient (finding_of c.in-Coefficient.field-1)) refl c.lowest_number-in-Coefficient.ensures c.is_none-in-Coefficient.ensures ∙ sym (by g a b z c.in-Coefficient.is)
