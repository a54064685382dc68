-- The slip by the answer of the reading, case by case.
use Rattle.std.specs.Prelude.{◌≡◌, Bool, true, false, List, ℕ, ◌<◌, ◌≤◌, eqb, leb, get_or}
use Rattle.std.proofs.Math.Path.{sym}
use Rattle.std.proofs.Common.{◌∙◌, ap, eq-eqb, ne_eqb, le-leb}
use Rattle.std.proofs.lemmas.Bool.{lt-leb}
use Rattle.definitions.specs.Limits.{base}
use Rattle.lot_format.specs.Runs.{Runs, lot_from}
use Rattle.lot_format.specs.Reading.{unreadable_number, too_many_elements}
use Rattle.lot_reader.specs.Promise.{as_read}
use Rattle.slip_format.specs.Slip.{slip_limits, refused_line, mesh_slip, slip_if}

-- the slip by the answer: its number, and how many elements it counts
unfoldable pub answered_slip : Runs → List ℕ → List ℕ
answered_slip now answer = elim (eqb (get_or answer 0 0) 0) [
  | false ↦ refused_line (get_or answer 0 0)
  | true ↦ slip_if (leb (get_or answer 2 0) slip_limits.elements) (mesh_slip base slip_limits.depth (lot_from (as_read now answer)))
]

module _ (now : Runs) (answer : List ℕ) where
  abbrev pub counted_by : Bool → List ℕ
  counted_by b = slip_if b (mesh_slip base slip_limits.depth (lot_from (as_read now answer)))

  abbrev numbered_by : Bool → List ℕ
  numbered_by b = elim b [ false ↦ refused_line (get_or answer 0 0) | true ↦ counted_by (leb (get_or answer 2 0) slip_limits.elements) ]

  pub refused_by : (get_or answer 0 0 ≡ 0 → ⊥) → refused_line (get_or answer 0 0) ≡ answered_slip now answer
  unfolding answered_slip
  refused_by h = sym (ap numbered_by (ne_eqb (get_or answer 0 0) 0 h))

  pub counted_by_law : get_or answer 0 0 ≡ 0 → (b : Bool) → leb (get_or answer 2 0) slip_limits.elements ≡ b → counted_by b ≡ answered_slip now answer
  unfolding answered_slip
  counted_by_law z b e = sym (ap counted_by e) ∙ sym (ap numbered_by (eq-eqb (get_or answer 0 0) 0 z))

  pub many_by : get_or answer 0 0 ≡ 0 → slip_limits.elements < get_or answer 2 0 → refused_line (unreadable_number too_many_elements) ≡ answered_slip now answer
  many_by z h = counted_by_law z false (lt-leb (get_or answer 2 0) slip_limits.elements h)

  pub few_by : get_or answer 0 0 ≡ 0 → get_or answer 2 0 ≤ slip_limits.elements → mesh_slip base slip_limits.depth (lot_from (as_read now answer)) ≡ answered_slip now answer
  few_by z h = counted_by_law z true (le-leb (get_or answer 2 0) slip_limits.elements h)
