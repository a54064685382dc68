-- The slip of a lot, by what its inspection answers. Assumes nothing.
use mathlib.Core.Path.{◌≡◌, refl, ◌∙◌, ap, ap₂}
use mathlib.Core.List.{List}
use mathlib.Core.Option.{Option, none, some}
use Prim.Native.Nat.{ℕ, ◌*◌, ◌/◌}
use native.Mathlib.Omega.{arith}
use lib.ListN.{length}
use lib.IntN.{ℤ}
use Rattle.definitions.specs.Limits.{record_words, base}
use Rattle.definitions.specs.Mesh.{MeshRefusal, mesh_refusal_number, refusal, records, report, Counts, counts_of, Inspection, mesh_accepted, mesh_refused, inspection, report_after}
use Rattle.verdict_theory.specs.Elements.{report_length}
use Rattle.lot_format.specs.Format.{Lot}
use Rattle.slip_format.specs.Slip.{slip_limits, refused_line, inspected_slip, mesh_slip}

module _ (lot : Lot) (space : List ℤ) (sized : length space ≡ record_words * (length lot.elements / 8)) where
  abbrev answer : ℕ → Inspection
  answer n = inspection base lot.nodes lot.elements n slip_limits.depth

  abbrev words : List ℤ
  words = report base lot.nodes lot.elements slip_limits.depth

  abbrev slip_by : Inspection → List ℕ
  slip_by x = elim x [ mesh_refused r ↦ refused_line (mesh_refusal_number r) | mesh_accepted n ↦ inspected_slip lot.label lot.groups record_words (length lot.elements / 8) words n ]

  slip_by_law : (x : Inspection) → x ≡ answer (length space) → slip_by x ≡ mesh_slip base slip_limits.depth lot
  unfolding mesh_slip
  slip_by_law x e = ap slip_by (e ∙ ap answer sized)

  pub slip_refused : (r : MeshRefusal) → mesh_refused r ≡ answer (length space) → refused_line (mesh_refusal_number r) ≡ mesh_slip base slip_limits.depth lot
  slip_refused r e = slip_by_law (mesh_refused r) e

  report_is : (n : Counts) → mesh_accepted n ≡ answer (length space) → report_after base lot.nodes lot.elements space slip_limits.depth ≡ words
  unfolding inspection report_after
  report_is n e = go (refusal base (length lot.nodes) (length lot.elements) (length space) slip_limits.depth) e
    where
      go : (o : Option MeshRefusal) → mesh_accepted n ≡ elim o [ some r ↦ mesh_refused r | none ↦ mesh_accepted (counts_of (records base lot.nodes lot.elements slip_limits.depth)) ] → ◌≡◌ {A = List ℤ} (elim o [ some r ↦ space | none ↦ words ]) words
      go (some r) e = let z : ◌≡◌ {A = ℕ} 0 1 = cc in absurd (omega arith)
      go none e = refl

  pub slip_inspected : (n : Counts) (ws : List ℤ) → mesh_accepted n ≡ answer (length space) → ws ≡ report_after base lot.nodes lot.elements space slip_limits.depth → inspected_slip lot.label lot.groups record_words (length ws / record_words) ws n ≡ mesh_slip base slip_limits.depth lot
  slip_inspected n ws e f =
      let same = f ∙ report_is n e in
      let long : length ws / record_words ≡ length lot.elements / 8 = omega (arith, ap length same, report_length base lot.nodes lot.elements slip_limits.depth) in
      ap₂ (λ (k : ℕ) (l : List ℤ). inspected_slip lot.label lot.groups record_words k l n) long same ∙ slip_by_law (mesh_accepted n) e
