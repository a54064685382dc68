-- A closer look: the slip of a lot that has no undecided element is the same at every greater depth.
use Rattle.std.specs.Prelude.{◌≡◌, leb, take, drop, pos}
use Rattle.std.proofs.Math.Path.{ap, ap₂}
use mathlib.Core.List.{List}
use Rattle.std.proofs.Math.Option.{Option, none, some}
use Prim.Native.Nat.{ℕ, ◌*◌, ◌/◌, ◌≤◌, zero-le}
use Rattle.std.proofs.Common.{arith}
use borrow.Author.Tests.{le-ltb}
use Rattle.std.proofs.Math.ListN.{length}
use Rattle.std.proofs.Math.IntN.{ℤ}
use Rattle.foundation.specs.Lists.{All, concat_map, tabulate_cong, tabulate_all}
use Rattle.definitions.specs.Limits.{Limits, record_words}
use Rattle.definitions.specs.Mesh.{MeshRefusal, refusal, element_record, records, report, Inspection, mesh_accepted, mesh_refused, counts_of, inspection}
use Rattle.definitions.specs.Mesh.{mesh_refusal_number}
use Rattle.definitions.specs.Record.{kind_word}
use Rattle.verdict_theory.specs.Elements.{element_same}
use Rattle.lot_format.specs.Format.{FileLimits, Lot}
use Rattle.lot_format.specs.Reading.{readable, read_lot}
use Rattle.slip_format.specs.Slip.{refused_line, inspected_slip, mesh_slip, slip_if, lot_slip, slip_of}

-- word 0 of a record does not say undecided
abbrev pub Decided : List ℤ → Type 0
Decided r = kind_word r ≡ pos 2 → ⊥

module _ (L : Limits) (D D' : ℕ) (further : D ≤ D') (shallow : D' ≤ L.depth) (lot : Lot) (decided : All Decided (records L lot.nodes lot.elements D)) where
  same_refusal : (space : ℕ) → refusal L (length lot.nodes) (length lot.elements) space D' ≡ refusal L (length lot.nodes) (length lot.elements) space D
  unfolding refusal
  same_refusal space = let a = le-ltb L.depth D' shallow in let b = le-ltb L.depth D (omega arith) in rw (a, b, refusal)

  same_records : records L lot.nodes lot.elements D' ≡ records L lot.nodes lot.elements D
  unfolding records
  same_records =
      let one : ℕ → ℕ → List ℤ = λ d e. element_record L lot.nodes (take 8 (drop (8 * e) lot.elements)) d in
      tabulate_cong (one D') (one D) 0 (length lot.elements / 8)
      (λ e h. element_same L lot.nodes (take 8 (drop (8 * e) lot.elements)) D D' further (tabulate_all Decided (one D) 0 (length lot.elements / 8) decided e zero-le h))

  same_inspection : (space : ℕ) → inspection L lot.nodes lot.elements space D' ≡ inspection L lot.nodes lot.elements space D
  unfolding inspection
  same_inspection space = ap₂ (λ (o : Option MeshRefusal) (rs : List (List ℤ)). elim o as (λ _. Inspection) [ some r ↦ mesh_refused r | none ↦ mesh_accepted (counts_of rs) ]) (same_refusal space) same_records

  same_report : report L lot.nodes lot.elements D' ≡ report L lot.nodes lot.elements D
  unfolding report
  same_report = ap (concat_map (λ r. r)) same_records

  same_mesh_slip : mesh_slip L D' lot ≡ mesh_slip L D lot
  unfolding mesh_slip
  same_mesh_slip =
      let n = length lot.elements / 8 in
      ap₂ (λ (x : Inspection) (words : List ℤ). elim x as (λ _. List ℕ) [ mesh_refused r ↦ refused_line (mesh_refusal_number r) | mesh_accepted counts ↦ inspected_slip lot.label lot.groups (record_words) n words counts ])
      (same_inspection (record_words * n)) same_report

  same_lot_slip : (most : ℕ) → lot_slip L (record { depth = D'; elements = most }) lot ≡ lot_slip L (record { depth = D; elements = most }) lot
  unfolding lot_slip
  same_lot_slip most = ap (slip_if (leb (length lot.elements / 8) most)) same_mesh_slip

  pub same_slip : (F : FileLimits) (most : ℕ) (bytes : List ℕ) → read_lot F bytes ≡ readable lot → slip_of L F (record { depth = D'; elements = most }) bytes ≡ slip_of L F (record { depth = D; elements = most }) bytes
  unfolding slip_of
  same_slip F most bytes e = rw (e, slip_of) (same_lot_slip most)
