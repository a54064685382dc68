-- Counts that are capped before they are added up give the same capped length. Assumes nothing.
use mathlib.Core.Path.{◌≡◌, ◌∙◌}
use Prim.Native.Nat.{ℕ}
use native.Mathlib.Omega.{arith}
use Rattle.lot_roundtrip_theory.specs.Lengths.{length_by}
use Rattle.lot_writer.specs.Meaning.{capped}

module _ (label nodes elements groups names : ℕ) where
  cap_label : capped (length_by (capped label) nodes elements groups names) ≡ capped (length_by label nodes elements groups names)
  cap_label = omega arith

  cap_nodes : capped (length_by label (capped nodes) elements groups names) ≡ capped (length_by label nodes elements groups names)
  cap_nodes = omega arith

  cap_elements : capped (length_by label nodes (capped elements) groups names) ≡ capped (length_by label nodes elements groups names)
  cap_elements = omega arith

  cap_groups : capped (length_by label nodes elements (capped groups) names) ≡ capped (length_by label nodes elements groups names)
  cap_groups = omega arith

  cap_names : capped (length_by label nodes elements groups (capped names)) ≡ capped (length_by label nodes elements groups names)
  cap_names = omega arith

pub cap_all : (label nodes elements groups names : ℕ) → capped (length_by (capped label) (capped nodes) (capped elements) (capped groups) (capped names)) ≡ capped (length_by label nodes elements groups names)
cap_all label nodes elements groups names =
    cap_label label (capped nodes) (capped elements) (capped groups) (capped names)
    ∙ cap_nodes label nodes (capped elements) (capped groups) (capped names)
    ∙ cap_elements label nodes elements (capped groups) (capped names)
    ∙ cap_groups label nodes elements groups (capped names)
    ∙ cap_names label nodes elements groups names
