-- The record of an element, by what the search for its fault answers: of a whole one its points, which are in range; of one with a fault its
-- words are the record.
use Rattle.std.specs.Prelude.{◌≡◌, List, ℕ, ◌≤◌, get_or, length, ℤ, pos, nat_abs, Result, Ok, Err, IfOk}
use Rattle.std.proofs.Common.{sym, ◌∙◌, ap, subst}
use Rattle.std.proofs.lemmas.Result.{IfOk-at_ok}
use Rattle.definitions.specs.Limits.{base}
use Rattle.definitions.specs.Record.{fault_words, record_of}
use Rattle.definitions.specs.Mesh.{points_of, fault_of, element_record}
use Rattle.verdict_theory.specs.Elements.{element_fault, element_points}
use Rattle.mesh_points.specs.Points.{read_within, length_points}
use Rattle.mesh_elements.specs.declared.Fault.{Fault as HeldFault}
use Rattle.mesh_elements.specs.Meaning.{element_of, fault_held}
use Rattle.mesh_elements.specs.Elements.{whole_element}

module _ {A : Type 0} (coordinates : List ℤ) (ix : List ℕ) (x : Result A HeldFault) (told : element_of x ≡ fault_of base coordinates ix) where
  fault_is : {y : Result A HeldFault} → x ≡ y → fault_of base coordinates ix ≡ element_of y
  fault_is e = sym told ∙ ap element_of e

  module _ (p : List ℤ) (given : IfOk x (λ _. p ≡ points_of coordinates ix)) {u : A} (e : x ≡ Ok u) where
    gathered : p ≡ points_of coordinates ix
    gathered = IfOk-at_ok (λ _. p ≡ points_of coordinates ix) e given

    pub whole_sized : length p ≡ 24
    whole_sized = ap length gathered ∙ length_points coordinates ix

    pub whole_within : (i : ℕ) → nat_abs (get_or p i (pos 0)) ≤ base.range
    whole_within = subst (λ (xs : List ℤ). (i : ℕ) → nat_abs (get_or xs i (pos 0)) ≤ base.range) (sym gathered) (read_within base (points_of coordinates ix) (whole_element base coordinates ix (fault_is e)).points (length_points coordinates ix))

    pub whole_record : (depth : ℕ) → record_of p depth ≡ element_record base coordinates ix depth
    whole_record depth = ap (λ (xs : List ℤ). record_of xs depth) gathered ∙ sym (element_points base coordinates ix depth (fault_is e))

  pub refused_record : {f : HeldFault} → x ≡ Err f → (depth : ℕ) → fault_words (fault_held f) ≡ element_record base coordinates ix depth
  refused_record e depth = sym (element_fault base coordinates ix depth _ (fault_is e))
