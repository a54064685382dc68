-- The answers of the services case by case, as the code's branches reach them.
use Rattle.std.specs.Prelude.{◌≡◌, refl, Bool, true, false, List, ℕ, ◌<◌, ◌≤◌, ltb, length, ℤ}
use Rattle.std.proofs.Common.{sym, ◌∙◌, lt-ltb, le-ltb}
use Rattle.std.proofs.Math.Path.{ap, ap₂}
use Rattle.std.proofs.Math.Option.{Option, none, some}
use Rattle.definitions.specs.Limits.{Limits}
use Rattle.definitions.specs.Bounds.{low, high}
use Rattle.definitions.specs.Mesh.{Counts, MeshRefusal, refusal, records, report, counts_of, Inspection, mesh_accepted, mesh_refused, inspection, report_after, out_of_range, Bounds, bounds, too_deep, out_of_limits, bounds_of}

-- ---- an inspection, by what refuses the mesh
module _ (L : Limits) (coordinates : List ℤ) (indices : List ℕ) (space : List ℤ) (D : ℕ) where
  abbrev pub refusal_here : Option MeshRefusal
  refusal_here = refusal L (length coordinates) (length indices) (length space) D

  abbrev answer_by : Option MeshRefusal → Inspection
  answer_by o = elim o [ some r ↦ mesh_refused r | none ↦ mesh_accepted (counts_of (records L coordinates indices D)) ]

  abbrev space_by : Option MeshRefusal → List ℤ
  space_by o = elim o [ some r ↦ space | none ↦ report L coordinates indices D ]

  answer_is : (o : Option MeshRefusal) → refusal_here ≡ o → inspection L coordinates indices (length space) D ≡ answer_by o
  unfolding inspection
  answer_is o e = ap answer_by e

  space_is : (o : Option MeshRefusal) → refusal_here ≡ o → report_after L coordinates indices space D ≡ space_by o
  unfolding report_after
  space_is o e = ap space_by e

  pub refused_answer : (r : MeshRefusal) → refusal_here ≡ some r → inspection L coordinates indices (length space) D ≡ mesh_refused r
  refused_answer r e = answer_is (some r) e

  refused_space : (r : MeshRefusal) → refusal_here ≡ some r → report_after L coordinates indices space D ≡ space
  refused_space r e = space_is (some r) e

  pub accepted_answer : refusal_here ≡ none → inspection L coordinates indices (length space) D ≡ mesh_accepted (counts_of (records L coordinates indices D))
  accepted_answer e = answer_is none e

  pub accepted_space : refusal_here ≡ none → report_after L coordinates indices space D ≡ report L coordinates indices D
  accepted_space e = space_is none e

  -- the answer and the space together, as the code has them
  pub refused_both : (r : MeshRefusal) → refusal_here ≡ some r → (mesh_refused r ≡ inspection L coordinates indices (length space) D) × (space ≡ report_after L coordinates indices space D)
  refused_both r e = (sym (refused_answer r e), sym (refused_space r e))

  pub accepted_both : refusal_here ≡ none → {counts : Counts} → counts ≡ counts_of (records L coordinates indices D) → {after : List ℤ} → after ≡ report L coordinates indices D
      → (mesh_accepted counts ≡ inspection L coordinates indices (length space) D) × (after ≡ report_after L coordinates indices space D)
  accepted_both e n a = (ap mesh_accepted n ∙ sym (accepted_answer e), a ∙ sym (accepted_space e))

-- ---- the bounds
module _ (L : Limits) (xs : List ℤ) (D : ℕ) where
  abbrev bounds_by : Bool → Option ℕ → Bounds
  bounds_by b o = elim b [ true ↦ too_deep | false ↦ elim o [ some k ↦ out_of_limits | none ↦ bounds (low xs D) (high xs D) ] ]

  bounds_is : (b : Bool) (o : Option ℕ) → ltb L.depth D ≡ b → out_of_range L xs ≡ o → bounds_of L xs D ≡ bounds_by b o
  unfolding bounds_of
  bounds_is b o e h = ap₂ bounds_by e h

  pub bounds_deep : L.depth < D → bounds_of L xs D ≡ too_deep
  bounds_deep h = bounds_is true (out_of_range L xs) (lt-ltb L.depth D h) refl

  pub bounds_outside : (k : ℕ) → D ≤ L.depth → out_of_range L xs ≡ some k → bounds_of L xs D ≡ out_of_limits
  bounds_outside k h e = bounds_is false (some k) (le-ltb L.depth D h) e

  pub bounds_inside : D ≤ L.depth → out_of_range L xs ≡ none → bounds_of L xs D ≡ bounds (low xs D) (high xs D)
  bounds_inside h e = bounds_is false none (le-ltb L.depth D h) e
