-- Eight points as a mesh of their own: eight nodes and one element that names them in order. It is accepted, and nothing is at fault.
use Rattle.std.specs.Prelude.{◌≡◌, Bool, true, false, List, [], ◌∷◌, ℕ, ◌+◌, ◌*◌, ◌/◌, ◌%◌, ◌<◌, ◌≤◌, eqb, get_or, length, ℤ, pos}
use Rattle.std.proofs.Math.Path.{refl, ap}
use Rattle.std.proofs.Common.{sym, ◌∙◌, arith, le-ltb, le-leb, eq-eqb, ext_get_or}
use Rattle.std.proofs.Math.Option.{none}
use Rattle.foundation.specs.Lists.{equal_below}
use Rattle.definitions.specs.Limits.{Limits, record_words}
use Rattle.definitions.specs.Mesh.{well_sized, refusal, missing_index, named_twice, points_of, out_of_range, fault_of}
use Rattle.mesh_checks.specs.Refusals.{refusal_by_law, refusal_by}
use Rattle.mesh_points.specs.Points.{length_points, point_at}
use Rattle.mesh_elements.specs.Elements.{fault_none}

abbrev pub in_order : List ℕ
in_order = 0 ∷ 1 ∷ 2 ∷ 3 ∷ 4 ∷ 5 ∷ 6 ∷ 7 ∷ []

-- its points are its nodes
in_order_law : (k : ℕ) → k < 24 → 3 * get_or in_order (k / 3) 0 + k % 3 ≡ k
in_order_law = equal_below (λ k. 3 * get_or in_order (k / 3) 0 + k % 3) (λ k. k) 24 tt

module _ (xs : List ℤ) (n : length xs ≡ 24) where
  pub own_points : points_of xs in_order ≡ xs
  own_points = let sized = length_points xs in_order in
      ext_get_or (pos 0) (points_of xs in_order) xs (sized ∙ sym n) (λ k h. point_at xs in_order k (omega arith) ∙ ap (λ (i : ℕ). get_or xs i (pos 0)) (in_order_law k (omega arith)))

  named : missing_index (length xs / 3) in_order ≡ none
  unfolding missing_index
  named = ap (λ (l : ℕ). missing_index (l / 3) in_order) n

  once : named_twice in_order ≡ none
  unfolding named_twice
  once = refl

  pub own_element : (L : Limits) → out_of_range L xs ≡ none → fault_of L xs in_order ≡ none
  own_element L inside = fault_none L xs in_order named once (ap (out_of_range L) own_points ∙ inside)

  -- with the depth, eight nodes and one element within the limits, and report space of that one element
  pub own_mesh_law : (L : Limits) (space D : ℕ) → D ≤ L.depth → 8 ≤ L.nodes → 1 ≤ L.elements → space ≡ record_words → refusal L (length xs) (length in_order) space D ≡ none
  own_mesh_law L space D deep nodes elements room =
      let words : space ≡ record_words * 1 = omega arith in
      ap (λ (l : ℕ). refusal L l 8 space D) n ∙ refusal_by_law L 24 8 space D
      ∙ ap (λ (b : Bool). refusal_by b (well_sized 24 3 L.nodes) (well_sized 8 8 L.elements) (eqb space (record_words * 1))) (le-ltb L.depth D deep)
      ∙ ap (λ (b : Bool). refusal_by false b (well_sized 8 8 L.elements) (eqb space (record_words * 1))) (le-leb 8 L.nodes nodes)
      ∙ ap (λ (b : Bool). refusal_by false true b (eqb space (record_words * 1))) (le-leb 1 L.elements elements)
      ∙ ap (λ (b : Bool). refusal_by false true true b) (eq-eqb space (record_words * 1) words)
