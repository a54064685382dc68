-- What follows of a mesh that is accepted, at any limits. Assumes nothing.
use Rattle.std.specs.Prelude.{◌≡◌, Bool, true, false, ℕ, ◌*◌, ◌/◌, ◌%◌, ◌≤◌, leb, ltb, eqb}
use Rattle.std.proofs.Math.Path.{refl}
use Rattle.std.proofs.Common.{sym, ◌∙◌, arith, ltb-false, leb-true, eqb-true}
use Rattle.std.proofs.Math.Bool.{and-eq-true_iff}
use Rattle.std.proofs.Math.Option.{Option, none, some}
use Rattle.definitions.specs.Limits.{Limits, record_words}
use Rattle.definitions.specs.Mesh.{MeshRefusal, depth_too_great, bad_coordinates, bad_indices, bad_space, well_sized, refusal}

-- by the four tests
abbrev pub refusal_by : Bool → Bool → Bool → Bool → Option MeshRefusal
refusal_by deep coordinates indices space =
    elim deep [
      | true ↦ some depth_too_great
      | false ↦
          elim coordinates [
            | false ↦ some bad_coordinates
            | true ↦
                elim indices [
                  | false ↦ some bad_indices
                  | true ↦
                      elim space [ false ↦ some bad_space | true ↦ none ]
                ]
          ]
    ]

never : {r : MeshRefusal} {B : Type 0} → some r ≡ none → B
never e = let z : ◌≡◌ {A = ℕ} 0 1 = cc in absurd (omega arith)

refusal_by_none : (a b c d : Bool) → refusal_by a b c d ≡ none → (a ≡ false) × (b ≡ true) × (c ≡ true) × (d ≡ true)
refusal_by_none true b c d e = never e
refusal_by_none false false c d e = never e
refusal_by_none false true false d e = never e
refusal_by_none false true true false e = never e
refusal_by_none false true true true e = (refl, refl, refl, refl)

pub well_sized_law : (n k most : ℕ) → well_sized n k most ≡ true → (n % k ≡ 0) × (n / k ≤ most)
well_sized_law n k most e =
    let parts = (and-eq-true_iff (eqb (n % k) 0) (leb (n / k) most)).0 e in
    (eqb-true _ _ parts.0, leb-true _ _ parts.1)

-- What holds of a mesh that is accepted.
pub record Accepted (L : Limits) (coordinates indices space D : ℕ) : Type 0 where
  pub depth : D ≤ L.depth
  pub nodes : coordinates / 3 ≤ L.nodes
  pub eights : indices % 8 ≡ 0
  pub elements : indices / 8 ≤ L.elements
  pub room : space ≡ record_words * (indices / 8)

module _ (L : Limits) (coordinates indices space D : ℕ) where
  pub refusal_by_law : refusal L coordinates indices space D
      ≡ refusal_by (ltb L.depth D) (well_sized coordinates 3 L.nodes) (well_sized indices 8 L.elements) (eqb space (record_words * (indices / 8)))
  unfolding refusal
  refusal_by_law = refl

  pub accepted_mesh : refusal L coordinates indices space D ≡ none → Accepted L coordinates indices space D
  accepted_mesh e =
      let tests = refusal_by_none _ _ _ _ (sym refusal_by_law ∙ e) in
      let nodes = well_sized_law coordinates 3 L.nodes tests.1 in
      let elements = well_sized_law indices 8 L.elements tests.2 in
      record {
        depth = ltb-false _ _ tests.0;
        nodes = nodes.1;
        eights = elements.0;
        elements = elements.1;
        room = eqb-true _ _ tests.3;
      }
