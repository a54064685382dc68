-- Promise 3 of what the services write and answer: for any meshes in which the same eight points stand, whatever else they hold; and for any eight points within the limits, in a mesh of their own.
use Rattle.std.specs.Prelude.{◌≡◌, List, ◌⊎◌, ℕ, ◌*◌, ◌-◌, ◌/◌, ◌<◌, ◌≤◌, ◌^◌, length, take, drop, ℤ, pos, ◌*ℤ◌, ◌≤ℤ◌, ◌<ℤ◌}
use Rattle.std.proofs.Common.{sym, ◌∙◌, ap, subst, inl, inr, arith, take_all}
use Rattle.std.proofs.Math.Option.{none}
use Rattle.definitions.specs.Limits.{Limits, base, record_words}
use Rattle.definitions.specs.Jacobian.{jacobian}
use Rattle.definitions.specs.Bounds.{low, high}
use Rattle.definitions.specs.Record.{record_of, kind_word}
use Rattle.definitions.specs.Mesh.{refusal, points_of, out_of_range, fault_of, report_after, bounds, bounds_of}
use Rattle.verdict_theory.proofs.DepthMonotone.{depth_monotone}
use Rattle.verdict_theory.specs.Elements.{element_points, report_length}
use Rattle.mesh_checks.specs.Refusals.{accepted_mesh}
use Rattle.mesh_elements.specs.Elements.{whole_element}
use Rattle.inspector.specs.Reports.{report_part}
use Rattle.inspection_answers.specs.Answers.{accepted_space, bounds_inside}
use Rattle.inspector.specs.Own.{in_order, own_points, own_element, own_mesh_law}

-- A mesh as a caller hands it in, with its report space.
pub record Mesh : Type 0 where
  pub coordinates : List ℤ
  pub indices : List ℕ
  pub space : List ℤ
  pub depth : ℕ

-- the eight indices of element e, and its words in the report space after an inspection
abbrev pub indices_of : Mesh → ℕ → List ℕ
indices_of m e = take 8 (drop (8 * e) m.indices)

abbrev pub words_of : Limits → Mesh → ℕ → List ℤ
words_of L m e = take record_words (drop (record_words * e) (report_after L m.coordinates m.indices m.space m.depth))

-- Element e of an accepted mesh has the points xs and is not refused.
pub record Stands (L : Limits) (m : Mesh) (e : ℕ) (xs : List ℤ) : Type 0 where
  pub is_accepted : refusal L (length m.coordinates) (length m.indices) (length m.space) m.depth ≡ none
  pub is_element : e < length m.indices / 8
  pub not_refused : fault_of L m.coordinates (indices_of m e) ≡ none
  pub points : points_of m.coordinates (indices_of m e) ≡ xs

-- "inspection of an accepted mesh at that depth writes it for every element with these points that isn't refused, whatever else the mesh holds"
pub words_are : (L : Limits) (m : Mesh) (e : ℕ) (xs : List ℤ) → Stands L m e xs → words_of L m e ≡ record_of xs m.depth
words_are L m e xs h = ap (λ (r : List ℤ). take record_words (drop (record_words * e) r)) (accepted_space L m.coordinates m.indices m.space m.depth h.is_accepted)
    ∙ report_part L m.coordinates m.indices m.depth e h.is_element
    ∙ element_points L m.coordinates (indices_of m e) m.depth h.not_refused ∙ ap (λ (ys : List ℤ). record_of ys m.depth) h.points

-- The bounds service at two depths, the first no greater: "the low bound does not fall and the high bound does not rise, at one scale".
pub record BoundsKept (L : Limits) (xs : List ℤ) (D D' : ℕ) : Type 0 where
  pub here : bounds_of L xs D ≡ bounds (low xs D) (high xs D)
  pub there : bounds_of L xs D' ≡ bounds (low xs D') (high xs D')
  pub low_bound : (pos (64 ^ (D' - D)) *ℤ low xs D) ≤ℤ low xs D'
  pub high_bound : high xs D' ≤ℤ (pos (64 ^ (D' - D)) *ℤ high xs D)

pub bounds_kept : (L : Limits) (xs : List ℤ) (D D' : ℕ) → D ≤ D' → D' ≤ L.depth → out_of_range L xs ≡ none → BoundsKept L xs D D'
bounds_kept L xs D D' l deep inside = let look = depth_monotone xs D D' l in record {
  here = bounds_inside L xs D (omega arith) inside;
  there = bounds_inside L xs D' deep inside;
  low_bound = look.low_bound;
  high_bound = look.high_bound;
}

-- Two looks at the same points, the first no deeper: in meshes m and m', and by the bounds service.
pub record Kept (L : Limits) (xs : List ℤ) (m : Mesh) (e : ℕ) (m' : Mesh) (e' : ℕ) : Type 0 where
  pub same : (kind_word (words_of L m e) ≡ pos 0) ⊎ (kind_word (words_of L m e) ≡ pos 1) → words_of L m' e' ≡ words_of L m e
  pub positive : (kind_word (words_of L m e) ≡ pos 0) ⊎ (kind_word (words_of L m' e') ≡ pos 0) → (M a b c : ℕ) → a ≤ 2 ^ M → b ≤ 2 ^ M → c ≤ 2 ^ M → pos 0 <ℤ jacobian xs M a b c
  pub both_bounds : BoundsKept L xs m.depth m'.depth

pub kept : (L : Limits) (xs : List ℤ) (m : Mesh) (e : ℕ) (m' : Mesh) (e' : ℕ) → Stands L m e xs → Stands L m' e' xs → m.depth ≤ m'.depth → Kept L xs m e m' e'
kept L xs m e m' e' h h' l =
    let look = depth_monotone xs m.depth m'.depth l in
    let w = words_are L m e xs h in
    let w' = words_are L m' e' xs h' in
    record {
      same = λ s. w' ∙ look.same (settled s w) ∙ sym w;
      positive = λ s. look.positive (either s w w');
      both_bounds = bounds_kept L xs m.depth m'.depth l deep inside;
    }
  where
    settled : (kind_word (words_of L m e) ≡ pos 0) ⊎ (kind_word (words_of L m e) ≡ pos 1) → words_of L m e ≡ record_of xs m.depth → (kind_word (record_of xs m.depth) ≡ pos 0) ⊎ (kind_word (record_of xs m.depth) ≡ pos 1)
    settled (inl s) w = inl (ap kind_word (sym w) ∙ s)
    settled (inr s) w = inr (ap kind_word (sym w) ∙ s)

    either : (kind_word (words_of L m e) ≡ pos 0) ⊎ (kind_word (words_of L m' e') ≡ pos 0) → words_of L m e ≡ record_of xs m.depth → words_of L m' e' ≡ record_of xs m'.depth → (kind_word (record_of xs m.depth) ≡ pos 0) ⊎ (kind_word (record_of xs m'.depth) ≡ pos 0)
    either (inl s) w w' = inl (ap kind_word (sym w) ∙ s)
    either (inr s) w w' = inr (ap kind_word (sym w') ∙ s)

    deep : m'.depth ≤ L.depth
    deep = (accepted_mesh L (length m'.coordinates) (length m'.indices) (length m'.space) m'.depth h'.is_accepted).depth

    inside : out_of_range L xs ≡ none
    inside = ap (out_of_range L) (sym h.points) ∙ (whole_element L m.coordinates (indices_of m e) h.not_refused).points

-- ---- from the points and two depths alone
-- Eight points as a mesh of their own: eight nodes, and one element that names them in order.
abbrev pub own_mesh : List ℤ → List ℤ → ℕ → Mesh
own_mesh xs space D = record { coordinates = xs; indices = in_order; space = space; depth = D }

-- Any eight points within the limits stand in it, at every depth within the limits and in any space for one record.
pub own_stands : (L : Limits) → 8 ≤ L.nodes → 1 ≤ L.elements → (xs space : List ℤ) (D : ℕ) → length xs ≡ 24 → out_of_range L xs ≡ none → D ≤ L.depth → length space ≡ record_words → Stands L (own_mesh xs space D) 0 xs
own_stands L nodes elements xs space D n inside deep room = record {
  is_accepted = own_mesh_law xs n L (length space) D deep nodes elements room;
  is_element = omega arith;
  not_refused = own_element xs n L inside;
  points = own_points xs n;
}

-- what an inspection of that mesh writes: the one record
abbrev pub written : Limits → List ℤ → List ℤ → ℕ → List ℤ
written L xs space D = report_after L xs in_order space D

own_words : (L : Limits) (xs space : List ℤ) (D : ℕ) → Stands L (own_mesh xs space D) 0 xs → words_of L (own_mesh xs space D) 0 ≡ written L xs space D
own_words L xs space D h = take_all record_words (written L xs space D) (omega (arith, ap length (accepted_space L xs in_order space D h.is_accepted) ∙ report_length L xs in_order D))

-- Promise 3 for any 24 coordinates within the limits and two depths, the first no greater: `inspect` of their own mesh at both, and `bounds_of`.
pub record PointsKept (L : Limits) (xs space space' : List ℤ) (D D' : ℕ) : Type 0 where
  pub same : (kind_word (written L xs space D) ≡ pos 0) ⊎ (kind_word (written L xs space D) ≡ pos 1) → written L xs space' D' ≡ written L xs space D
  pub positive : (kind_word (written L xs space D) ≡ pos 0) ⊎ (kind_word (written L xs space' D') ≡ pos 0) → (M a b c : ℕ) → a ≤ 2 ^ M → b ≤ 2 ^ M → c ≤ 2 ^ M → pos 0 <ℤ jacobian xs M a b c
  pub both_bounds : BoundsKept L xs D D'

pub points_kept : (L : Limits) → 8 ≤ L.nodes → 1 ≤ L.elements → (xs space space' : List ℤ) (D D' : ℕ) → length xs ≡ 24 → out_of_range L xs ≡ none → D ≤ D' → D' ≤ L.depth
    → length space ≡ record_words → length space' ≡ record_words → PointsKept L xs space space' D D'
points_kept L nodes elements xs space space' D D' n inside l deep room room' =
    let m = own_mesh xs space D in
    let m' = own_mesh xs space' D' in
    let stands = own_stands L nodes elements xs space D n inside (omega arith) room in
    let stands' = own_stands L nodes elements xs space' D' n inside deep room' in
    let look = kept L xs m 0 m' 0 stands stands' l in
    let w = own_words L xs space D stands in
    let w' = own_words L xs space' D' stands' in
    record {
      same = subst (λ (r : List ℤ × List ℤ). (kind_word r.0 ≡ pos 0) ⊎ (kind_word r.0 ≡ pos 1) → r.1 ≡ r.0) (λ i. (w i, w' i)) look.same;
      positive = subst (λ (r : List ℤ × List ℤ). (kind_word r.0 ≡ pos 0) ⊎ (kind_word r.1 ≡ pos 0) → (M a b c : ℕ) → a ≤ 2 ^ M → b ≤ 2 ^ M → c ≤ 2 ^ M → pos 0 <ℤ jacobian xs M a b c) (λ i. (w i, w' i)) look.positive;
      both_bounds = look.both_bounds;
    }

-- At the limits of document 01: nothing is left to assume but the points, the two depths and space for one record.
pub points_kept_base : (xs space space' : List ℤ) (D D' : ℕ) → length xs ≡ 24 → out_of_range base xs ≡ none → D ≤ D' → D' ≤ base.depth → length space ≡ record_words → length space' ≡ record_words → PointsKept base xs space space' D D'
points_kept_base = points_kept base (omega arith) (omega arith)
