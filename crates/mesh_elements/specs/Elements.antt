-- What follows of an element that is not refused, and of one that is, at any limits. Assumes nothing.
use Rattle.std.specs.Prelude.{◌≡◌, List, ℕ, suc, ◌+◌, ◌-◌, ◌/◌, ◌%◌, ◌<◌, ◌≤◌, get_or, length, ℤ, pos, nat_abs}
use Rattle.std.proofs.Math.Path.{refl, sym}
use Rattle.std.proofs.Common.{◌∙◌, ap, subst, add-one, arith}
use Rattle.std.proofs.Math.Option.{Option, none, some}
use Rattle.definitions.specs.Limits.{Limits}
use Rattle.definitions.specs.Record.{Fault, missing, twice, outside}
use Rattle.definitions.specs.Mesh.{missing_index, named_twice, points_of, out_of_range, fault_by, fault_of}
use Rattle.mesh_points.specs.Search.{never}
use Rattle.mesh_indices.specs.Pairs.{LowestPair, lowest_pair, distinct}
use Rattle.mesh_elements.specs.Meaning.{points_after, points_left, refused_words}

-- ---- why an element is refused, by what the three searches find
fault_by_none : (ix : List ℕ) (m t o : Option ℕ) → fault_by ix m t o ≡ none → (m ≡ none) × (t ≡ none) × (o ≡ none)
fault_by_none ix none none none e = (refl, refl, refl)
fault_by_none ix none none (some k) e = never e
fault_by_none ix none (some k) o e = never e
fault_by_none ix (some k) t o e = never e

-- a word of its record
abbrev pub word : ℕ → Option Fault → ℕ
word k o = nat_abs (get_or (refused_words o) k (pos 0))

-- the pair that refuses it
fault_by_twice : (ix : List ℕ) (m t o : Option ℕ) (p q : ℕ) → fault_by ix m t o ≡ some (twice p q) → named_twice ix ≡ t → (1 ≤ p) × LowestPair ix (p - 1) (q - 1)
fault_by_twice ix none none none p q e n = never (sym e)
fault_by_twice ix none none (some k) p q e n = let z : ◌≡◌ {A = ℕ} 6 7 = ap (word 0) e in absurd (omega arith)
fault_by_twice ix none (some k) o p q e n =
    let lower : suc (k / 8) ≡ p = ap (word 1) e in
    let higher : suc (k % 8) ≡ q = ap (word 2) e in
    let i : k / 8 ≡ p - 1 = omega arith in
    let j : k % 8 ≡ q - 1 = omega arith in
    (omega arith, subst (λ (z : ℕ × ℕ). LowestPair ix z.0 z.1) (λ t. (i t, j t)) (lowest_pair ix k n))
fault_by_twice ix (some k) t o p q e n = let z : ◌≡◌ {A = ℕ} 5 7 = ap (word 0) e in absurd (omega arith)

-- where its points go
module _ (coordinates : List ℤ) (ix : List ℕ) (before : List ℤ) where
  abbrev placed : Option ℕ → List ℤ
  placed m = elim m [ some k ↦ before | none ↦ points_of coordinates ix ]

  pub points_kept : (k : ℕ) → missing_index (length coordinates / 3) ix ≡ some k → before ≡ points_after coordinates ix before
  unfolding points_after
  points_kept k m = sym (ap placed m)

  pub points_gathered : missing_index (length coordinates / 3) ix ≡ none → points_of coordinates ix ≡ points_after coordinates ix before
  unfolding points_after
  points_gathered m = sym (ap placed m)

-- where its points go if they are looked up after its pairs
module _ (coordinates : List ℤ) (ix : List ℕ) (before : List ℤ) where
  abbrev left_by : Option ℕ → Option ℕ → List ℤ
  left_by m t = elim m [ some k ↦ before | none ↦ elim t [ some k ↦ before | none ↦ points_of coordinates ix ] ]

  pub left_missing : (k : ℕ) → missing_index (length coordinates / 3) ix ≡ some k → before ≡ points_left coordinates ix before
  unfolding points_left
  left_missing k m = sym (ap (λ (o : Option ℕ). left_by o (named_twice ix)) m)

  pub left_twice : (k : ℕ) → missing_index (length coordinates / 3) ix ≡ none → named_twice ix ≡ some k → before ≡ points_left coordinates ix before
  unfolding points_left
  left_twice k m t = sym (λ i. left_by (m i) (t i))

  pub left_given : missing_index (length coordinates / 3) ix ≡ none → named_twice ix ≡ none → points_of coordinates ix ≡ points_left coordinates ix before
  unfolding points_left
  left_given m t = sym (λ i. left_by (m i) (t i))

-- What holds of an element that is not refused.
pub record Whole (L : Limits) (coordinates : List ℤ) (ix : List ℕ) : Type 0 where
  pub named : missing_index (length coordinates / 3) ix ≡ none
  pub once : named_twice ix ≡ none
  pub points : out_of_range L (points_of coordinates ix) ≡ none

module _ (L : Limits) (coordinates : List ℤ) (ix : List ℕ) where
  fault_by_law : fault_of L coordinates ix ≡ fault_by ix (missing_index (length coordinates / 3) ix) (named_twice ix) (out_of_range L (points_of coordinates ix))
  unfolding fault_of
  fault_by_law = refl

  pub fault_missing : (k : ℕ) → missing_index (length coordinates / 3) ix ≡ some k → fault_of L coordinates ix ≡ some (missing (k + 1) (get_or ix k 0))
  fault_missing k m = rw (fault_by_law, m, add-one)

  pub fault_twice : (k : ℕ) → missing_index (length coordinates / 3) ix ≡ none → named_twice ix ≡ some k → fault_of L coordinates ix ≡ some (twice (k / 8 + 1) (k % 8 + 1))
  fault_twice k m t = rw (fault_by_law, m, t) (simp add-one)

  pub fault_outside : (k : ℕ) → missing_index (length coordinates / 3) ix ≡ none → named_twice ix ≡ none → out_of_range L (points_of coordinates ix) ≡ some k
      → fault_of L coordinates ix ≡ some (outside (k / 3 + 1) (k % 3 + 1))
  fault_outside k m t o = rw (fault_by_law, m, t, o) (simp add-one)

  pub fault_none : missing_index (length coordinates / 3) ix ≡ none → named_twice ix ≡ none → out_of_range L (points_of coordinates ix) ≡ none → fault_of L coordinates ix ≡ none
  fault_none m t o = rw (fault_by_law, m, t, o)

  pub whole_element : fault_of L coordinates ix ≡ none → Whole L coordinates ix
  whole_element e =
      let found = fault_by_none ix (missing_index (length coordinates / 3) ix) (named_twice ix) (out_of_range L (points_of coordinates ix)) (sym fault_by_law ∙ e) in
      record { named = found.0; once = found.1; points = found.2 }

  -- refusal 7 names two places with one index, and no pair comes before them
  pub refused_pair : (p q : ℕ) → fault_of L coordinates ix ≡ some (twice p q) → (1 ≤ p) × LowestPair ix (p - 1) (q - 1)
  refused_pair p q e = fault_by_twice ix (missing_index (length coordinates / 3) ix) (named_twice ix) (out_of_range L (points_of coordinates ix)) p q (sym fault_by_law ∙ e) refl

  -- one index in two places is refused with 7 wherever no node is missing
  pub pair_refused : missing_index (length coordinates / 3) ix ≡ none → (a b : ℕ) → a < b → b < 8 → get_or ix a 0 ≡ get_or ix b 0 → word 0 (fault_of L coordinates ix) ≡ 7
  pair_refused m a b l h e = go (named_twice ix) refl
    where
      go : (t : Option ℕ) → named_twice ix ≡ t → word 0 (fault_of L coordinates ix) ≡ 7
      go none n = absurd (distinct ix n a b l h e)
      go (some k) n = ap (word 0) (fault_twice k m n)

  -- so an element that is not refused has eight different nodes
  pub distinct_nodes : fault_of L coordinates ix ≡ none → (a b : ℕ) → a < b → b < 8 → get_or ix a 0 ≡ get_or ix b 0 → ⊥
  distinct_nodes e = distinct ix (whole_element e).once
