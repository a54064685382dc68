-- The elements of a mesh: promise 3 for what the report says of each; the report's words and the counts.
use Rattle.std.specs.Prelude.{◌≡◌, refl, List, [], ◌∷◌, ℕ, ◌*◌, ◌/◌, ◌≤◌, take, drop, ℤ, pos}
use Rattle.std.proofs.Common.{sym, ◌∙◌, subst, arith, length-append}
use Rattle.std.proofs.Math.Path.{ap}
use Rattle.std.proofs.Math.Option.{Option, none, some}
use Rattle.std.proofs.Math.ListN.{length}
use Rattle.foundation.specs.Lists.{All, all_tabulate, concat_map, length_tabulate}
use Rattle.definitions.specs.Limits.{Limits, record_words}
use Rattle.definitions.specs.Verdict.{Verdict, valid, invalid, undecided, verdict, opened}
use Rattle.definitions.specs.Record.{Fault, missing, twice, outside, fault_words, verdict_words, record_of, kind_word}
use Rattle.definitions.specs.Mesh.{points_of, fault_of, element_record, records, report, counts_of}
use Rattle.verdict_theory.specs.Kinds.{HasKind, counts_total, counts_total_law}
use Rattle.verdict_theory.specs.Stable.{Way, is_invalid, is_valid, is_undecided, way, invalid_same, valid_same, undecided_verdict}

-- an element's record: that of its fault, or else that of its points
pub element_fault : (L : Limits) (coordinates : List ℤ) (ix : List ℕ) (D : ℕ) (f : Fault) → fault_of L coordinates ix ≡ some f → element_record L coordinates ix D ≡ fault_words f
unfolding element_record
element_fault L coordinates ix D f e = ap (λ (o : Option Fault). elim o as (λ _. List ℤ) [ some f ↦ fault_words f | none ↦ record_of (points_of coordinates ix) D ]) e

pub element_points : (L : Limits) (coordinates : List ℤ) (ix : List ℕ) (D : ℕ) → fault_of L coordinates ix ≡ none → element_record L coordinates ix D ≡ record_of (points_of coordinates ix) D
unfolding element_record
element_points L coordinates ix D e = ap (λ (o : Option Fault). elim o as (λ _. List ℤ) [ some f ↦ fault_words f | none ↦ record_of (points_of coordinates ix) D ]) e

-- a record that is not undecided stays the same
pub record_same : (xs : List ℤ) (D D' : ℕ) → D ≤ D' → (kind_word (record_of xs D) ≡ pos 2 → ⊥) → record_of xs D' ≡ record_of xs D
unfolding record_of
record_same xs D D' l h = go (way xs D)
  where
    go : Way xs D → record_of xs D' ≡ record_of xs D
    go (is_invalid f k) = invalid_same xs D D' l f k
    go (is_valid k) = valid_same xs D D' l k
    go (is_undecided f k) = absurd (h (ap (λ (v : Verdict). kind_word (verdict_words v (opened xs D))) (undecided_verdict xs D f k)))

pub element_same : (L : Limits) (coordinates : List ℤ) (ix : List ℕ) (D D' : ℕ) → D ≤ D' → (kind_word (element_record L coordinates ix D) ≡ pos 2 → ⊥) → element_record L coordinates ix D' ≡ element_record L coordinates ix D
element_same L coordinates ix D D' l h = go (fault_of L coordinates ix) refl
  where
    go : (o : Option Fault) → fault_of L coordinates ix ≡ o → element_record L coordinates ix D' ≡ element_record L coordinates ix D
    go (some f) e = element_fault L coordinates ix D' f e ∙ sym (element_fault L coordinates ix D f e)
    go none e = element_points L coordinates ix D' e ∙ record_same (points_of coordinates ix) D D' l (λ q. h (ap kind_word (element_points L coordinates ix D e) ∙ q)) ∙ sym (element_points L coordinates ix D e)

-- ---- a record's words
record_length : (xs : List ℤ) (D : ℕ) → length (record_of xs D) ≡ record_words
unfolding record_of
record_length xs D = go (verdict xs D)
  where
    go : (v : Verdict) → length (verdict_words v (opened xs D)) ≡ record_words
    go (valid l) = refl
    go (invalid l f) = refl
    go (undecided l f) = refl

fault_length : (f : Fault) → length (fault_words f) ≡ record_words
fault_length (missing p i) = refl
fault_length (twice p q) = refl
fault_length (outside p e) = refl

pub element_length : (L : Limits) (coordinates : List ℤ) (ix : List ℕ) (D : ℕ) → length (element_record L coordinates ix D) ≡ record_words
element_length L coordinates ix D = go (fault_of L coordinates ix) refl
  where
    go : (o : Option Fault) → fault_of L coordinates ix ≡ o → length (element_record L coordinates ix D) ≡ record_words
    go (some f) e = ap length (element_fault L coordinates ix D f e) ∙ fault_length f
    go none e = ap length (element_points L coordinates ix D e) ∙ record_length (points_of coordinates ix) D

pub concat_length : (rs : List (List ℤ)) → All (λ r. length r ≡ record_words) rs → length (concat_map (λ r. r) rs) ≡ record_words * length rs
concat_length [] h = omega arith
concat_length (r ∷ rs) h = simp length-append (omega (arith, h.0, concat_length rs h.1))

-- every record has a kind
record_kind : (xs : List ℤ) (D : ℕ) → HasKind (record_of xs D)
unfolding record_of
record_kind xs D = go (verdict xs D)
  where
    go : (v : Verdict) → HasKind (verdict_words v (opened xs D))
    go (valid l) = refl
    go (invalid l f) = refl
    go (undecided l f) = refl

fault_kind : (f : Fault) → HasKind (fault_words f)
fault_kind (missing p i) = refl
fault_kind (twice p q) = refl
fault_kind (outside p e) = refl

pub element_kind : (L : Limits) (coordinates : List ℤ) (ix : List ℕ) (D : ℕ) → HasKind (element_record L coordinates ix D)
element_kind L coordinates ix D = go (fault_of L coordinates ix) refl
  where
    go : (o : Option Fault) → fault_of L coordinates ix ≡ o → HasKind (element_record L coordinates ix D)
    go (some f) e = subst HasKind (sym (element_fault L coordinates ix D f e)) (fault_kind f)
    go none e = subst HasKind (sym (element_points L coordinates ix D e)) (record_kind (points_of coordinates ix) D)

module _ (L : Limits) (coordinates : List ℤ) (indices : List ℕ) (D : ℕ) where
  pub records_length : length (records L coordinates indices D) ≡ length indices / 8
  unfolding records
  records_length = length_tabulate (λ e. element_record L coordinates (take 8 (drop (8 * e) indices)) D) 0 (length indices / 8)

  records_sized : All (λ r. length r ≡ record_words) (records L coordinates indices D)
  unfolding records
  records_sized = all_tabulate (λ r. length r ≡ record_words) (λ e. element_record L coordinates (take 8 (drop (8 * e) indices)) D) 0 (length indices / 8) (λ e _ _. element_length L coordinates (take 8 (drop (8 * e) indices)) D)

  pub report_length : length (report L coordinates indices D) ≡ record_words * (length indices / 8)
  unfolding report
  report_length = concat_length (records L coordinates indices D) records_sized ∙ ap (λ (n : ℕ). record_words * n) records_length

  pub records_kinds : All HasKind (records L coordinates indices D)
  unfolding records
  records_kinds = all_tabulate HasKind (λ e. element_record L coordinates (take 8 (drop (8 * e) indices)) D) 0 (length indices / 8) (λ e _ _. element_kind L coordinates (take 8 (drop (8 * e) indices)) D)

  pub mesh_total : counts_total (counts_of (records L coordinates indices D)) ≡ length indices / 8
  mesh_total = counts_total_law (records L coordinates indices D) records_kinds ∙ records_length
