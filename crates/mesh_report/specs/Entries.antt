-- The report as it is written, element after element: the records so far, their counts, and the space after them.
use Rattle.std.specs.Prelude.{◌≡◌, refl, true, ℕ, zero, suc, ◌+◌, ◌*◌, ◌-◌, ◌/◌, ◌^◌, ◌<◌, ◌≤◌, take, drop, get_or, ℤ}
use Rattle.std.specs.Simd.{first_chunks}
use Rattle.std.proofs.Common.{sym, ◌∙◌, ap₂, zero-le, length-append, length-drop, drop_of_length-le, length-take-le, drop-drop}
use Rattle.std.proofs.Math.Path.{ap}
use mathlib.Core.List.{List, [], ◌∷◌, ◌++◌}
use native.Mathlib.Omega.{arith}
use Rattle.std.proofs.Math.ListN.{length}
use Rattle.foundation.specs.Lists.{all_tabulate, concat_map, concat_map_append, append_nil, tabulate, length_tabulate}
use Rattle.definitions.specs.Limits.{Limits, record_words}
use Rattle.definitions.specs.Record.{kind_word}
use Rattle.definitions.specs.Mesh.{Counts, element_record, records, report, counts_of}
use Rattle.verdict_theory.specs.Kinds.{HasKind, is_kind, counted, counts_last, counts_total, counts_total_law}
use Rattle.verdict_theory.specs.Elements.{element_length, element_kind, concat_length}
use Rattle.mesh_report.specs.Report.{put_next}

-- ---- one more at the end
tabulate_last : {A : Type 0} (f : ℕ → A) (i n : ℕ) → tabulate f i (n + 1) ≡ tabulate f i n ++ (f (i + n) ∷ [])
tabulate_last f i n = let p : n + 1 ≡ suc n = omega arith in ap (tabulate f i) p ∙ go i n
  where
    go : (i n : ℕ) → tabulate f i (suc n) ≡ tabulate f i n ++ (f (i + n) ∷ [])
    go i zero = let p : i ≡ i + 0 = omega arith in ap (λ (k : ℕ). f k ∷ []) p
    go i (suc n) = let p : suc i + n ≡ i + suc n = omega arith in ap (λ l. f i ∷ l) (go (suc i) n ∙ ap (λ (k : ℕ). tabulate f (suc i) n ++ (f k ∷ [])) p)

concat_last : (rs : List (List ℤ)) (r : List ℤ) → concat_map (λ x. x) (rs ++ (r ∷ [])) ≡ concat_map (λ x. x) rs ++ r
concat_last rs r = concat_map_append (λ x. x) rs (r ∷ []) ∙ ap (λ (l : List ℤ). concat_map (λ x. x) rs ++ l) (append_nil r)

module _ (L : Limits) (coordinates : List ℤ) (indices : List ℕ) (D : ℕ) where
  -- the record of element e, the first e records, and the words that they take
  abbrev pub record_at : ℕ → List ℤ
  record_at e = element_record L coordinates (take 8 (drop (8 * e) indices)) D

  abbrev first_records : ℕ → List (List ℤ)
  first_records e = tabulate record_at 0 e

  abbrev written : ℕ → List ℤ
  written e = concat_map (λ r. r) (first_records e)

  -- the report space when the first e records are written
  abbrev space_at : ℕ → List ℤ → List ℤ
  space_at e space = written e ++ drop (record_words * e) space

  written_length_law : (e : ℕ) → length (written e) ≡ record_words * e
  written_length_law e = concat_length (first_records e) (all_tabulate (λ r. length r ≡ record_words) record_at 0 e (λ k _ _. element_length L coordinates (take 8 (drop (8 * k) indices)) D)) ∙ ap (λ (n : ℕ). record_words * n) (length_tabulate record_at 0 e)

  space_length : (e : ℕ) (space : List ℤ) → record_words * e ≤ length space → length (space_at e space) ≡ length space
  space_length e space h = simp (length-append, length-drop) (omega (arith, written_length_law e))

  written_next : (e : ℕ) → written (e + 1) ≡ written e ++ record_at e
  written_next e = ap (concat_map (λ r. r)) (tabulate_last record_at 0 e) ∙ concat_last (first_records e) (record_at (0 + e)) ∙ ap (λ (k : ℕ). written e ++ record_at k) zero_plus
    where
      zero_plus : 0 + e ≡ e
      zero_plus = omega arith

  counts_next : (e : ℕ) → counts_of (first_records (e + 1)) ≡ counted (kind_word (record_at e)) (counts_of (first_records e))
  counts_next e = ap counts_of (tabulate_last record_at 0 e) ∙ counts_last (first_records e) (record_at (0 + e)) ∙ ap (λ (k : ℕ). counted (kind_word (record_at k)) (counts_of (first_records e))) zero_plus
    where
      zero_plus : 0 + e ≡ e
      zero_plus = omega arith

  -- all of them
  space_last : (e : ℕ) (space : List ℤ) → e ≡ length indices / 8 → length space ≡ record_words * (length indices / 8) → space_at e space ≡ report L coordinates indices D
  unfolding report records
  space_last e space h k = let p : length space ≤ record_words * e = omega arith in ap (λ (l : List ℤ). written e ++ l) (drop_of_length-le space p) ∙ append_nil (written e) ∙ ap written h

  counts_last_of : (e : ℕ) → e ≡ length indices / 8 → counts_of (first_records e) ≡ counts_of (records L coordinates indices D)
  unfolding records
  counts_last_of e h = ap (λ (n : ℕ). counts_of (first_records n)) h

-- the eight indices of element e among the index run's eights
pub chunk_of : (indices : List ℕ) (n e : ℕ) → e < n → get_or (first_chunks 8 n indices) e [] ≡ take 8 (drop (8 * e) indices)
chunk_of indices zero e h = absurd (omega arith)
chunk_of indices (suc n) zero h = refl
chunk_of indices (suc n) (suc e) h = let p : 8 + 8 * e ≡ 8 * suc e = omega arith in
    chunk_of (drop 8 indices) n e (omega arith) ∙ ap (take 8) (drop-drop (8 * e) 8 indices ∙ ap (λ (k : ℕ). drop k indices) p)

-- the part of the index run that is lent, cut out by its places
pub part_of : (indices : List ℕ) (e : ℕ) → take (8 * e + 8 - 8 * e) (drop (8 * e) indices) ≡ take 8 (drop (8 * e) indices)
part_of indices e = let p : 8 * e + 8 - 8 * e ≡ 8 = omega arith in ap (λ (n : ℕ). take n (drop (8 * e) indices)) p

pub part_length : (indices : List ℕ) (e : ℕ) → e < length indices / 8 → length (take (8 * e + 8 - 8 * e) (drop (8 * e) indices)) ≡ 8
part_length indices e h = ap length (part_of indices e) ∙ length-take-le 8 (drop (8 * e) indices) (simp length-drop (omega arith))

module _ (L : Limits) (coordinates : List ℤ) (indices : List ℕ) (D : ℕ) where
  -- as many are counted as are written
  counted_so_far : (e : ℕ) → counts_total (counts_of (first_records L coordinates indices D e)) ≡ e
  counted_so_far e = counts_total_law (first_records L coordinates indices D e) (all_tabulate HasKind (record_at L coordinates indices D) 0 e (λ k _ _. element_kind L coordinates (take 8 (drop (8 * k) indices)) D)) ∙ length_tabulate (record_at L coordinates indices D) 0 e

  -- record e put after those before it
  put_record : (e : ℕ) (space now words : List ℤ) → now ≡ space_at L coordinates indices D e space → words ≡ record_at L coordinates indices D e
      → take (record_words * e) now ++ words ++ drop (record_words * e + record_words) now ≡ space_at L coordinates indices D (e + 1) space
  put_record e space now words h k = ap₂ (λ (n w : List ℤ). take (record_words * e) n ++ w ++ drop (record_words * e + record_words) n) h k
      ∙ put_next (written L coordinates indices D e) space (record_at L coordinates indices D e) e (written_length_law L coordinates indices D e)
      ∙ ap (λ (l : List ℤ). l ++ drop (record_words * (e + 1)) space) (sym (written_next L coordinates indices D e))

-- ---- the report space and the counts between two elements
module _ (L : Limits) (coordinates : List ℤ) (indices : List ℕ) (D : ℕ) (space : List ℤ) where
  -- the first e records are written and counted, and the space after them is as it was
  pub record Entered (e : ℕ) (now : List ℤ) (counts : Counts) : Type 0 where
    pub so_many : e ≤ length indices / 8
    pub space_is : now ≡ space_at L coordinates indices D e space
    pub counts_are : counts ≡ counts_of (first_records L coordinates indices D e)

  pub entered_none : Entered 0 space (record { valid = 0; invalid = 0; undecided = 0; refused = 0 })
  entered_none = record { so_many = zero-le; space_is = refl; counts_are = refl }

  module _ (room : length space ≡ record_words * (length indices / 8)) {e : ℕ} {now : List ℤ} {counts : Counts} (h : Entered e now counts) where
    pub entered_length : length now ≡ length space
    entered_length = ap length h.space_is ∙ space_length L coordinates indices D e space (omega (arith, h.so_many, room))

    -- all of them
    pub entered_all : length indices / 8 ≤ e → (counts ≡ counts_of (records L coordinates indices D)) × (now ≡ report L coordinates indices D)
    entered_all last = let all : e ≡ length indices / 8 = omega (arith, h.so_many, last) in
        (h.counts_are ∙ counts_last_of L coordinates indices D e all, h.space_is ∙ space_last L coordinates indices D e space all room)

    module _ (more : e < length indices / 8) {words : List ℤ} (w : words ≡ record_at L coordinates indices D e) where
      -- the record of element e can be entered
      pub entered_room : L.elements < 2 ^ 32 - 1 → length indices / 8 ≤ L.elements → (is_kind (kind_word words) ≡ true) × (counts_total counts < 2 ^ 32 - 1) × (record_words * e + record_words ≤ length now)
      entered_room few small = (
        ap (λ (r : List ℤ). is_kind (kind_word r)) w ∙ element_kind L coordinates (take 8 (drop (8 * e) indices)) D,
        omega (arith, few, small, more, ap counts_total h.counts_are ∙ counted_so_far L coordinates indices D e),
        omega (arith, entered_length, room, more),
      )

      -- and has been
      pub entered_next : {now' : List ℤ} → now' ≡ take (record_words * e) now ++ words ++ drop (record_words * e + record_words) now → {counts' : Counts} → counts' ≡ counted (kind_word words) counts → Entered (e + 1) now' counts'
      entered_next p q = record {
        so_many = omega (arith, more);
        space_is = p ∙ put_record L coordinates indices D e space now words h.space_is w;
        counts_are = q ∙ (λ i. counted (kind_word (w i)) (h.counts_are i)) ∙ sym (counts_next L coordinates indices D e);
      }
