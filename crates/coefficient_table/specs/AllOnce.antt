-- Document 02, No. 3: "the 27 lists are shown over the whole table to hold all 112 such places, each once, and no other".
use Rattle.std.specs.Prelude.{◌≡◌, refl, Bool, true, false, List, [], ◌∷◌, ◌++◌, ℕ, zero, suc, ◌+◌, ◌*◌, ◌<◌, ◌≤◌, eqb, get_or, drop, length, ℤ, pos, negsuc}
use Rattle.std.proofs.Common.{◌∙◌, ap, ap₂, arith, eq-eqb, ne_eqb, length-take, get_or-take, get_or-drop}
use Rattle.std.proofs.Math.ListN.{get_or-eq_default}
use Rattle.foundation.specs.Lists.{All, concat_map, tabulate, all_tabulate}
use Rattle.definitions.specs.Coefficients.{table, row}
use Rattle.coefficient_table.specs.Sparse.{Entry, is_zero, kept, non_zero_from, sparse_row, AreSparseRows, AreSparseRuns, held_row}
use Rattle.coefficient_table.specs.SparseRuns.{transfer, rows_held}

-- the numbers that a list has at place k
abbrev pub values_at : ℕ → List Entry → List ℤ
values_at k [] = []
values_at k (e ∷ es) = elim (eqb e.0 k) [ true ↦ e.1 ∷ values_at k es | false ↦ values_at k es ]

-- a number by itself, or nothing if it is 0
abbrev pub unless_zero : ℤ → List ℤ
unless_zero c = elim (is_zero c) [ true ↦ [] | false ↦ c ∷ [] ]

-- of 27 lists
pub record AllOnce (rows : ℕ → List Entry) : Type 0 where
  -- "112": so many numbers of the table are not 0, and so many entries the 27 lists have, one after the other
  pub number : (length (non_zero_from 0 table) ≡ 112) × (length (concat_map rows (tabulate (λ n. n) 0 27)) ≡ 112)
  -- laid end to end they are all the entries of the table's rows
  pub whole : concat_map rows (tabulate (λ n. n) 0 27) ≡ concat_map sparse_row (tabulate (λ n. n) 0 27)
  -- "all .. such places, each once, and no other": at each place of its row a list has the table's number, once, or nothing where that is 0
  pub once : (n k : ℕ) → n < 27 → k < 20 → values_at k (rows n) ≡ unless_zero (get_or table (20 * n + k) (pos 0))
  -- and nothing past the row's 20 places
  pub none_past : (n k : ℕ) → n < 27 → 20 ≤ k → values_at k (rows n) ≡ []

-- of runs that hold 27 lists
pub record AllInRuns (starts : List ℕ) (terms : List Entry) : Type 0 where
  -- "112": so many entries the runs have
  pub number : length terms ≡ 112
  -- the 27 lists, one after the other, are all of these entries
  pub whole : concat_map (held_row starts terms) (tabulate (λ n. n) 0 27) ≡ terms
  -- and they are all such places, each once, and no other
  pub lists : AllOnce (held_row starts terms)

-- ---- the non-zero places of any list of numbers
abbrev cons_if : Bool → ℤ → List ℤ → List ℤ
cons_if b c l = elim b [ true ↦ c ∷ l | false ↦ l ]

here : (k : ℕ) (c : ℤ) (es : List Entry) → values_at k ((k, c) ∷ es) ≡ c ∷ values_at k es
here k c es = ap (λ (b : Bool). cons_if b c (values_at k es)) (eq-eqb k k refl)

elsewhere : (j k : ℕ) (c : ℤ) (es : List Entry) → (k ≡ j → ⊥) → values_at j ((k, c) ∷ es) ≡ values_at j es
elsewhere j k c es h = ap (λ (b : Bool). cons_if b c (values_at j es)) (ne_eqb k j h)

kept_here : (k : ℕ) (c : ℤ) (es : List Entry) → values_at k es ≡ [] → values_at k (kept k c es) ≡ unless_zero c
kept_here k (pos zero) es h = h
kept_here k (pos (suc n)) es h = here k (pos (suc n)) es ∙ ap (λ l. pos (suc n) ∷ l) h
kept_here k (negsuc n) es h = here k (negsuc n) es ∙ ap (λ l. negsuc n ∷ l) h

kept_elsewhere : (j k : ℕ) (c : ℤ) (es : List Entry) → (k ≡ j → ⊥) → values_at j (kept k c es) ≡ values_at j es
kept_elsewhere j k (pos zero) es h = refl
kept_elsewhere j k (pos (suc n)) es h = elsewhere j k (pos (suc n)) es h
kept_elsewhere j k (negsuc n) es h = elsewhere j k (negsuc n) es h

none_before : (j k : ℕ) (cs : List ℤ) → j < k → values_at j (non_zero_from k cs) ≡ []
none_before j k [] h = refl
none_before j k (c ∷ cs) h = kept_elsewhere j k c (non_zero_from (suc k) cs) (λ e. omega arith) ∙ none_before j (suc k) cs (omega arith)

values_from : (k : ℕ) (cs : List ℤ) (j : ℕ) → values_at (k + j) (non_zero_from k cs) ≡ unless_zero (get_or cs j (pos 0))
values_from k [] j = refl
values_from k (c ∷ cs) zero =
    let e : k + 0 ≡ k = omega arith in ap (λ (i : ℕ). values_at i (non_zero_from k (c ∷ cs))) e ∙ kept_here k c (non_zero_from (suc k) cs) (none_before k (suc k) cs (omega arith))
values_from k (c ∷ cs) (suc j) =
    let e : k + suc j ≡ suc k + j = omega arith in
    kept_elsewhere (k + suc j) k c (non_zero_from (suc k) cs) (λ e. omega arith) ∙ ap (λ (i : ℕ). values_at i (non_zero_from (suc k) cs)) e ∙ values_from (suc k) cs j

-- ---- of the table
values_of : (n k : ℕ) → values_at k (sparse_row n) ≡ unless_zero (get_or (row n) k (pos 0))
values_of n k = let e : k ≡ 0 + k = omega arith in ap (λ (i : ℕ). values_at i (sparse_row n)) e ∙ values_from 0 (row n) k

entry_of : (n k : ℕ) → k < 20 → get_or (row n) k (pos 0) ≡ get_or table (20 * n + k) (pos 0)
entry_of n k h = get_or-take 20 (drop (20 * n) table) k (pos 0) h ∙ get_or-drop (20 * n) table k (pos 0)

zero_past : (n k : ℕ) → 20 ≤ k → get_or (row n) k (pos 0) ≡ pos 0
zero_past n k h = get_or-eq_default (row n) (pos 0) (omega (arith, length-take 20 (drop (20 * n) table)))

concat_map_cong : {A B : Type 0} (f g : A → List B) (P : A → Type 0) → ((x : A) → P x → f x ≡ g x) → (xs : List A) → All P xs → concat_map f xs ≡ concat_map g xs
concat_map_cong f g P h [] a = refl
concat_map_cong f g P h (x ∷ xs) a = ap₂ ◌++◌ (h x a.0) (concat_map_cong f g P h xs a.1)

pub all_once : {rows : ℕ → List Entry} → AreSparseRows rows → AllOnce rows
all_once {rows} h = record {
  number = (refl, ap length end_to_end);
  whole = end_to_end;
  once = λ n k l m. ap (values_at k) (h.same n l) ∙ values_of n k ∙ ap unless_zero (entry_of n k m);
  none_past = λ n k l m. ap (values_at k) (h.same n l) ∙ values_of n k ∙ ap unless_zero (zero_past n k m);
}
  where
    end_to_end : concat_map rows (tabulate (λ n. n) 0 27) ≡ concat_map sparse_row (tabulate (λ n. n) 0 27)
    end_to_end = concat_map_cong rows sparse_row (λ n. n < 27) h.same (tabulate (λ n. n) 0 27) (all_tabulate (λ n. n < 27) (λ n. n) 0 27 (λ k p q. q))

-- and of runs
pub all_in_runs : {starts : List ℕ} {terms : List Entry} → AreSparseRuns starts terms → AllInRuns starts terms
all_in_runs h = record {
  number = transfer h (λ s t. length t ≡ 112) refl;
  whole = transfer h (λ s t. concat_map (held_row s t) (tabulate (λ n. n) 0 27) ≡ t) refl;
  lists = all_once (rows_held h);
}
