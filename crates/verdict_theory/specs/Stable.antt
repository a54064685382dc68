-- A valid or an invalid record stays the same in every word at every greater depth.
use Rattle.std.specs.Prelude.{◌≡◌, Bool, List, [], ◌∷◌, ◌++◌, ℕ, zero, suc, ◌+◌, ◌≤◌, ℤ}
use Rattle.std.proofs.Math.Path.{refl, sym, ap, ap₂}
use Rattle.std.proofs.Common.{◌∙◌, true≢false, arith}
use Rattle.std.proofs.Math.Bool.{true, false, not}
use Rattle.std.proofs.Math.Option.{Option, none, some}
use Rattle.std.proofs.Math.Decide.{dec_le}
use Rattle.foundation.specs.Lists.{All, all_map, all_concat, concat_all, concat_map, up}
use Rattle.definitions.specs.Subdivision.{Cell, children, whole, descend}
use Rattle.definitions.specs.Verdict.{Finding, first_low, found, coefficients_of, low_point, low_coefficient, least_level, last_level, valid_level, valid, invalid, undecided, decide, verdict, blocked, opened_below, opened_at, opened, corners_of}
use Rattle.definitions.specs.Record.{verdict_words, record_of}
use Rattle.verdict_theory.specs.Count.{up_to, count_to, opened_count, opened_at_law}
use Rattle.verdict_theory.specs.Findings.{none_low}
use Rattle.verdict_theory.specs.Levels.{level_le, level_none, level_holds, level_up}
use Rattle.verdict_theory.specs.Positive.{PositiveCell, positive_findings, PositiveLevel, level_next, clear_positive, positive_clear, positive_points}

-- ---- cells that are opened are among the cells; below positive ones none is
pub below_all : (P : Cell → Type 0) (s : Cell) → All P (children s) → All P (opened_below s)
unfolding opened_below
below_all P s h = go (blocked s)
  where
    go : (b : Bool) → All P (elim b [ true ↦ children s | false ↦ [] ])
    go true = h
    go false = tt

pub opened_all : (P : Cell → Type 0) (m : ℕ) (ss : List Cell) → All P (descend children m ss) → All P (descend opened_below m ss)
opened_all P zero ss h = h
opened_all P (suc m) ss h = all_concat P opened_below (descend opened_below m ss)
    (all_map (λ s. All P (children s)) (λ s. All P (opened_below s)) (below_all P) (descend opened_below m ss)
    (opened_all (λ s. All P (children s)) m ss (concat_all P children (descend children m ss) h)))

shut : (s : Cell) → PositiveCell s → opened_below s ≡ []
unfolding opened_below
shut s h = ap (λ (o : Option Finding). elim (found o) as (λ _. List Cell) [ true ↦ children s | false ↦ [] ]) (none_low (coefficients_of s) (positive_findings s h))

shut_all : (ss : List Cell) → All PositiveCell ss → concat_map opened_below ss ≡ []
shut_all [] h = refl
shut_all (s ∷ ss) h = ap₂ ◌++◌ (shut s h.0) (shut_all ss h.1)

add_zero : (n : ℕ) → n + 0 ≡ n
add_zero n = omega arith

pub not_found : {A : Type 0} (o : Option A) → found o ≡ false → o ≡ none
not_found none e = refl
not_found (some x) e = absurd (true≢false e)

module _ (xs : List ℤ) where
  abbrev pub has_point : ℕ → Bool
  has_point m = found (low_point xs m)

  abbrev pub is_clear : ℕ → Bool
  is_clear m = not (found (low_coefficient xs m))

  -- no cell is due below a level of positive cells
  count_next : (m : ℕ) → PositiveLevel xs m → count_to xs (suc m) ≡ count_to xs m
  count_next m h = ap (λ (ss : List Cell). count_to xs m + up_to (λ s. found (first_low (corners_of xs (suc m) s))) ss) (shut_all (opened_at xs m) (opened_all PositiveCell m (whole xs ∷ []) h)) ∙ add_zero (count_to xs m)

  pub count_same : (m n : ℕ) → m ≤ n → PositiveLevel xs m → count_to xs n ≡ count_to xs m
  count_same m n l h = (up (λ k. (count_to xs k ≡ count_to xs m) × PositiveLevel xs k) (λ k r. (count_next k r.1 ∙ r.0, level_next xs k (suc k) (omega arith) r.1)) m n l (refl, h)).0

  -- ---- the three ways, at depth D
  pub record Invalid (D : ℕ) (f : Finding) : Type 0 where
    pub point : low_point xs (last_level xs D) ≡ some f

  pub record Valid (D : ℕ) : Type 0 where
    pub positive : PositiveLevel xs D
    pub no_point : (k : ℕ) → k ≤ D → low_point xs k ≡ none

  pub record Undecided (D : ℕ) (f : Finding) : Type 0 where
    pub no_point : (k : ℕ) → k ≤ D → low_point xs k ≡ none
    pub coefficient : low_coefficient xs D ≡ some f

  pub data Way (D : ℕ) : Type 0 where
    is_invalid : (f : Finding) → Invalid D f → Way D
    is_valid : Valid D → Way D
    is_undecided : (f : Finding) → Undecided D f → Way D

  pub no_points : (D : ℕ) → low_point xs (last_level xs D) ≡ none → (last_level xs D ≡ D) × ((k : ℕ) → k ≤ D → low_point xs k ≡ none)
  unfolding last_level
  no_points D e = let r = level_none has_point D (ap found e) in (r.0, λ k h. not_found (low_point xs k) (r.1 k h))

  pub way : (D : ℕ) → Way D
  way D = go (low_point xs (last_level xs D)) refl (low_coefficient xs D) refl
    where
      go : (p : Option Finding) → low_point xs (last_level xs D) ≡ p → (k : Option Finding) → low_coefficient xs D ≡ k → Way D
      go (some f) e k q = is_invalid f (record { point = e })
      go none e none q = is_valid (record { positive = clear_positive xs D q; no_point = (no_points D e).1 })
      go none e (some f) q = is_undecided f (record { no_point = (no_points D e).1; coefficient = q })

  pub last_none : (D : ℕ) → ((k : ℕ) → k ≤ D → low_point xs k ≡ none) → last_level xs D ≡ D
  unfolding last_level
  last_none D h = go (has_point (least_level has_point D)) refl
    where
      go : (b : Bool) → has_point (least_level has_point D) ≡ b → least_level has_point D ≡ D
      go false e = (level_none has_point D e).0
      go true e = absurd (true≢false (sym e ∙ ap found (h (least_level has_point D) (level_le has_point D))))

  pub invalid_verdict : (D : ℕ) (f : Finding) → Invalid D f → verdict xs D ≡ invalid (last_level xs D) f
  unfolding verdict
  invalid_verdict D f h = ap (λ (o : Option Finding). decide D (last_level xs D) (valid_level xs D) o (low_coefficient xs D)) h.point

  no_point_verdict : (D : ℕ) → ((k : ℕ) → k ≤ D → low_point xs k ≡ none) → (o : Option Finding) → low_coefficient xs D ≡ o → verdict xs D ≡ decide D (last_level xs D) (valid_level xs D) none o
  unfolding verdict
  no_point_verdict D h o e = ap₂ (decide D (last_level xs D) (valid_level xs D)) (ap (low_point xs) (last_none D h) ∙ h D (omega arith)) e

  pub valid_verdict : (D : ℕ) → Valid D → verdict xs D ≡ valid (valid_level xs D)
  valid_verdict D h = no_point_verdict D h.no_point none (positive_clear xs D h.positive)

  pub undecided_verdict : (D : ℕ) (f : Finding) → Undecided D f → verdict xs D ≡ undecided D f
  undecided_verdict D f h = no_point_verdict D h.no_point (some f) h.coefficient

  -- ---- a greater depth
  last_up : (D D' : ℕ) → D ≤ D' → (f : Finding) → Invalid D f → last_level xs D' ≡ last_level xs D
  unfolding last_level
  last_up D D' l f h = level_up has_point D D' l (ap found h.point)

  pub invalid_up : (D D' : ℕ) → D ≤ D' → (f : Finding) → Invalid D f → Invalid D' f
  invalid_up D D' l f h = record { point = ap (low_point xs) (last_up D D' l f h) ∙ h.point }

  pub valid_up : (D D' : ℕ) → D ≤ D' → Valid D → Valid D'
  valid_up D D' l h = record {
    positive = level_next xs D D' l h.positive;
    no_point = λ k m. elim (dec_le k D) [ yes p ↦ h.no_point k p | no p ↦ positive_points xs k (level_next xs D k (omega arith) h.positive) ];
  }

  level_same : (D D' : ℕ) → D ≤ D' → Valid D → valid_level xs D' ≡ valid_level xs D
  unfolding valid_level
  level_same D D' l h = level_up is_clear D D' l (level_holds is_clear D D (omega arith) (ap (λ (o : Option Finding). not (found o)) (positive_clear xs D h.positive)))

  pub opened_same : (D D' : ℕ) → D ≤ D' → Valid D → opened xs D' ≡ opened xs D
  opened_same D D' l h = opened_at_law xs D' D' (last_none D' (valid_up D D' l h).no_point) ∙ count_same D D' l h.positive ∙ sym (opened_at_law xs D D (last_none D h.no_point))

  pub invalid_same : (D D' : ℕ) → D ≤ D' → (f : Finding) → Invalid D f → record_of xs D' ≡ record_of xs D
  unfolding record_of
  invalid_same D D' l f h = let e = last_up D D' l f h in
      ap₂ verdict_words (invalid_verdict D' f (invalid_up D D' l f h) ∙ ap (λ (m : ℕ). invalid m f) e ∙ sym (invalid_verdict D f h)) (opened_at_law xs D' (last_level xs D) e ∙ sym (opened_count xs D))

  pub verdict_same : (D D' : ℕ) → D ≤ D' → Valid D → verdict xs D' ≡ verdict xs D
  verdict_same D D' l h = valid_verdict D' (valid_up D D' l h) ∙ ap valid (level_same D D' l h) ∙ sym (valid_verdict D h)

  pub valid_same : (D D' : ℕ) → D ≤ D' → Valid D → record_of xs D' ≡ record_of xs D
  unfolding record_of
  valid_same D D' l h = ap₂ verdict_words (verdict_same D D' l h) (opened_same D D' l h)
