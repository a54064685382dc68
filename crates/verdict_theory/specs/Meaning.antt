-- The verdict in document 01's words: which of the three holds, and what is named is as 01 says.
use Rattle.std.specs.Prelude.{◌≡◌, true, false, not, List, ℕ, ◌<◌, ◌≤◌, ◌^◌, length, ℤ, pos, ◌≤ℤ◌}
use Rattle.std.proofs.Math.Path.{refl, sym, ap}
use Rattle.std.proofs.Common.{◌∙◌, subst, arith}
use Rattle.std.proofs.Math.Bool.{true≢false}
use Rattle.std.proofs.Math.Option.{Option, none, some}
use Rattle.foundation.specs.Order.{Positive}
use Rattle.foundation.specs.Lists.{All, all_map, all_concat, all_tabulate, concat_map}
use Rattle.expansion_theory.specs.Cells.{CellOf, all_cells}
use Rattle.definitions.specs.Jacobian.{scaled_jacobian}
use Rattle.definitions.specs.Subdivision.{Cell, cells}
use Rattle.definitions.specs.Verdict.{Finding, found, corners_of, coefficients_of, low_point, low_coefficient, least_level, last_level, valid_level, Verdict, valid, invalid, undecided, verdict}
use Rattle.verdict_theory.specs.Findings.{some_not_none, low_none, none_low, First, low_first, first_low_law, first_has}
use Rattle.verdict_theory.specs.Levels.{level_le, level_before, level_holds, level_unique}
use Rattle.verdict_theory.specs.Positive.{PositiveLevel, clear_positive, positive_clear, positive_points, coefficient_of, corners_of_law}
use Rattle.verdict_theory.specs.Points.{points_of, corners_at, positive_down, side_small}
use Rattle.verdict_theory.specs.Stable.{has_point, is_clear, not_found, Way, is_invalid, is_valid, is_undecided, way, invalid_verdict, valid_verdict, undecided_verdict}

module _ (xs : List ℤ) where
  -- J is above 0 at every grid point of level m
  abbrev pub PositiveGrid : ℕ → Type 0
  PositiveGrid m = (a b c : ℕ) → a ≤ 2 ^ m → b ≤ 2 ^ m → c ≤ 2 ^ m → pos 1 ≤ℤ scaled_jacobian xs m a b c

  -- some grid point of level m has J ≤ 0
  abbrev pub LowAt : ℕ → Type 0
  LowAt m = (a : ℕ) × (b : ℕ) × (c : ℕ) × ((a ≤ 2 ^ m) × (b ≤ 2 ^ m) × (c ≤ 2 ^ m)) × (scaled_jacobian xs m a b c ≤ℤ pos 0)

  -- every coefficient of every cell of level m is above 0
  abbrev pub PositiveCells : ℕ → Type 0
  PositiveCells m = All (λ s. All (λ v. pos 1 ≤ℤ v) s.control × (length s.control ≡ 27)) (cells xs m)

  pub grid_clear : (m : ℕ) → PositiveGrid m → low_point xs m ≡ none
  unfolding low_point
  grid_clear m h = none_low (concat_map (corners_of xs m) (cells xs m)) (corners_at xs Positive m h)

  pub clear_grid : (m : ℕ) → low_point xs m ≡ none → PositiveGrid m
  unfolding low_point
  clear_grid m e = points_of xs Positive m (low_none (concat_map (corners_of xs m) (cells xs m)) e)

  point_first : (m : ℕ) (f : Finding) → low_point xs m ≡ some f → First (concat_map (corners_of xs m) (cells xs m)) f
  unfolding low_point
  point_first m f e = low_first (concat_map (corners_of xs m) (cells xs m)) f e

  first_point : (m : ℕ) (f : Finding) → First (concat_map (corners_of xs m) (cells xs m)) f → low_point xs m ≡ some f
  unfolding low_point
  first_point m f h = first_low_law (concat_map (corners_of xs m) (cells xs m)) f h

  coefficient_first : (m : ℕ) (f : Finding) → low_coefficient xs m ≡ some f → First (concat_map coefficients_of (cells xs m)) f
  unfolding low_coefficient
  coefficient_first m f e = low_first (concat_map coefficients_of (cells xs m)) f e

  first_coefficient : (m : ℕ) (f : Finding) → First (concat_map coefficients_of (cells xs m)) f → low_coefficient xs m ≡ some f
  unfolding low_coefficient
  first_coefficient m f h = first_low_law (concat_map coefficients_of (cells xs m)) f h

  clear_true : (m : ℕ) → PositiveLevel xs m → is_clear xs m ≡ true
  clear_true m h = ap (λ (o : Option Finding). not (found o)) (positive_clear xs m h)

  clear_none : (m : ℕ) → is_clear xs m ≡ true → low_coefficient xs m ≡ none
  clear_none m e = go (low_coefficient xs m) e
    where
      go : (o : Option Finding) → not (found o) ≡ true → o ≡ none
      go none e = refl
      go (some f) e = absurd (true≢false (sym e))

  unclear : (m : ℕ) → ¬ PositiveLevel xs m → is_clear xs m ≡ false
  unclear m h = go (low_coefficient xs m) refl
    where
      go : (o : Option Finding) → low_coefficient xs m ≡ o → not (found o) ≡ false
      go none e = absurd (h (clear_positive xs m e))
      go (some f) e = refl

  -- a corner of a cell of level m, by its number from 1, with J there
  pub record IsPoint (m : ℕ) (f : Finding) : Type 0 where
    pub number : (1 ≤ f.number) × (f.number ≤ 8)
    pub on_grid : (f.a ≤ 2 ^ m) × (f.b ≤ 2 ^ m) × (f.c ≤ 2 ^ m)
    pub value : f.value ≡ scaled_jacobian xs m f.a f.b f.c

  -- a coefficient of a cell of level m, by its number from 1
  pub record IsCoefficient (m : ℕ) (f : Finding) : Type 0 where
    pub cell : Cell
    pub of_level : CellOf xs m cell
    pub index : ℕ
    pub number : index < 27
    pub is : f ≡ coefficient_of cell index

  points : (m : ℕ) → All (IsPoint m) (concat_map (corners_of xs m) (cells xs m))
  points m = all_concat (IsPoint m) (corners_of xs m) (cells xs m) (all_map (CellOf xs m) (λ s. All (IsPoint m) (corners_of xs m s))
      (λ s g. corners_of_law xs (IsPoint m) m s (λ k l. record {
        number = (omega arith, omega arith);
        on_grid = (omega (arith, g.a_below, side_small 0 k), omega (arith, g.b_below, side_small 1 k), omega (arith, g.c_below, side_small 2 k));
        value = refl;
      })) (cells xs m) (all_cells xs m))

  coefficients : (m : ℕ) → All (IsCoefficient m) (concat_map coefficients_of (cells xs m))
  unfolding coefficients_of
  coefficients m = all_concat (IsCoefficient m) coefficients_of (cells xs m) (all_map (CellOf xs m) (λ s. All (IsCoefficient m) (coefficients_of s))
      (λ s g. all_tabulate (IsCoefficient m) (coefficient_of s) 0 27 (λ n _ l. record { cell = s; of_level = g; index = n; number = omega arith; is = refl })) (cells xs m) (all_cells xs m))

  -- "Invalid: some grid point of level D has J ≤ 0. … take the least level that has such a point; at that level the first cube in path order with such a corner; in it the lowest such corner."
  pub record InvalidAt (D l : ℕ) (f : Finding) : Type 0 where
    pub within : l ≤ D
    pub earlier : (k : ℕ) → k < l → PositiveGrid k
    pub named : First (concat_map (corners_of xs l) (cells xs l)) f
    pub at_depth : LowAt D

  -- "Valid: every coefficient of every level-D cube is above 0. The level named is the least at which that holds."
  pub record ValidAt (D l : ℕ) : Type 0 where
    pub within : l ≤ D
    pub earlier : (k : ℕ) → k < l → ¬ PositiveCells k
    pub named : PositiveCells l
    pub at_depth : PositiveCells D

  -- "Undecided: neither. The cube named is the first of level D in path order with a coefficient ≤ 0, and in it the lowest-numbered such coefficient."
  pub record UndecidedAt (D l : ℕ) (f : Finding) : Type 0 where
    pub level : l ≡ D
    pub not_invalid : PositiveGrid D
    pub not_valid : ¬ PositiveCells D
    pub named : First (concat_map coefficients_of (cells xs D)) f

  -- what is named is a corner, or a coefficient, of a cell of its level
  pub invalid_point : (D l : ℕ) (f : Finding) → InvalidAt D l f → IsPoint l f
  invalid_point D l f h = first_has (IsPoint l) (concat_map (corners_of xs l) (cells xs l)) f h.named (points l)

  pub undecided_coefficient : (D l : ℕ) (f : Finding) → UndecidedAt D l f → IsCoefficient D f
  undecided_coefficient D l f h = first_has (IsCoefficient D) (concat_map coefficients_of (cells xs D)) f h.named (coefficients D)

  abbrev pub Means : ℕ → Verdict → Type 0
  Means D (valid l) = ValidAt D l
  Means D (invalid l f) = InvalidAt D l f
  Means D (undecided l f) = UndecidedAt D l f

  -- ---- the verdict is as 01 says
  not_clear : (m : ℕ) (f : Finding) → low_coefficient xs m ≡ some f → ¬ PositiveLevel xs m
  not_clear m f e h = some_not_none f (sym e ∙ positive_clear xs m h)

  low_at_law : (D l : ℕ) → l ≤ D → (f : Finding) → low_point xs l ≡ some f → LowAt D
  low_at_law D l h f e = go (low_point xs D) refl
    where
      go : (o : Option Finding) → low_point xs D ≡ o → LowAt D
      go none q = absurd (some_not_none f (sym e ∙ grid_clear l (positive_down xs l D h (clear_grid D q))))
      go (some g) q =
          let r = point_first D g q in
          let p = first_has (IsPoint D) (concat_map (corners_of xs D) (cells xs D)) g r (points D) in
          (g.a, g.b, g.c, p.on_grid, subst (λ (z : ℤ). z ≤ℤ pos 0) p.value r.low)

  means_invalid : (D : ℕ) (f : Finding) → low_point xs (last_level xs D) ≡ some f → InvalidAt D (last_level xs D) f
  unfolding last_level
  means_invalid D f e = let l = last_level xs D in let r = point_first l f e in record {
    within = level_le (has_point xs) D;
    earlier = λ k h. clear_grid k (not_found (low_point xs k) (level_before (has_point xs) D k h));
    named = r;
    at_depth = low_at_law D l (level_le (has_point xs) D) f e;
  }

  means_valid : (D : ℕ) → PositiveLevel xs D → ValidAt D (valid_level xs D)
  unfolding valid_level
  means_valid D h = record {
    within = level_le (is_clear xs) D;
    earlier = λ k q p. true≢false (sym (clear_true k p) ∙ level_before (is_clear xs) D k q);
    named = clear_positive xs (least_level (is_clear xs) D) (clear_none (least_level (is_clear xs) D) (level_holds (is_clear xs) D D (omega arith) (clear_true D h)));
    at_depth = h;
  }

  means_undecided : (D : ℕ) (f : Finding) → low_point xs D ≡ none → low_coefficient xs D ≡ some f → UndecidedAt D D f
  means_undecided D f e q = let r = coefficient_first D f q in
      record { level = refl; not_invalid = clear_grid D e; not_valid = not_clear D f q; named = r }

  pub means : (D : ℕ) → Means D (verdict xs D)
  means D = go (way xs D)
    where
      go : Way xs D → Means D (verdict xs D)
      go (is_invalid f h) = subst (Means D) (sym (invalid_verdict xs D f h)) (means_invalid D f h.point)
      go (is_valid h) = subst (Means D) (sym (valid_verdict xs D h)) (means_valid D h.positive)
      go (is_undecided f h) = subst (Means D) (sym (undecided_verdict xs D f h)) (means_undecided D f (h.no_point D (omega arith)) h.coefficient)

  -- ---- and no other is: exactly one of the three holds, with one level and one finding
  none_below : (D : ℕ) → PositiveGrid D → (k : ℕ) → k ≤ D → low_point xs k ≡ none
  none_below D h k l = grid_clear k (positive_down xs k D l h)

  pub only_verdict : (D : ℕ) (v : Verdict) → Means D v → v ≡ verdict xs D
  unfolding last_level valid_level
  only_verdict D (valid l) h = ap valid (sym e) ∙ sym (valid_verdict xs D (record { positive = h.at_depth; no_point = none_below D (clear_grid D (positive_points xs D h.at_depth)) }))
    where
      e : valid_level xs D ≡ l
      e = level_unique (is_clear xs) D l h.within (clear_true l h.named) (λ k q. unclear k (h.earlier k q))
  only_verdict D (invalid l f) h = ap (λ (m : ℕ). invalid m f) (sym e) ∙ sym (invalid_verdict xs D f (record { point = ap (low_point xs) e ∙ p }))
    where
      p : low_point xs l ≡ some f
      p = first_point l f h.named

      e : last_level xs D ≡ l
      e = level_unique (has_point xs) D l h.within (ap found p) (λ k q. ap found (grid_clear k (h.earlier k q)))
  only_verdict D (undecided l f) h = ap (λ (m : ℕ). undecided m f) h.level ∙ sym (undecided_verdict xs D f (record { no_point = none_below D h.not_invalid; coefficient = first_coefficient D f h.named }))
