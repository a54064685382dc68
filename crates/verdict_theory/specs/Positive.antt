-- Cells whose 27 coefficients are above 0, and levels of such cells: nothing low is found in them, nor below them.
use Rattle.std.specs.Prelude.{◌≡◌, List, ℕ, zero, suc, ◌+◌, ◌<◌, ◌≤◌, get_or, length, ℤ, pos, ◌≤ℤ◌}
use Rattle.std.proofs.Common.{subst, arith}
use Rattle.std.proofs.Math.Option.{none}
use Rattle.std.specs.Int.Signed.{le_z_yes}
use Rattle.foundation.specs.Order.{Positive, le_trans}
use Rattle.foundation.specs.Lists.{All, all_map, all_both, get_d_all, all_concat, concat_all, all_tabulate, tabulate_all, concat_map, up}
use Rattle.expansion_theory.specs.Cells.{CellOf, all_cells, eight, corner_is}
use Rattle.expansion_theory.specs.Hull.{Above, child_above, above_get_d}
use Rattle.definitions.specs.Jacobian.{side, scaled_jacobian}
use Rattle.definitions.specs.Subdivision.{Cell, child, children, descend, cells}
use Rattle.definitions.specs.Verdict.{Finding, corners_of, coefficients_of, low_point, low_coefficient}
use Rattle.verdict_theory.specs.Findings.{AboveZero, low_none, none_low}

abbrev pub PositiveCell : Cell → Type 0
PositiveCell s = Above (pos 1) s.control

pub children_positive : (s : Cell) → PositiveCell s → All PositiveCell (children s)
children_positive s h = eight PositiveCell s (λ k _. let p = child_above (pos 1) s k h in (all_map (λ v. pos 64 ≤ℤ v) Positive (λ v q. le_trans (le_z_yes tt) q) (child s k).control p.0, p.1))

-- ---- what is true of every coefficient of a cell, by number and as a list
abbrev pub coefficient_of : Cell → ℕ → Finding
coefficient_of s n = record { number = suc n; a = s.a; b = s.b; c = s.c; value = get_or s.control n (pos 0) }

pub findings_of : (P : ℤ → Type 0) (s : Cell) → ((n : ℕ) → n < 27 → P (get_or s.control n (pos 0))) → All (λ f. P f.value) (coefficients_of s)
unfolding coefficients_of
findings_of P s h = all_tabulate (λ (f : Finding). P f.value) (coefficient_of s) 0 27 (λ n _ l. h n (omega arith))

pub of_findings : (P : ℤ → Type 0) (s : Cell) → length s.control ≡ 27 → All (λ f. P f.value) (coefficients_of s) → All P s.control
unfolding coefficients_of
of_findings P s e h = get_d_all P s.control (pos 0) (λ n l. tabulate_all (λ (f : Finding). P f.value) (coefficient_of s) 0 27 h n (omega arith) (omega arith))

pub positive_findings : (s : Cell) → PositiveCell s → All AboveZero (coefficients_of s)
positive_findings s h = findings_of Positive s (above_get_d (pos 1) s.control h)

pub findings_positive : (s : Cell) → length s.control ≡ 27 → All AboveZero (coefficients_of s) → PositiveCell s
findings_positive s e h = (of_findings Positive s e h, e)

-- ---- levels
pub positive_next : (ss : List Cell) → All PositiveCell ss → All PositiveCell (concat_map children ss)
positive_next ss h = all_concat PositiveCell children ss (all_map PositiveCell (λ s. All PositiveCell (children s)) children_positive ss h)

pub positive_below : (m : ℕ) (ss : List Cell) → All PositiveCell ss → All PositiveCell (descend children m ss)
positive_below zero ss h = h
positive_below (suc m) ss h = positive_next (descend children m ss) (positive_below m ss h)

module _ (xs : List ℤ) where
  abbrev pub PositiveLevel : ℕ → Type 0
  PositiveLevel m = All PositiveCell (cells xs m)

  pub level_next : (m n : ℕ) → m ≤ n → PositiveLevel m → PositiveLevel n
  level_next m n l h = up PositiveLevel (λ k. positive_next (cells xs k)) m n l h

  -- no coefficient of the level is low
  pub clear_positive : (m : ℕ) → low_coefficient xs m ≡ none → PositiveLevel m
  unfolding low_coefficient
  clear_positive m e = all_map (λ s. All AboveZero (coefficients_of s) × CellOf xs m s) PositiveCell (λ s h. findings_positive s h.1.sized h.0) (cells xs m)
      (all_both (λ s. All AboveZero (coefficients_of s)) (CellOf xs m) (cells xs m) (concat_all AboveZero coefficients_of (cells xs m) (low_none (concat_map coefficients_of (cells xs m)) e)) (all_cells xs m))

  pub positive_clear : (m : ℕ) → PositiveLevel m → low_coefficient xs m ≡ none
  unfolding low_coefficient
  positive_clear m h = none_low (concat_map coefficients_of (cells xs m)) (all_concat AboveZero coefficients_of (cells xs m) (all_map PositiveCell (λ s. All AboveZero (coefficients_of s)) positive_findings (cells xs m) h))

  -- the corners of a cell, by number
  abbrev pub corner_of : ℕ → Cell → ℕ → Finding
  corner_of m s k = let a = s.a + side 0 k in let b = s.b + side 1 k in let c = s.c + side 2 k in record { number = suc k; a = a; b = b; c = c; value = scaled_jacobian xs m a b c }

  pub corners_of_law : (P : Finding → Type 0) (m : ℕ) (s : Cell) → ((k : ℕ) → k < 8 → P (corner_of m s k)) → All P (corners_of xs m s)
  unfolding corners_of
  corners_of_law P m s h = all_tabulate P (corner_of m s) 0 8 (λ k _ l. h k (omega arith))

  pub of_corners : (P : Finding → Type 0) (m : ℕ) (s : Cell) → All P (corners_of xs m s) → (k : ℕ) → k < 8 → P (corner_of m s k)
  unfolding corners_of
  of_corners P m s h k l = tabulate_all P (corner_of m s) 0 8 h k (omega arith) (omega arith)

  pub positive_corners : (m : ℕ) (s : Cell) → CellOf xs m s → PositiveCell s → All AboveZero (corners_of xs m s)
  positive_corners m s cell h = corners_of_law AboveZero m s (λ k l. subst Positive (corner_is xs m s cell k l) (above_get_d (pos 1) s.control h k (omega arith)))

  -- so J is above 0 at all its grid points
  pub positive_points : (m : ℕ) → PositiveLevel m → low_point xs m ≡ none
  unfolding low_point
  positive_points m h = none_low (concat_map (corners_of xs m) (cells xs m)) (all_concat AboveZero (corners_of xs m) (cells xs m)
      (all_map (λ s. CellOf xs m s × PositiveCell s) (λ s. All AboveZero (corners_of xs m s)) (λ s p. positive_corners m s p.0 p.1) (cells xs m) (all_both (CellOf xs m) PositiveCell (cells xs m) (all_cells xs m) h)))
