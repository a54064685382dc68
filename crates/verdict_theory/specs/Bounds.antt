-- The bounds of two depths: at one scale the low one does not fall and the high one does not rise.
use Rattle.std.specs.Prelude.{◌≡◌, List, map, ℕ, zero, suc, ◌+◌, ◌<◌, ◌^◌, length, ℤ, pos, ◌*ℤ◌, ◌≤ℤ◌}
use Rattle.std.proofs.Common.{sym, ◌∙◌, ap, subst, arith}
use Rattle.std.proofs.Math.Nat.{pow-succ'}
use Rattle.std.proofs.lemmas.List.{length-map}
use Rattle.std.specs.Int.Signed.{≤ℤ_refl}
use Rattle.foundation.specs.Ring.{mul_assoc, one_mul}
use Rattle.foundation.specs.Order.{le_trans, le_antisym, le_scale}
use Rattle.foundation.specs.Lists.{All, all_map, all_both, all_every, all_image, image_all, all_concat, concat_all, concat_map, concat_map_some, tabulate, length_tabulate}
use Rattle.foundation.specs.Least.{least_of, least_all, least_is}
use Rattle.expansion_theory.specs.Cells.{CellOf, all_cells, eight, corner_is}
use Rattle.expansion_theory.specs.Hull.{Above, child_above, above_get_d}
use Rattle.definitions.specs.Jacobian.{scaled_jacobian}
use Rattle.definitions.specs.Subdivision.{Cell, children, cells}
use Rattle.definitions.specs.Verdict.{Finding, corners_of, coefficients_of}
use Rattle.definitions.specs.Bounds.{low, grid_values, high}
use Rattle.verdict_theory.specs.Positive.{findings_of, of_findings, corners_of_law}
use Rattle.verdict_theory.specs.Points.{AtPoints, points_of, corners_at, points_down, numbers, values_at_law, at_values}

-- ---- nothing is empty
children_some : (s : Cell) → 0 < length (children s)
unfolding children
children_some s = omega arith

pub coefficients_some : (s : Cell) → 0 < length (coefficients_of s)
unfolding coefficients_of
coefficients_some s = omega arith

pub corners_some : (xs : List ℤ) (m : ℕ) (s : Cell) → 0 < length (corners_of xs m s)
unfolding corners_of
corners_some xs m s = omega arith

module _ (xs : List ℤ) where
  pub cells_some : (m : ℕ) → 0 < length (cells xs m)
  cells_some zero = omega arith
  cells_some (suc m) = concat_map_some children (cells xs m) (cells_some m) (all_every (λ s. 0 < length (children s)) children_some (cells xs m))

  -- what a function that shows something of each cell shows of a level
  pub shown_some : (g : Cell → List Finding) → ((s : Cell) → 0 < length (g s)) → (m : ℕ) → 0 < length (map (λ f. f.value) (concat_map g (cells xs m)))
  shown_some g h m = simp length-map (concat_map_some g (cells xs m) (cells_some m) (all_every (λ s. 0 < length (g s)) h (cells xs m)))

  values_some : (m : ℕ) → 0 < length (grid_values xs m)
  values_some m = let n = suc (2 ^ m) in
      concat_map_some (λ a. concat_map (λ b. tabulate (scaled_jacobian xs m a b) 0 n) (numbers xs m)) (numbers xs m) (some_numbers m)
      (all_every (λ a. 0 < length (concat_map (λ b. tabulate (scaled_jacobian xs m a b) 0 n) (numbers xs m))) (λ a. concat_map_some (λ b. tabulate (scaled_jacobian xs m a b) 0 n) (numbers xs m) (some_numbers m)
      (all_every (λ b. 0 < length (tabulate (scaled_jacobian xs m a b) 0 n)) (λ b. omega (arith, length_tabulate (scaled_jacobian xs m a b) 0 n)) (numbers xs m))) (numbers xs m))
    where
      some_numbers : (m : ℕ) → 0 < length (numbers xs m)
      some_numbers m = omega (arith, length_tabulate (λ a. a) 0 (suc (2 ^ m)))

  -- ---- the low bound: what holds of it holds of every coefficient of the level
  pub low_is : (m : ℕ) → All (λ s. Above (low xs m) s.control) (cells xs m)
  unfolding low
  low_is m = all_map (λ s. All (λ f. low xs m ≤ℤ f.value) (coefficients_of s) × CellOf xs m s) (λ s. Above (low xs m) s.control)
      (λ s h. (of_findings (λ v. low xs m ≤ℤ v) s h.1.sized h.0, h.1.sized)) (cells xs m)
      (all_both (λ s. All (λ f. low xs m ≤ℤ f.value) (coefficients_of s)) (CellOf xs m) (cells xs m)
      (concat_all (λ f. low xs m ≤ℤ f.value) coefficients_of (cells xs m) (image_all (λ v. low xs m ≤ℤ v) (λ f. f.value) (concat_map coefficients_of (cells xs m)) (least_is (map (λ f. f.value) (concat_map coefficients_of (cells xs m))))))
      (all_cells xs m))

  pub low_greatest : (z : ℤ) (m : ℕ) → All (λ s. Above z s.control) (cells xs m) → z ≤ℤ low xs m
  unfolding low
  low_greatest z m h = least_all (λ v. z ≤ℤ v) (map (λ f. f.value) (concat_map coefficients_of (cells xs m))) (shown_some coefficients_of coefficients_some m)
      (all_image (λ v. z ≤ℤ v) (λ f. f.value) (concat_map coefficients_of (cells xs m)) (all_concat (λ f. z ≤ℤ f.value) coefficients_of (cells xs m)
      (all_map (λ s. Above z s.control) (λ s. All (λ f. z ≤ℤ f.value) (coefficients_of s)) (λ s p. findings_of (λ v. z ≤ℤ v) s (above_get_d z s.control p)) (cells xs m) h)))

  low_next : (m : ℕ) → (pos 64 *ℤ low xs m) ≤ℤ low xs (suc m)
  low_next m = let z = pos 64 *ℤ low xs m in low_greatest z (suc m) (all_concat (λ s. Above z s.control) children (cells xs m)
      (all_map (λ s. Above (low xs m) s.control) (λ s. All (λ t. Above z t.control) (children s)) (λ s h. eight (λ t. Above z t.control) s (λ k _. child_above (low xs m) s k h)) (cells xs m) (low_is m)))

  -- ---- the high bound: the least at the grid points, which are the corners of the cells
  pub high_is : (m : ℕ) → AtPoints xs (λ v. high xs m ≤ℤ v) m
  unfolding high
  high_is m = values_at_law xs (λ v. high xs m ≤ℤ v) m (least_is (grid_values xs m))

  pub high_all : (P : ℤ → Type 0) (m : ℕ) → AtPoints xs P m → P (high xs m)
  unfolding high
  high_all P m h = least_all P (grid_values xs m) (values_some m) (at_values xs P m h)

  high_next : (m : ℕ) → high xs (suc m) ≤ℤ (pos 64 *ℤ high xs m)
  high_next m = high_all (λ v. high xs (suc m) ≤ℤ (pos 64 *ℤ v)) m (points_down xs (λ v. high xs (suc m) ≤ℤ v) (λ v. high xs (suc m) ≤ℤ (pos 64 *ℤ v)) (λ z p. p) m (high_is (suc m)))

  pub high_corners : (m : ℕ) → high xs m ≡ least_of (map (λ f. f.value) (concat_map (corners_of xs m) (cells xs m)))
  high_corners m = let vs = map (λ (f : Finding). f.value) (concat_map (corners_of xs m) (cells xs m)) in le_antisym (high xs m) (least_of vs)
      (least_all (λ v. high xs m ≤ℤ v) vs (shown_some (corners_of xs m) (corners_some xs m) m) (all_image (λ v. high xs m ≤ℤ v) (λ f. f.value) (concat_map (corners_of xs m) (cells xs m)) (corners_at xs (λ v. high xs m ≤ℤ v) m (high_is m))))
      (high_all (λ v. least_of vs ≤ℤ v) m (points_of xs (λ v. least_of vs ≤ℤ v) m (image_all (λ v. least_of vs ≤ℤ v) (λ f. f.value) (concat_map (corners_of xs m) (cells xs m)) (least_is vs))))

  -- low is at most high: the corners are coefficients
  pub low_below_high : (m : ℕ) → low xs m ≤ℤ high xs m
  low_below_high m = high_all (λ v. low xs m ≤ℤ v) m (points_of xs (λ v. low xs m ≤ℤ v) m (all_concat (λ f. low xs m ≤ℤ f.value) (corners_of xs m) (cells xs m)
      (all_map (λ s. Above (low xs m) s.control × CellOf xs m s) (λ s. All (λ f. low xs m ≤ℤ f.value) (corners_of xs m s))
      (λ s h. corners_of_law xs (λ f. low xs m ≤ℤ f.value) m s (λ k l. subst (λ v. low xs m ≤ℤ v) (corner_is xs m s h.1 k l) (above_get_d (low xs m) s.control h.0 k (omega arith))))
      (cells xs m) (all_both (λ s. Above (low xs m) s.control) (CellOf xs m) (cells xs m) (low_is m) (all_cells xs m)))))

-- ---- k levels deeper, at one scale
scaled : (k : ℕ) (z : ℤ) → pos 64 *ℤ (pos (64 ^ k) *ℤ z) ≡ pos (64 ^ suc k) *ℤ z
scaled k z = sym (mul_assoc (pos 64) (pos (64 ^ k)) z) ∙ ap (λ (t : ℕ). pos t *ℤ z) (sym (pow-succ' 64 k))

module _ (f : ℕ → ℤ) (D : ℕ) where
  pub rises : ((m : ℕ) → (pos 64 *ℤ f m) ≤ℤ f (suc m)) → (k : ℕ) → (pos (64 ^ k) *ℤ f D) ≤ℤ f (k + D)
  rises h zero = let e : D ≡ 0 + D = omega arith in subst (λ (n : ℕ). (pos 1 *ℤ f D) ≤ℤ f n) e (subst (λ z. z ≤ℤ f D) (sym (one_mul (f D))) (≤ℤ_refl (f D)))
  rises h (suc k) = let e : suc (k + D) ≡ suc k + D = omega arith in subst (λ (n : ℕ). (pos (64 ^ suc k) *ℤ f D) ≤ℤ f n) e
      (le_trans (subst (λ z. z ≤ℤ (pos 64 *ℤ f (k + D))) (scaled k (f D)) (le_scale 64 (rises h k))) (h (k + D)))

  pub falls : ((m : ℕ) → f (suc m) ≤ℤ (pos 64 *ℤ f m)) → (k : ℕ) → f (k + D) ≤ℤ (pos (64 ^ k) *ℤ f D)
  falls h zero = let e : D ≡ 0 + D = omega arith in subst (λ (n : ℕ). f n ≤ℤ (pos 1 *ℤ f D)) e (subst (λ z. f D ≤ℤ z) (sym (one_mul (f D))) (≤ℤ_refl (f D)))
  falls h (suc k) = let e : suc (k + D) ≡ suc k + D = omega arith in subst (λ (n : ℕ). f n ≤ℤ (pos (64 ^ suc k) *ℤ f D)) e
      (le_trans (h (k + D)) (subst (λ z. (pos 64 *ℤ f (k + D)) ≤ℤ z) (scaled k (f D)) (le_scale 64 (falls h k))))

pub low_rises : (xs : List ℤ) (D k : ℕ) → (pos (64 ^ k) *ℤ low xs D) ≤ℤ low xs (k + D)
low_rises xs D k = rises (low xs) D (low_next xs) k

pub high_falls : (xs : List ℤ) (D k : ℕ) → high xs (k + D) ≤ℤ (pos (64 ^ k) *ℤ high xs D)
high_falls xs D k = falls (high xs) D (high_next xs) k
