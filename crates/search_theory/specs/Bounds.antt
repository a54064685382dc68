-- The bounds by recursion as the code follows it.
use Rattle.std.specs.Prelude.{◌≡◌, refl, length, take, drop, ℤ, pos, negsuc, nat_abs, ◌≤ℤ◌}
use Rattle.std.proofs.Math.Path.{sym, ap}
use Rattle.std.proofs.Common.{◌∙◌, ap₂, subst, le_trans, arith, drop-cons, take-suc, le→leb}
use mathlib.Core.List.{List, [], ◌∷◌, ◌++◌, map}
use Prim.Native.Nat.{ℕ, zero, suc, ◌+◌, ◌-◌, ◌*◌, ◌^◌, ◌<◌, ◌≤◌}
use Rattle.std.proofs.Math.ListN.{get_or}
use Rattle.std.proofs.Math.Seq.{take_all}
use Rattle.std.specs.Int.Signed.{le_z_yes}
use Rattle.foundation.specs.Lists.{All, all_map, all_both, all_image, all_concat, all_get_d, concat_map, tabulate}
use Rattle.foundation.specs.Least.{lesser, least_from, least_of, least_all}
use Rattle.definitions.specs.Jacobian.{side}
use Rattle.definitions.specs.Subdivision.{Cell, child, children, whole, cells}
use Rattle.definitions.specs.Verdict.{Finding, corners_of, coefficients_of}
use Rattle.definitions.specs.Coefficients.{coefficients}
use Rattle.definitions.specs.Bounds.{low, high}
use Rattle.expansion_theory.specs.Cells.{CellOf, all_cells, corner_is}
use Rattle.expansion_theory.specs.Size.{cells_size}
use Rattle.verdict_theory.specs.Positive.{findings_of, corners_of_law}
use Rattle.verdict_theory.specs.Search.{corner_values}
use Rattle.verdict_theory.specs.Clear.{child_control, child_control_law}
use Rattle.verdict_theory.specs.Bounds.{shown_some, high_corners, coefficients_some, corners_some}
use Rattle.verdict_theory.specs.Extremes.{Extremes, with_all, extremes, extremes_bounds}
use Rattle.search_theory.specs.Meaning.{Small}
use Rattle.search_theory.specs.Eighths.{least_with}
use Rattle.search_theory.specs.Levels.{whole_of, whole_is}

-- one cell more: the least of its 27 coefficients, and the first 8 of them, its corners
abbrev pub with_control : List ℤ → Extremes → Extremes
with_control g r = record { low = lesser r.low (least_of g); high = least_from r.high (take 8 g) }

-- the values of findings that are numbered from a list are that list
values_from : (g : List ℤ) (f : ℕ → Finding) → ((k : ℕ) → (f k).value ≡ get_or g k (pos 0)) → (k n : ℕ) → k + n ≤ length g → map (λ v. v.value) (tabulate f k n) ≡ take n (drop k g)
values_from g f h k zero l = refl
values_from g f h k (suc n) l = ap₂ ◌∷◌ (h k) (values_from g f h (suc k) n (omega arith)) ∙ sym (ap (take (suc n)) (drop-cons g k (pos 0) (omega arith)))

module _ (s : Cell) (sized : length s.control ≡ 27) where
  pub coefficient_values : map (λ v. v.value) (coefficients_of s) ≡ take 27 s.control
  unfolding coefficients_of
  coefficient_values = values_from s.control (λ n. record { number = suc n; a = s.a; b = s.b; c = s.c; value = get_or s.control n (pos 0) }) (λ k. refl) 0 27 (omega arith)

  pub corner_values_law : map (λ v. v.value) (corner_values s) ≡ take 8 s.control
  unfolding corner_values
  corner_values_law = values_from s.control (λ k. record { number = suc k; a = s.a + side 0 k; b = s.b + side 1 k; c = s.c + side 2 k; value = get_or s.control k (pos 0) }) (λ k. refl) 0 8 (omega arith)

  -- the cell at the end
  pub with_last : (n : ℕ) → n ≡ 0 → (g : List ℤ) → s.control ≡ g → (r : Extremes) → with_control g r ≡ extremes n s r
  unfolding extremes
  with_last n e g h r =
      let low = sym (ap (least_from r.low) (coefficient_values ∙ take_all 27 s.control (omega (arith, sized))) ∙ least_with s.control sized r.low) in
      ap (λ (c : List ℤ). with_control c r) (sym h) ∙ (λ i. record { low = low i; high = least_from r.high (sym corner_values_law i) }) ∙ ap (λ (m : ℕ). extremes m s r) (sym e)

-- ---- the first k children, where n levels are left
abbrev pub extremes_over : Cell → Extremes → ℕ → ℕ → Extremes
extremes_over s r n zero = r
extremes_over s r n (suc k) = extremes (n - 1) (child s k) (extremes_over s r n k)

pub extremes_next : (s : Cell) (r : Extremes) (n k : ℕ) → extremes_over s r n (k + 1) ≡ extremes (n - 1) (child s k) (extremes_over s r n k)
extremes_next s r n k = let p : k + 1 ≡ suc k = omega arith in ap (extremes_over s r n) p

all_children : (s : Cell) (r : Extremes) (n : ℕ) → (n ≡ 0 → ⊥) → extremes_over s r n 8 ≡ extremes n s r
unfolding extremes children
all_children s r zero h = absurd (h refl)
all_children s r (suc n) h = let p : suc n - 1 ≡ n = omega arith in ap (λ (m : ℕ). with_all (extremes m) (children s) r) p

pub extremes_last : (s : Cell) (r : Extremes) (n k : ℕ) → k ≡ 8 → (n ≡ 0 → ⊥) → extremes_over s r n k ≡ extremes n s r
extremes_last s r n k e h = ap (extremes_over s r n) e ∙ all_children s r n h

pub child_of : (s : Cell) (k : ℕ) (g xs : List ℤ) → s.control ≡ g → xs ≡ child_control g k → (child s k).control ≡ xs
child_of s k g xs h e = sym (e ∙ ap (λ (c : List ℤ). child_control c k) (sym h) ∙ child_control_law s k)

-- ---- one value more
from_append : (v : ℤ) (xs : List ℤ) (y : ℤ) → least_from v (xs ++ (y ∷ [])) ≡ lesser (least_from v xs) y
from_append v [] y = refl
from_append v (x ∷ xs) y = from_append (lesser v x) xs y

pub least_next : (v : ℤ) (g : List ℤ) (k : ℕ) → k < length g → least_from v (take (k + 1) g) ≡ lesser (least_from v (take k g)) (get_or g k (pos 0))
least_next v g k h = let p : k + 1 ≡ suc k = omega arith in ap (λ (n : ℕ). least_from v (take n g)) p ∙ ap (least_from v) (take-suc g k (pos 0) h) ∙ from_append v (take k g) (get_or g k (pos 0))

-- ---- both bounds, from the greatest number
abbrev pub bounds_at : List ℤ → ℕ → Extremes
bounds_at xs D = record { low = low xs D; high = high xs D }

below_magnitude : (z : ℤ) (b : ℕ) → nat_abs z ≤ b → z ≤ℤ pos b
below_magnitude (pos n) b h = le_z_yes (le→leb n b h)
below_magnitude (negsuc n) b h = le_z_yes tt

-- what holds of every number up to `top` holds of coefficients that stay within it, of the corners and of both bounds
module _ (top : ℕ) (P : ℤ → Type 0) (holds : (v : ℤ) → nat_abs v ≤ top → P v) (xs : List ℤ) (D : ℕ) (small : Small top (coefficients xs) D) where
  whole_within : All (λ v. nat_abs v ≤ small.bound) (whole xs).control
  unfolding whole
  whole_within = small.control.within

  abbrev Under : Cell → Type 0
  Under s = All P s.control × CellOf xs D s

  cells_under : All Under (cells xs D)
  cells_under = all_both (λ s. All P s.control) (CellOf xs D) (cells xs D)
      (all_map (λ s. All (λ v. nat_abs v ≤ small.bound * 64 ^ D) s.control) (λ s. All P s.control)
      (λ s p. all_map (λ v. nat_abs v ≤ small.bound * 64 ^ D) P (λ v q. holds v (le_trans q small.small)) s.control p) (cells xs D) (cells_size xs small.bound whole_within D))
      (all_cells xs D)

  one_under : (s : Cell) → Under s → (n : ℕ) → n < 27 → P (get_or s.control n (pos 0))
  one_under s p n l = all_get_d P s.control (pos 0) n (omega (arith, p.1.sized)) p.0

  coefficients_under : All P (map (λ f. f.value) (concat_map coefficients_of (cells xs D)))
  coefficients_under = all_image P (λ f. f.value) (concat_map coefficients_of (cells xs D)) (all_concat (λ f. P f.value) coefficients_of (cells xs D)
      (all_map Under (λ s. All (λ f. P f.value) (coefficients_of s)) (λ s p. findings_of P s (one_under s p)) (cells xs D) cells_under))

  corners_under : All P (map (λ f. f.value) (concat_map (corners_of xs D) (cells xs D)))
  corners_under = all_image P (λ f. f.value) (concat_map (corners_of xs D) (cells xs D)) (all_concat (λ f. P f.value) (corners_of xs D) (cells xs D)
      (all_map Under (λ s. All (λ f. P f.value) (corners_of xs D s))
      (λ s p. corners_of_law xs (λ f. P f.value) D s (λ n l. subst P (corner_is xs D s p.1 n l) (one_under s p n (omega arith)))) (cells xs D) cells_under))

  pub low_holds : P (low xs D)
  unfolding low
  low_holds = least_all P (map (λ f. f.value) (concat_map coefficients_of (cells xs D))) (shown_some xs coefficients_of coefficients_some D) coefficients_under

  pub high_holds : P (high xs D)
  high_holds = subst P (sym (high_corners xs D)) (least_all P (map (λ f. f.value) (concat_map (corners_of xs D) (cells xs D))) (shown_some xs (corners_of xs D) (corners_some xs D) D) corners_under)

-- a search of coefficients that stay within `top` starts from `top` itself: none passes it
pub bounds_are : (top : ℕ) (xs g : List ℤ) (D : ℕ) → g ≡ coefficients xs → Small top g D → extremes D (whole_of g) (record { low = pos top; high = pos top }) ≡ bounds_at xs D
bounds_are top xs g D e small =
    let fits = subst (λ (c : List ℤ). Small top c D) e small in
    ap (λ (s : Cell). extremes D s (record { low = pos top; high = pos top })) (whole_is xs g e)
    ∙ extremes_bounds xs D (pos top) (coefficients_under top (λ v. v ≤ℤ pos top) (λ v q. below_magnitude v top q) xs D fits) (corners_under top (λ v. v ≤ℤ pos top) (λ v q. below_magnitude v top q) xs D fits)
