-- The bounds by recursion over the eight children, the least so far handed on.
use Rattle.std.specs.Prelude.{◌≡◌, refl, List, [], ◌∷◌, ◌++◌, map, ℕ, zero, suc, ◌<◌, length, ℤ, ◌≤ℤ◌}
use Rattle.std.proofs.Common.{sym, ◌∙◌, ap, arith}
use Rattle.std.specs.Int.Signed.{≤ℤ_refl}
use Rattle.foundation.specs.Lists.{All, concat_map}
use Rattle.foundation.specs.Order.{le_antisym}
use Rattle.foundation.specs.Least.{lesser, least_from, least_of, lesser_right, lesser_greatest}
use Rattle.definitions.specs.Subdivision.{Cell, children, whole, descend, cells}
use Rattle.definitions.specs.Verdict.{Finding, corners_of, coefficients_of}
use Rattle.definitions.specs.Bounds.{low, high}
use Rattle.expansion_theory.specs.Cells.{all_cells}
use Rattle.verdict_theory.specs.Bounds.{shown_some, high_corners, coefficients_some, corners_some}
use Rattle.verdict_theory.specs.Prune.{descend_append, descend_none, descend_cell}
use Rattle.verdict_theory.specs.Search.{corner_values, corners_same}

pub record Extremes : Type 0 where
  pub low : ℤ
  pub high : ℤ

abbrev values : List Finding → List ℤ
values fs = map (λ f. f.value) fs

-- the least so far, with the coefficients and the corners of one cell more
abbrev pub with : Cell → Extremes → Extremes
with s r = record { low = least_from r.low (values (coefficients_of s)); high = least_from r.high (values (corner_values s)) }

abbrev pub with_all : (Cell → Extremes → Extremes) → List Cell → Extremes → Extremes
with_all f [] r = r
with_all f (s ∷ ss) r = with_all f ss (f s r)

-- the cells n levels below s
unfoldable pub extremes : ℕ → Cell → Extremes → Extremes
extremes zero s r = with s r
extremes (suc n) s r = with_all (extremes n) (children s) r

all_append : (f : Cell → Extremes → Extremes) (ss ts : List Cell) (r : Extremes) → with_all f (ss ++ ts) r ≡ with_all f ts (with_all f ss r)
all_append f [] ts r = refl
all_append f (s ∷ ss) ts r = all_append f ss ts (f s r)

extremes_all : (n : ℕ) → ((s : Cell) (r : Extremes) → extremes n s r ≡ with_all with (descend children n (s ∷ [])) r) → (ss : List Cell) (r : Extremes) → with_all (extremes n) ss r ≡ with_all with (descend children n ss) r
extremes_all n h [] r = ap (λ (l : List Cell). with_all with l r) (sym (descend_none children n))
extremes_all n h (s ∷ ss) r = extremes_all n h ss (extremes n s r) ∙ ap (with_all with (descend children n ss)) (h s r)
    ∙ sym (all_append with (descend children n (s ∷ [])) (descend children n ss) r) ∙ ap (λ (l : List Cell). with_all with l r) (sym (descend_append children n (s ∷ []) ss))

pub extremes_is : (n : ℕ) (s : Cell) (r : Extremes) → extremes n s r ≡ with_all with (descend children n (s ∷ [])) r
unfolding extremes
extremes_is zero s r = refl
extremes_is (suc n) s r = extremes_all n (extremes_is n) (children s) r ∙ ap (λ (l : List Cell). with_all with l r) (sym (descend_cell children n s))

-- ---- the least of a level's values, from a number that none passes
least_append : (v : ℤ) (xs ys : List ℤ) → least_from v (xs ++ ys) ≡ least_from (least_from v xs) ys
least_append v [] ys = refl
least_append v (x ∷ xs) ys = least_append (lesser v x) xs ys

map_append : {A B : Type 0} (f : A → B) (xs ys : List A) → map f (xs ++ ys) ≡ map f xs ++ map f ys
map_append f [] ys = refl
map_append f (x ∷ xs) ys = ap (λ l. f x ∷ l) (map_append f xs ys)

module _ (g : Cell → List Finding) where
  least_cells : (v : ℤ) (s : Cell) (ss : List Cell) → least_from v (values (concat_map g (s ∷ ss))) ≡ least_from (least_from v (values (g s))) (values (concat_map g ss))
  least_cells v s ss = ap (least_from v) (map_append (λ f. f.value) (g s) (concat_map g ss)) ∙ least_append v (values (g s)) (values (concat_map g ss))

with_all_law : (ss : List Cell) (r : Extremes) → with_all with ss r ≡ record { low = least_from r.low (values (concat_map coefficients_of ss)); high = least_from r.high (values (concat_map corner_values ss)) }
with_all_law [] r = refl
with_all_law (s ∷ ss) r = with_all_law ss (with s r) ∙ (λ i. record { low = sym (least_cells coefficients_of r.low s ss) i; high = sym (least_cells corner_values r.high s ss) i })

from_least : (v : ℤ) (xs : List ℤ) → 0 < length xs → All (λ x. x ≤ℤ v) xs → least_from v xs ≡ least_of xs
from_least v [] h k = absurd (omega arith)
from_least v (x ∷ xs) h k = ap (λ (y : ℤ). least_from y xs) (le_antisym (lesser v x) x (lesser_right v x) (lesser_greatest x v x k.0 (≤ℤ_refl x)))

module _ (xs : List ℤ) where
  -- the low and the high bound, from a number that no value of the level passes
  pub extremes_bounds : (D : ℕ) (v : ℤ) → All (λ x. x ≤ℤ v) (values (concat_map coefficients_of (cells xs D))) → All (λ x. x ≤ℤ v) (values (concat_map (corners_of xs D) (cells xs D)))
      → extremes D (whole xs) (record { low = v; high = v }) ≡ record { low = low xs D; high = high xs D }
  unfolding low
  extremes_bounds D v h k = extremes_is D (whole xs) (record { low = v; high = v }) ∙ with_all_law (cells xs D) (record { low = v; high = v }) ∙ (λ i. record { low = lows i; high = highs i })
    where
      lows : least_from v (values (concat_map coefficients_of (cells xs D))) ≡ low xs D
      lows = from_least v (values (concat_map coefficients_of (cells xs D))) (shown_some xs coefficients_of coefficients_some D) h

      highs : least_from v (values (concat_map corner_values (cells xs D))) ≡ high xs D
      highs = ap (λ (fs : List Finding). least_from v (values fs)) (corners_same xs D (cells xs D) (all_cells xs D)) ∙ from_least v (values (concat_map (corners_of xs D) (cells xs D))) (shown_some xs (corners_of xs D) (corners_some xs D) D) k
          ∙ sym (high_corners xs D)
