-- The recursive search: one pass for each level 0, 1, .., D; a pass goes down only into cells with a coefficient ≤ 0. It yields the record.
use Rattle.std.specs.Prelude.{◌≡◌, refl, Bool, true, false, List, [], ◌∷◌, ◌++◌, ℤ, pos}
use Rattle.std.proofs.Common.{sym, ◌∙◌, ap₂, arith}
use Rattle.std.proofs.Math.Path.{ap}
use Rattle.std.proofs.Math.Option.{Option, none, some}
use Prim.Native.Nat.{ℕ, zero, suc, ◌+◌}
use Rattle.std.proofs.Math.ListN.{get_or}
use Rattle.foundation.specs.Lists.{All, all_map, concat_map, tabulate, tabulate_cong, all_tabulate}
use Rattle.definitions.specs.Jacobian.{side, scaled_jacobian}
use Rattle.definitions.specs.Subdivision.{Cell, children, whole, descend, cells}
use Rattle.definitions.specs.Verdict.{Finding, corners_of, coefficients_of, first_low, found, low_point, low_coefficient, blocked, opened_below, opened_at}
use Rattle.expansion_theory.specs.Cells.{CellOf, all_cells, corner_is}
use Rattle.expansion_theory.specs.Hull.{above_get_d}
use Rattle.verdict_theory.specs.Count.{up_to, count_at}
use Rattle.verdict_theory.specs.Findings.{or_else, or_else_none, or_else_assoc, AboveZero, low_append, first_of}
use Rattle.verdict_theory.specs.Positive.{PositiveCell, positive_findings}
use Rattle.verdict_theory.specs.Stable.{opened_all}
use Rattle.verdict_theory.specs.Prune.{descend_cell, descend_append, descend_none, Sized, prune}

-- ---- what a pass has found: nothing low, a coefficient, or a corner
pub data Found : Type 0 where
  nothing : Found
  coefficient : Finding → Found
  point : Finding → Found

pub record Pass : Type 0 where
  pub count : ℕ
  pub found : Found

-- the corners of a cell by its coefficients 1 to 8
unfoldable pub corner_values : Cell → List Finding
corner_values s = tabulate (λ k. record { number = suc k; a = s.a + side 0 k; b = s.b + side 1 k; c = s.c + side 2 k; value = get_or s.control k (pos 0) }) 0 8

-- with the first corner and the first coefficient that are low
abbrev pub finds : Option Finding → Option Finding → Found
finds (some f) k = point f
finds none (some f) = coefficient f
finds none none = nothing

abbrev pub pass : ℕ → Option Finding → Option Finding → Pass
pass n p k = record { count = n; found = finds p k }

-- one more cell, where no low corner was found before
abbrev pub open_after : ℕ → Option Finding → Cell → Pass
open_after n k s = pass (suc n) (first_low (corner_values s)) (or_else k (first_low (coefficients_of s)))

unfoldable pub open_cell : Cell → Pass → Pass
open_cell s r = elim r.found [ nothing ↦ open_after r.count none s | coefficient f ↦ open_after r.count (some f) s | point f ↦ r ]

-- one after the other
abbrev pub open_all : (Cell → Pass → Pass) → List Cell → Pass → Pass
open_all f [] r = r
open_all f (s ∷ ss) r = open_all f ss (f s r)

abbrev pub ended : Found → Bool
ended nothing = false
ended (coefficient f) = false
ended (point f) = true

-- the opened cells n levels below s, after what was found before: "recursive search of the eight children, the number of levels left falling at each call"
unfoldable pub visit : ℕ → Cell → Pass → Pass
visit zero s r = open_cell s r
visit (suc n) s r = elim (ended r.found) [ true ↦ r | false ↦ elim (blocked s) [ true ↦ open_all (visit n) (children s) r | false ↦ r ] ]

-- ---- a visit opens the cells that are due, in order
all_append : (f : Cell → Pass → Pass) (ss ts : List Cell) (r : Pass) → open_all f (ss ++ ts) r ≡ open_all f ts (open_all f ss r)
all_append f [] ts r = refl
all_append f (s ∷ ss) ts r = all_append f ss ts (f s r)

ends : (ss : List Cell) (n : ℕ) (f : Finding) → open_all open_cell ss (record { count = n; found = point f }) ≡ record { count = n; found = point f }
unfolding open_cell
ends [] n f = refl
ends (s ∷ ss) n f = ends ss n f

visit_all : (n : ℕ) → ((s : Cell) (r : Pass) → visit n s r ≡ open_all open_cell (descend opened_below n (s ∷ [])) r) → (ss : List Cell) (r : Pass) → open_all (visit n) ss r ≡ open_all open_cell (descend opened_below n ss) r
visit_all n h [] r = ap (λ (l : List Cell). open_all open_cell l r) (sym (descend_none opened_below n))
visit_all n h (s ∷ ss) r = visit_all n h ss (visit n s r) ∙ ap (open_all open_cell (descend opened_below n ss)) (h s r)
    ∙ sym (all_append open_cell (descend opened_below n (s ∷ [])) (descend opened_below n ss) r) ∙ ap (λ (l : List Cell). open_all open_cell l r) (sym (descend_append opened_below n (s ∷ []) ss))

below_is : (n : ℕ) → ((s : Cell) (r : Pass) → visit n s r ≡ open_all open_cell (descend opened_below n (s ∷ [])) r)
    → (s : Cell) (r : Pass) → ◌≡◌ {A = Pass} (elim (blocked s) [ true ↦ open_all (visit n) (children s) r | false ↦ r ]) (open_all open_cell (descend opened_below n (opened_below s)) r)
unfolding opened_below
below_is n h s r = go (blocked s)
  where
    go : (b : Bool) → ◌≡◌ {A = Pass} (elim b [ true ↦ open_all (visit n) (children s) r | false ↦ r ]) (open_all open_cell (descend opened_below n (elim b [ true ↦ children s | false ↦ [] ])) r)
    go true = visit_all n h (children s) r
    go false = ap (λ (l : List Cell). open_all open_cell l r) (sym (descend_none opened_below n))

pub visit_is : (n : ℕ) (s : Cell) (r : Pass) → visit n s r ≡ open_all open_cell (descend opened_below n (s ∷ [])) r
unfolding visit
visit_is zero s r = refl
visit_is (suc n) s r = go r.count r.found (below_is n (visit_is n) s) ∙ ap (λ (l : List Cell). open_all open_cell l r) (sym (descend_cell opened_below n s))
  where
    go : (m : ℕ) (o : Found) → ((r : Pass) → ◌≡◌ {A = Pass} (elim (blocked s) [ true ↦ open_all (visit n) (children s) r | false ↦ r ]) (open_all open_cell (descend opened_below n (opened_below s)) r))
        → ◌≡◌ {A = Pass} (elim (ended o) [ true ↦ record { count = m; found = o } | false ↦ elim (blocked s) [ true ↦ open_all (visit n) (children s) (record { count = m; found = o }) | false ↦ record { count = m; found = o } ] ]) (open_all open_cell (descend opened_below n (opened_below s)) (record { count = m; found = o }))
    go m nothing h = h (record { count = m; found = nothing })
    go m (coefficient f) h = h (record { count = m; found = coefficient f })
    go m (point f) h = sym (ends (descend opened_below n (opened_below s)) m f)

-- ---- what opening a list of cells comes to
abbrev low_corner : Cell → Bool
low_corner s = found (first_low (corner_values s))

open_none : (n : ℕ) (k : Option Finding) (s : Cell) → open_cell s (pass n none k) ≡ open_after n k s
unfolding open_cell
open_none n none s = refl
open_none n (some f) s = refl

pub open_all_law : (ss : List Cell) (n : ℕ) (k : Option Finding) → open_all open_cell ss (pass n none k) ≡ pass (n + up_to low_corner ss) (first_of corner_values ss) (or_else k (first_of coefficients_of ss))
open_all_law [] n k = λ i. pass (none_more i) none (sym (or_else_none k) i)
  where
    none_more : n ≡ n + 0
    none_more = omega arith
open_all_law (s ∷ ss) n k = ap (open_all open_cell ss) (open_none n k s) ∙ go (first_low (corner_values s)) (open_all_law ss (suc n)) ∙ sym (ap₂ (λ p q. pass (n + up_to low_corner (s ∷ ss)) p (or_else k q)) (low_append (corner_values s) (concat_map corner_values ss)) (low_append (coefficients_of s) (concat_map coefficients_of ss)))
  where
    one_more : (m : ℕ) → suc n + m ≡ n + suc m
    one_more m = omega arith

    just_one : suc n ≡ n + 1
    just_one = omega arith

    go : (p : Option Finding) → ((k : Option Finding) → open_all open_cell ss (pass (suc n) none k) ≡ pass (suc n + up_to low_corner ss) (first_of corner_values ss) (or_else k (first_of coefficients_of ss)))
        → open_all open_cell ss (pass (suc n) p (or_else k (first_low (coefficients_of s)))) ≡ pass (n + elim (found p) as (λ _. ℕ) [ true ↦ 1 | false ↦ suc (up_to low_corner ss) ]) (or_else p (first_of corner_values ss)) (or_else k (or_else (first_low (coefficients_of s)) (first_of coefficients_of ss)))
    go (some f) h = ends ss (suc n) f ∙ (λ i. record { count = just_one i; found = point f })
    go none h = h (or_else k (first_low (coefficients_of s))) ∙ (λ i. pass (one_more (up_to low_corner ss) i) (first_of corner_values ss) (or_else_assoc k (first_low (coefficients_of s)) (first_of coefficients_of ss) i))

-- ---- the corners by their coefficients are the corners
pub positive_values : (s : Cell) → PositiveCell s → All AboveZero (corner_values s)
unfolding corner_values
positive_values s h = all_tabulate AboveZero (λ k. record { number = suc k; a = s.a + side 0 k; b = s.b + side 1 k; c = s.c + side 2 k; value = get_or s.control k (pos 0) }) 0 8 (λ k _ l. above_get_d (pos 1) s.control h k (omega arith))

module _ (xs : List ℤ) where
  values_are : (m : ℕ) (s : Cell) → CellOf xs m s → corner_values s ≡ corners_of xs m s
  unfolding corner_values corners_of
  values_are m s h = tabulate_cong (λ k. record { number = suc k; a = s.a + side 0 k; b = s.b + side 1 k; c = s.c + side 2 k; value = get_or s.control k (pos 0) })
      (λ k. let a = s.a + side 0 k in let b = s.b + side 1 k in let c = s.c + side 2 k in record { number = suc k; a = a; b = b; c = c; value = scaled_jacobian xs m a b c }) 0 8
      (λ k l i. record { number = suc k; a = s.a + side 0 k; b = s.b + side 1 k; c = s.c + side 2 k; value = corner_is xs m s h k (omega arith) i })

  pub corners_same : (m : ℕ) (ss : List Cell) → All (CellOf xs m) ss → concat_map corner_values ss ≡ concat_map (corners_of xs m) ss
  corners_same m [] h = refl
  corners_same m (s ∷ ss) h = ap₂ ◌++◌ (values_are m s h.0) (corners_same m ss h.1)

  count_same : (m : ℕ) (ss : List Cell) → All (CellOf xs m) ss → up_to low_corner ss ≡ up_to (λ s. found (first_low (corners_of xs m s))) ss
  count_same m [] h = refl
  count_same m (s ∷ ss) h = ap₂ (λ (o : Option Finding) (n : ℕ). elim (found o) as (λ _. ℕ) [ true ↦ 1 | false ↦ suc n ]) (ap first_low (values_are m s h.0)) (count_same m ss h.1)

  sizes : (m : ℕ) → All Sized (cells xs m)
  sizes m = all_map (CellOf xs m) Sized (λ s h. h.sized) (cells xs m) (all_cells xs m)

  -- a visit of the whole, m levels down, finds what the level's definition finds
  pub visit_whole : (m n : ℕ) → visit m (whole xs) (pass n none none) ≡ pass (n + count_at xs m) (low_point xs m) (low_coefficient xs m)
  unfolding low_point low_coefficient
  visit_whole m n = visit_is m (whole xs) (pass n none none) ∙ open_all_law (opened_at xs m) n none
      ∙ (λ i. pass (n + count_same m (opened_at xs m) (opened_all (CellOf xs m) m (whole xs ∷ []) (all_cells xs m)) i)
      ((prune corner_values positive_values m (whole xs ∷ []) (sizes 0) ∙ ap first_low (corners_same m (cells xs m) (all_cells xs m))) i)
      (prune coefficients_of positive_findings m (whole xs ∷ []) (sizes 0) i))
