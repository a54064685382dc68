-- Only cells with a coefficient ≤ 0 need to be opened: below any other, nothing low is found.
use Rattle.std.specs.Prelude.{◌≡◌, ℕ, zero, suc, length}
use Rattle.std.proofs.Math.Path.{refl, sym, ap}
use Rattle.std.proofs.Common.{◌∙◌, ap₂}
use Rattle.std.proofs.Math.Bool.{true, false}
use mathlib.Core.List.{List, [], ◌∷◌, ◌++◌}
use Rattle.std.proofs.Math.Option.{Option, none, some}
use Rattle.foundation.specs.Lists.{All, all_map, all_concat, all_every, concat_map, concat_map_append, append_nil}
use Rattle.definitions.specs.Subdivision.{Cell, children, descend}
use Rattle.definitions.specs.Verdict.{Finding, first_low, found, coefficients_of, opened_below}
use Rattle.expansion_theory.specs.Cells.{eight, child_sized}
use Rattle.verdict_theory.specs.Findings.{or_else, AboveZero, low_none, none_low, first_of, first_of_append}
use Rattle.verdict_theory.specs.Positive.{PositiveCell, children_positive, findings_positive, positive_below}
use Rattle.verdict_theory.specs.Stable.{opened_all}

-- ---- levels below a list of cells, part by part
module _ (next : Cell → List Cell) where
  pub descend_append : (m : ℕ) (ss ts : List Cell) → descend next m (ss ++ ts) ≡ descend next m ss ++ descend next m ts
  descend_append zero ss ts = refl
  descend_append (suc m) ss ts = ap (concat_map next) (descend_append m ss ts) ∙ concat_map_append next (descend next m ss) (descend next m ts)

  pub descend_none : (m : ℕ) → descend next m [] ≡ []
  descend_none zero = refl
  descend_none (suc m) = ap (concat_map next) (descend_none m)

  -- the first step taken first
  pub descend_first : (m : ℕ) (ss : List Cell) → descend next (suc m) ss ≡ descend next m (concat_map next ss)
  descend_first zero ss = refl
  descend_first (suc m) ss = ap (concat_map next) (descend_first m ss)

  pub descend_cell : (m : ℕ) (s : Cell) → descend next (suc m) (s ∷ []) ≡ descend next m (next s)
  descend_cell m s = descend_first m (s ∷ []) ∙ ap (descend next m) (append_nil (next s))

abbrev pub Sized : Cell → Type 0
Sized s = length s.control ≡ 27

children_sized : (s : Cell) → All Sized (children s)
children_sized s = eight Sized s (λ k _. child_sized s k)

-- a function that shows nothing low of a positive cell
module _ (g : Cell → List Finding) (shows : (s : Cell) → PositiveCell s → All AboveZero (g s)) where
  nothing_low : (ss : List Cell) → All PositiveCell ss → first_of g ss ≡ none
  nothing_low ss h = none_low (concat_map g ss) (all_concat AboveZero g ss (all_map PositiveCell (λ s. All AboveZero (g s)) shows ss h))

  below_same : (m : ℕ) (s : Cell) → Sized s → first_of g (descend children m (opened_below s)) ≡ first_of g (descend children m (children s))
  unfolding opened_below
  below_same m s h = go (first_low (coefficients_of s)) refl
    where
      go : (o : Option Finding) → first_low (coefficients_of s) ≡ o → first_of g (descend children m (elim (found o) [ true ↦ children s | false ↦ [] ])) ≡ first_of g (descend children m (children s))
      go (some f) e = refl
      go none e = ap (first_of g) (descend_none children m) ∙ sym (nothing_low (descend children m (children s)) (positive_below m (children s) (children_positive s (findings_positive s h (low_none (coefficients_of s) e)))))

  list_same : (m : ℕ) (ss : List Cell) → All Sized ss → first_of g (descend children m (concat_map opened_below ss)) ≡ first_of g (descend children m (concat_map children ss))
  list_same m [] h = refl
  list_same m (s ∷ ss) h =
      ap (first_of g) (descend_append children m (opened_below s) (concat_map opened_below ss)) ∙ first_of_append g (descend children m (opened_below s)) (descend children m (concat_map opened_below ss))
      ∙ ap₂ or_else (below_same m s h.0) (list_same m ss h.1)
      ∙ sym (first_of_append g (descend children m (children s)) (descend children m (concat_map children ss))) ∙ sym (ap (first_of g) (descend_append children m (children s) (concat_map children ss)))

  pub prune : (m : ℕ) (ss : List Cell) → All Sized ss → first_of g (descend opened_below m ss) ≡ first_of g (descend children m ss)
  prune zero ss h = refl
  prune (suc m) ss h = ap (first_of g) (descend_first opened_below m ss)
      ∙ prune m (concat_map opened_below ss) (opened_all Sized 1 ss (all_concat Sized children ss (all_every (λ s. All Sized (children s)) children_sized ss)))
      ∙ list_same m ss h ∙ sym (ap (first_of g) (descend_first children m ss))
