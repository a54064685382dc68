-- The two runs hold the 27 lists; bounds on their entries. Each fact is one computed test of the runs and the lists that the table gives.
use Rattle.std.specs.Prelude.{◌≡◌, refl, Bool, true, List, [], ◌∷◌, ◌&&◌, ℕ, suc, ◌+◌, ◌<◌, ◌≤◌, T, leb, get_or, length, nat_abs}
use Rattle.std.proofs.Common.{sym, subst, leb→le}
use Rattle.std.specs.Float.Ieee.Fits.{and_l, and_r}
use Rattle.foundation.specs.Lists.{All, tabulate, tabulate_agree, all_below, below}
use Rattle.coefficient_table.specs.Sparse.{Entry, sparse_row, sparse_rows, table_starts, AreSparseRows, AreSparseRuns, held_row}

module _ {starts : List ℕ} {terms : List Entry} (h : AreSparseRuns starts terms) where
  -- what holds of the table's runs holds of these
  pub transfer : (P : List ℕ → List Entry → Type 0) → P table_starts (sparse_rows 27) → P starts terms
  transfer P = subst (λ (t : List ℕ × List Entry). P t.0 t.1) (sym h.same)

  compared : (f g : List ℕ → ℕ → ℕ) (m : ℕ) → T (all_below m (λ k. leb (f table_starts k) (g table_starts k))) → (k : ℕ) → k < m → f starts k ≤ g starts k
  compared f g m t k l = leb→le (f starts k) (g starts k) (below (test starts) m (transfer (λ s u. T (all_below m (test s))) t) k l)
    where
      test : List ℕ → ℕ → Bool
      test s k = leb (f s k) (g s k)

  pub rows_held : AreSparseRows (held_row starts terms)
  rows_held = record { same = tabulate_agree (held_row starts terms) sparse_row 27 (transfer (λ s t. tabulate (held_row s t) 0 27 ≡ tabulate sparse_row 0 27) refl) }

  pub starts_ordered : (n : ℕ) → n < 27 → get_or starts n 0 ≤ get_or starts (n + 1) 0
  starts_ordered = compared (λ s n. get_or s n 0) (λ s n. get_or s (n + 1) 0) 27 tt

  pub row_inside : (n : ℕ) → n < 27 → get_or starts (n + 1) 0 ≤ 112
  row_inside = compared (λ s n. get_or s (n + 1) 0) (λ s n. 112) 27 tt

-- a place of a row, with a number of the table
pub record IsTerm (e : Entry) : Type 0 where
  pub column_small : e.0 < 20
  pub value_small : nat_abs e.1 ≤ 8

test : Entry → Bool
test e = leb (suc e.0) 20 && leb (nat_abs e.1) 8

all_pass : List Entry → Bool
all_pass [] = true
all_pass (e ∷ es) = test e && all_pass es

passed : (es : List Entry) → T (all_pass es) → All IsTerm es
unfolding test all_pass
passed [] t = tt
passed (e ∷ es) t = let here = and_l (test e) (all_pass es) t in (
  record { column_small = leb→le (suc e.0) 20 (and_l (leb (suc e.0) 20) (leb (nat_abs e.1) 8) here); value_small = leb→le (nat_abs e.1) 8 (and_r (leb (suc e.0) 20) (leb (nat_abs e.1) 8) here) },
  passed es (and_r (test e) (all_pass es) t),
)

pub row_terms : (n : ℕ) → n < 27 → All IsTerm (sparse_row n)
unfolding test all_pass
row_terms n h = passed (sparse_row n) (below (λ n. all_pass (sparse_row n)) 27 tt n h)
