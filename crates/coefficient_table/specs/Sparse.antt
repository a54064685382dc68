-- Document 02, No. 3: "Work each row from a list of its non-zero places with their numbers".
use Rattle.std.specs.Prelude.{◌≡◌, ◌<◌, Bool, true, false, List, [], ◌∷◌, ℕ, zero, suc, ◌+◌, ◌-◌, take, drop, get_or, length, ℤ, pos, negsuc}
use Rattle.foundation.specs.Lists.{concat_map, tabulate}
use Rattle.definitions.specs.Coefficients.{row}

-- a place of a row, counted from 0, and the number that stands there
abbrev pub Entry : Type 0
Entry = ℕ × ℤ

abbrev pub is_zero : ℤ → Bool
is_zero (pos zero) = true
is_zero (pos (suc n)) = false
is_zero (negsuc n) = false

-- place k with its number c before the other entries, unless c is 0
abbrev pub kept : ℕ → ℤ → List Entry → List Entry
kept k c es = elim (is_zero c) [ true ↦ es | false ↦ (k, c) ∷ es ]

-- the non-zero places of a list of numbers whose first place is k
abbrev pub non_zero_from : ℕ → List ℤ → List Entry
non_zero_from k [] = []
non_zero_from k (c ∷ cs) = kept k c (non_zero_from (suc k) cs)

-- the list of row n
abbrev pub sparse_row : ℕ → List Entry
sparse_row n = non_zero_from 0 (row n)

-- ---- the lists in two runs
-- the lists of the first n rows, laid end to end
abbrev pub sparse_rows : ℕ → List Entry
sparse_rows n = concat_map sparse_row (tabulate (λ i. i) 0 n)

-- where each list starts and, last, where the 27th ends
abbrev pub table_starts : List ℕ
table_starts = tabulate (λ n. length (sparse_rows n)) 0 28

-- the runs are these two
pub record AreSparseRuns (starts : List ℕ) (terms : List Entry) : Type 0 where
  pub same : ◌≡◌ {A = List ℕ × List Entry} (starts, terms) (table_starts, sparse_rows 27)

-- the list of row n in runs: from its start up to the next one's
abbrev pub held_row : List ℕ → List Entry → ℕ → List Entry
held_row starts terms n = take (get_or starts (n + 1) 0 - get_or starts n 0) (drop (get_or starts n 0) terms)

-- what holds of lists that are the 27
pub record AreSparseRows (rows : ℕ → List Entry) : Type 0 where
  pub same : (n : ℕ) → n < 27 → rows n ≡ sparse_row n
