-- How large the volumes may be: every row of the table against such volumes fits a word, added up from any place to its end.
use Rattle.std.specs.Prelude.{List, [], ◌∷◌, ℕ, ◌+◌, ◌*◌, ◌^◌, ◌<◌, ◌≤◌, ltb, get_or, ℤ, pos, nat_abs}
use Rattle.std.proofs.Common.{ltb→lt}
use Rattle.foundation.specs.Lists.{below}
use Rattle.foundation.specs.Words.{signed_limit, split}
use Rattle.coefficient_table.specs.Sparse.{Entry, sparse_row}

-- a corner's volume is at most the first, an edge's at most the second
abbrev pub corner_volume_limit : ℕ
corner_volume_limit = 3 * 2 ^ 54

abbrev pub edge_volume_limit : ℕ
edge_volume_limit = 3 * 2 ^ 56

-- the limit of volume i, counted from 0
abbrev pub limit_at : ℕ → ℕ
limit_at = split 8 corner_volume_limit edge_volume_limit

pub record WithinLimits (vs : List ℤ) : Type 0 where
  pub small : (i : ℕ) → nat_abs (get_or vs i (pos 0)) ≤ limit_at i

-- the most that the entries of a list come to
abbrev pub reach : List Entry → ℕ
reach [] = 0
reach (e ∷ es) = nat_abs e.1 * limit_at e.0 + reach es

pub row_reach : (n : ℕ) → n < 27 → reach (sparse_row n) < signed_limit
row_reach n h = ltb→lt (reach (sparse_row n)) signed_limit (below (λ n. ltb (reach (sparse_row n)) signed_limit) 27 tt n h)
