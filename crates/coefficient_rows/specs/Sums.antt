-- The entries of a row's list against the volumes, added up from the first.
use Rattle.std.specs.Prelude.{◌≡◌, List, ℕ, ◌+◌, ◌≤◌, drop, ℤ, nat_abs, ◌+ℤ◌}
use Rattle.coefficient_table.specs.Sparse.{Entry}
use Rattle.coefficient_table.specs.SparseSum.{sparse_dot}
use Rattle.coefficient_rows.specs.Limits.{reach}

-- the sum of the first k entries: with the rest it comes to the whole, and together they reach no farther than the list
pub record Summed (vs : List ℤ) (es : List Entry) (k : ℕ) (sum : ℤ) : Type 0 where
  pub total : sum +ℤ sparse_dot vs (drop k es) ≡ sparse_dot vs es
  pub room : nat_abs sum + reach (drop k es) ≤ reach es
