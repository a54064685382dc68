-- What the constant table and every copy of it hold: document 01's table, all 540 entries.
use Rattle.std.specs.Prelude.{◌≡◌, List, ℤ}
use Rattle.definitions.specs.Coefficients.{table}

pub record IsTable (xs : List ℤ) : Type 0 where
  pub same : xs ≡ table
