-- The rows against the volumes, laid down one after the other.
use Rattle.std.specs.Prelude.{List, ℕ, ℤ}
use Rattle.foundation.specs.Filled.{Filled}
use Rattle.foundation.specs.Polynomial.{integers}
use Rattle.definitions.specs.Coefficients.{row, dot}

-- 27 words whose first n are the first n rows of the table against the volumes
abbrev pub FirstRows : List ℤ → ℕ → List ℤ → Type 0
FirstRows vs n out = Filled (λ i. dot integers (row i) vs) 27 n out
