-- A row cut: the three entries of its half on side h.
use Rattle.std.specs.Prelude.{List, [], ◌∷◌, ℕ, ℤ}
use Rattle.foundation.specs.Polynomial.{integers}
use Rattle.foundation.specs.Words.{args}
use Rattle.definitions.specs.Subdivision.{cut_row}

abbrev pub entries : ℕ → List ℤ → List ℤ
entries h row = cut_row integers h (args row) 0 ∷ cut_row integers h (args row) 1 ∷ cut_row integers h (args row) 2 ∷ []
