-- A row, told by where its three coefficients stand, from 0.
use Rattle.std.specs.Prelude.{◌≡◌, List, [], ◌∷◌, map, ℕ, ◌<◌, get_or, length, ℤ}
use Rattle.std.proofs.Common.{arith}
use Rattle.expansion_theory.specs.Rows.{line_at}
use Rattle.cell_numbers.specs.Values.{value_read}

abbrev pub line_of : List ℤ → List ℕ → List ℤ
line_of c row = line_at c (get_or row 0 0) (get_or row 1 0) (get_or row 2 0)

-- they are of the 27
abbrev pub Inside : List ℕ → Type 0
Inside row = (get_or row 0 0 < 27) × (get_or row 1 0 < 27) × (get_or row 2 0 < 27)

-- the values of the three numbers that are read
pub line_read : {N : Type 0} (value : N → ℤ) (g : List N) → length g ≡ 27 → (row : List ℕ) → Inside row → (p q r : N)
    → value (get_or g (get_or row 0 0) p) ∷ value (get_or g (get_or row 1 0) q) ∷ value (get_or g (get_or row 2 0) r) ∷ [] ≡ line_of (map value g) row
line_read value g sized row h p q r =
    let first = value_read value g (get_or row 0 0) p (omega (arith, sized, h.0)) in
    let second = value_read value g (get_or row 1 0) q (omega (arith, sized, h.1)) in
    let third = value_read value g (get_or row 2 0) r (omega (arith, sized, h.2)) in
    λ i. first i ∷ second i ∷ third i ∷ []
