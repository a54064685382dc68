-- The table is the one that document 01's rules make, and the numbers by place are the numbering's.
use Rattle.std.specs.Prelude.{◌≡◌, Bool, true, false, List, [], ◌∷◌, ◌++◌, map, ℕ, ◌+◌, ◌*◌, ◌/◌, ◌%◌, ◌<◌, eqb, get_or, length, ℤ, pos, negsuc}
use Rattle.std.proofs.Common.{◌∙◌, arith}
use Rattle.std.proofs.Math.ListN.{get_or-map}
use Rattle.foundation.specs.Polynomial.{Expr, var, con, eval, same, solve}
use Rattle.foundation.specs.Lists.{all_below, below}
use Rattle.definitions.specs.Coefficients.{corner_numbers, edge_numbers, numbering, place, numbered, numbers, at, table}

-- ---- the rule of an entry
abbrev pub member : ℕ → List ℕ → Bool
member n [] = false
member n (m ∷ ms) = elim (eqb n m) [ true ↦ true | false ↦ member n ms ]

abbrev pub within : List ℕ → List ℕ → Bool
within [] ms = true
within (n ∷ ns) ms = elim (member n ms) [ true ↦ within ns ms | false ↦ false ]

-- "corner = its J; edge = 2·(J at its middle) − half the sum of its two corner values; face = sum of its four edge-middle values − 3/4 of the sum of its four corner values;
-- centre = half the sum of the twelve edge-middle values − 5/8 of the sum of the eight corner values": times 8, edge values in quarters, by the number of corners that it lies between.
abbrev pub corner_share : ℕ → ℤ
corner_share n = elim (eqb n 1) [ true ↦ pos 8 | false ↦ elim (eqb n 2) [ true ↦ negsuc 3 | false ↦ elim (eqb n 4) [ true ↦ negsuc 5 | false ↦ negsuc 4 ] ] ]

abbrev pub edge_share : ℕ → ℤ
edge_share n = elim (eqb n 2) [ true ↦ pos 4 | false ↦ elim (eqb n 4) [ true ↦ pos 2 | false ↦ pos 1 ] ]

-- row n is coefficient n's, column j the volume's of corner or edge j: 0 unless all that the volume lies between is among what the coefficient lies between
abbrev pub rule : ℕ → ℕ → ℤ
rule n j = let row = get_or numbering n [] in let column = get_or (corner_numbers ++ edge_numbers) j [] in
    elim (within column row) [ false ↦ pos 0 | true ↦ elim (eqb (length column) 1) [ true ↦ corner_share (length row) | false ↦ edge_share (length row) ] ]

abbrev entry : ℕ → ℕ → ℤ
entry n j = get_or table (20 * n + j) (pos 0)

abbrev ruled : ℕ → ℕ → Bool
ruled n j = same (con (entry n j)) (con (rule n j))

pub table_rule : (n j : ℕ) → n < 27 → j < 20 → get_or table (20 * n + j) (pos 0) ≡ rule n j
table_rule n j hn hj = solve (λ i. pos 0) (con (entry n j)) (con (rule n j)) (below (ruled n) 20 (below (λ n. all_below 20 (ruled n)) 27 tt n hn) j hj)

-- ---- the numbers by place
abbrev placed : List Expr
placed = map (λ corners. var (9 * place 0 corners + 3 * place 1 corners + place 2 corners)) numbering

abbrev numbered_back : ℕ → Bool
numbered_back p = same (get_or placed (get_or numbers p 0) (con (pos 0))) (var p)

pub at_numbered : (f : ℕ → ℕ → ℕ → ℤ) (i j k : ℕ) → i < 3 → j < 3 → k < 3 → at (numbered f) i j k ≡ f i j k
unfolding at numbered
at_numbered f i j k hi hj hk = get_or-map (eval by_place) placed (get_or numbers p 0) (con (pos 0)) ∙ solve by_place (get_or placed (get_or numbers p 0) (con (pos 0))) (var p) (below numbered_back 27 tt p (omega arith))
    ∙ (λ t. f (first t) (second t) (third t))
  where
    p : ℕ
    p = 9 * i + 3 * j + k

    by_place : ℕ → ℤ
    by_place q = f (q / 9) (q / 3 % 3) (q % 3)

    first : p / 9 ≡ i
    first = omega arith

    second : p / 3 % 3 ≡ j
    second = omega arith

    third : p % 3 ≡ k
    third = omega arith
