-- The nine rows of a direction by their numbers, and a half put together row by row.
use Rattle.std.specs.Prelude.{◌≡◌, List, [], ◌∷◌, map, ℕ, ◌+◌, ◌*◌, ◌<◌, get_or, set, length, ℤ, pos}
use Rattle.std.proofs.Common.{ap, ◌∙◌, arith, sym, subst}
use Rattle.std.proofs.lemmas.List.{length-map}
use Rattle.foundation.specs.Lists.{tabulate, tabulate_at}
use Rattle.foundation.specs.Words.{Within, within}
use Rattle.expansion_theory.specs.Rows.{in_line, line_at, put_row, Holds, Row}
use Rattle.expansion_theory.specs.RowLaws.{row_held}
use Rattle.cell_rows.specs.Cut.{entries}
use Rattle.cell_numbers.specs.Values.{value_read, values_put}

abbrev pub row_of : ℕ → ℕ → List ℕ
row_of d j = in_line d (3 * j) ∷ in_line d (3 * j + 1) ∷ in_line d (3 * j + 2) ∷ []

abbrev pub rows_of : ℕ → List (List ℕ)
rows_of d = tabulate (row_of d) 0 9

-- row j as it is read from them
module _ {d j : ℕ} {rows : List (List ℕ)} (e : rows ≡ rows_of d) (dl : d < 3) (jl : j < 9) where
  line_is : get_or rows j [] ≡ row_of d j
  line_is = ap (λ rs. get_or rs j []) e ∙ tabulate_at (row_of d) 9 j [] jl

  pub listed : Row d j (get_or (get_or rows j []) 0 0) (get_or (get_or rows j []) 1 0) (get_or (get_or rows j []) 2 0)
  listed = record {
    direction = dl;
    number = jl;
    start = ap (λ l. get_or l 0 0) line_is;
    middle = ap (λ l. get_or l 1 0) line_is;
    end = ap (λ l. get_or l 2 0) line_is;
  }

-- the three numbers of a row of what can be cut, as they are read
module _ {N : Type 0} (value : N → ℤ) {b d h j : ℕ} (c out : List N) (k : Holds b d h j (map value c) (map value out)) (sized : length c ≡ 27) where
  read : {x : ℕ} (a : N) → x < 27 → value (get_or c x a) ≡ get_or (map value c) x (pos 0)
  read {x} a l = value_read value c x a (omega (arith, sized, l))

  module _ {x y z : ℕ} (small : (x < 27) × (y < 27) × (z < 27)) (a e f : N) where
    line_read : (value (get_or c x a) ∷ value (get_or c y e) ∷ value (get_or c z f) ∷ []) ≡ line_at (map value c) x y z
    line_read = λ i. read a small.0 i ∷ read e small.1 i ∷ read f small.2 i ∷ []

    pub line_within : Within b (value (get_or c x a) ∷ value (get_or c y e) ∷ value (get_or c z f) ∷ [])
    line_within = let each = within b (map value c) k.control.within in subst (Within b) (sym line_read) (each x, (each y, (each z, tt)))

    -- the row of the half put: one row more
    pub row_more : {row : List ℤ} (vs : List N) → Row d j x y z → row ≡ entries h (value (get_or c x a) ∷ value (get_or c y e) ∷ value (get_or c z f) ∷ [])
        → ((u v w : ℤ) → row ≡ u ∷ v ∷ w ∷ [] → map value vs ≡ set (set (set (map value out) x u) y v) z w)
        → Holds b d h (j + 1) (map value c) (map value vs)
    unfolding put_row
    row_more vs r q p = row_held r k (p _ _ _ (q ∙ ap (entries h) line_read))

module _ {N : Type 0} (value : N → ℤ) where
  -- three numbers put at x, y and z
  pub row_put : (x y z : ℕ) (out row : List N) (a b c : N) (u v w : ℤ) → map value row ≡ u ∷ v ∷ w ∷ []
      → map value (set (set (set out x (get_or row 0 a)) y (get_or row 1 b)) z (get_or row 2 c)) ≡ set (set (set (map value out) x u) y v) z w
  row_put x y z out row a b c u v w e =
      values_put value (set (set out x p) y q) z r
      ∙ ap (λ (xs : List ℤ). set xs z (value r)) (values_put value (set out x p) y q ∙ ap (λ (xs : List ℤ). set xs y (value q)) (values_put value out x p))
      ∙ (λ i. set (set (set (map value out) x (at0 i)) y (at1 i)) z (at2 i))
    where
      p : N
      p = get_or row 0 a

      q : N
      q = get_or row 1 b

      r : N
      r = get_or row 2 c

      sized : length (map value row) ≡ 3
      sized = ap length e

      long : length row ≡ 3
      long = sym (length-map row value) ∙ sized

      at0 : value p ≡ u
      at0 = value_read value row 0 a (omega (arith, long)) ∙ ap (λ (xs : List ℤ). get_or xs 0 (pos 0)) e

      at1 : value q ≡ v
      at1 = value_read value row 1 b (omega (arith, long)) ∙ ap (λ (xs : List ℤ). get_or xs 1 (pos 0)) e

      at2 : value r ≡ w
      at2 = value_read value row 2 c (omega (arith, long)) ∙ ap (λ (xs : List ℤ). get_or xs 2 (pos 0)) e
