-- Both halves of a cell put together row by row, and the numbers of a row cut by the sums of its neighbours.
use Rattle.std.specs.Prelude.{◌≡◌, refl, List, [], ◌∷◌, ℕ, ◌+◌, ◌*◌, ◌/◌, ◌%◌, ◌<◌, set, ℤ, pos, ◌+ℤ◌, ◌*ℤ◌}
use Rattle.std.proofs.Common.{sym, ◌∙◌, ap, arith}
use Rattle.std.proofs.Math.ListN.{length}
use Rattle.foundation.specs.Polynomial.{integers, var, con, add, mul, solve}
use Rattle.foundation.specs.Words.{args, Within, within}
use Rattle.definitions.specs.Subdivision.{cut_row, halve}
use Rattle.expansion_theory.specs.Control.{Cuttable}
use Rattle.expansion_theory.specs.Rows.{Holds, Row, in_row, in_line, line_at, put_row}
use Rattle.expansion_theory.specs.RowLaws.{line_small, row_held, cut_within, none_held, lower_held, upper_held}
use Rattle.audit_cut.specs.Word.{largest, cut_largest, can_be_cut}

-- the first j rows of both halves of c in direction d
pub record BothHeld (d j : ℕ) (c lower upper : List ℤ) : Type 0 where
  pub below : Holds cut_largest d 0 j c lower
  pub above : Holds cut_largest d 1 j c upper

-- before the first row
pub none_yet : (d : ℕ) {c lower upper : List ℤ} → Cuttable largest c → length lower ≡ 27 → length upper ≡ 27 → BothHeld d 0 c lower upper
none_yet d {c} k l m = let small = cut_within largest cut_largest c can_be_cut k in record { below = none_held d 0 small l; above = none_held d 1 small m }

-- ---- where the entries of row j stand
pub number_law : (d e j t : ℕ) → d ≡ e → d < 3 → j < 9 → t < 3 → {x : ℕ} → x ≡ in_row e (j / 3) (j % 3) t → (x ≡ in_line d (3 * j + t)) × (x < 27)
number_law d e j t same ld lj lt {x} p = let is = p ∙ go in (is, omega (arith, is, line_small d (3 * j + t) ld (omega (arith, lj, lt))))
  where
    go : in_row e (j / 3) (j % 3) t ≡ in_line d (3 * j + t)
    go = let u : j / 3 ≡ (3 * j + t) / 9 = omega (arith, lt) in
        let v : j % 3 ≡ (3 * j + t) / 3 % 3 = omega (arith, lt) in
        let w : t ≡ (3 * j + t) % 3 = omega (arith, lt) in
        λ i. in_row (sym same i) (u i) (v i) (w i)

-- the three entries of a row
pub row_of : (d j : ℕ) → d < 3 → j < 9 → {x y z : ℕ} → x ≡ in_line d (3 * j + 0) → y ≡ in_line d (3 * j + 1) → z ≡ in_line d (3 * j + 2) → Row d j x y z
row_of d j ld lj p q r = let none : 3 * j + 0 ≡ 3 * j = omega arith in record { direction = ld; number = lj; start = p ∙ ap (in_line d) none; middle = q; end = r }

-- they can be cut
pub row_within : {d j : ℕ} {c lower upper : List ℤ} → BothHeld d j c lower upper → (x y z : ℕ) → Within cut_largest (line_at c x y z)
row_within {c = c} k x y z = let each = within cut_largest c k.below.control.within in (each x, (each y, (each z, tt)))

-- ---- a row p, q, r: its numbers as they are worked are the halves' own
module _ (p q r : ℤ) where
  abbrev row : ℕ → ℤ
  row = args (p ∷ q ∷ r ∷ [])

  pub second_is : pos 2 *ℤ (p +ℤ q) ≡ cut_row integers 0 row 1
  second_is = solve row (mul (con (pos 2)) (add (var 0) (var 1))) (add (mul (con (pos 2)) (var 0)) (mul (con (pos 2)) (var 1))) tt

  pub fourth_is : pos 2 *ℤ (q +ℤ r) ≡ cut_row integers 1 row 1
  fourth_is = solve row (mul (con (pos 2)) (add (var 1) (var 2))) (add (mul (con (pos 2)) (var 1)) (mul (con (pos 2)) (var 2))) tt

  -- where the halves meet
  pub middle_is : p +ℤ q +ℤ (q +ℤ r) ≡ cut_row integers 0 row 2
  middle_is = solve row (add (add (var 0) (var 1)) (add (var 1) (var 2))) (add (add (var 0) (mul (con (pos 2)) (var 1))) (var 2)) tt

-- ---- one row more: the three numbers of each half put
module _ {d j x y z : ℕ} {c lower upper : List ℤ} (row : Row d j x y z) (k : BothHeld d j c lower upper) where
  abbrev entry : ℕ → ℕ → ℤ
  entry h t = cut_row integers h (args (line_at c x y z)) t

  pub both_put : {u v m w n : ℤ} → u ≡ entry 0 0 → v ≡ entry 0 1 → m ≡ entry 0 2 → w ≡ entry 1 1 → n ≡ entry 1 2
      → {lower' upper' : List ℤ} → lower' ≡ set (set (set lower x u) y v) z m → upper' ≡ set (set (set upper x m) y w) z n → BothHeld d (j + 1) c lower' upper'
  unfolding put_row
  both_put p q r s t e f = record {
    below = row_held row k.below (e ∙ (λ i. set (set (set lower x (p i)) y (q i)) z (r i)));
    above = row_held row k.above (f ∙ (λ i. set (set (set upper x (r i)) y (s i)) z (t i)));
  }

-- all nine
pub both_halves : (d : ℕ) → d < 3 → {c lower upper : List ℤ} → BothHeld d 9 c lower upper → (lower ≡ halve d 0 c) × (upper ≡ halve d 1 c)
both_halves d l h = (lower_held d l refl refl h.below, upper_held d l refl (λ e. absurd (omega (arith, e))) h.above)
