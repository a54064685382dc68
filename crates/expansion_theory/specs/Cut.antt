-- Cutting in the middle: against the Bernstein products at a point of the half on side h in direction d, the half's numbers have the sum that the whole's have at the same point.
use Rattle.std.specs.Prelude.{◌≡◌, List, ℕ, zero, suc, length, ℤ}
use Rattle.foundation.specs.Polynomial.{Arithmetic, Expr, integers, expressions, solve}
use Rattle.definitions.specs.Jacobian.{Weights}
use Rattle.definitions.specs.Coefficients.{numbered, at}
use Rattle.definitions.specs.Subdivision.{cut, halve}
use Rattle.expansion_theory.specs.Bernstein.{value, place_var, by_place, weight_var, weighted}
use Rattle.expansion_theory.specs.Numbering.{length_numbered}
use Rattle.expansion_theory.specs.Parts.{part_row, three}

pub length_halve : (d h : ℕ) (c : List ℤ) → length (halve d h c) ≡ 27
unfolding halve
length_halve d h c = length_numbered (cut integers d h (at c))

-- the same point, as one of the half and as one of the whole
module _ {A : Type 0} (o : Arithmetic A) where
  abbrev pub half_row : ℕ → (ℕ → A) → ℕ → A
  half_row zero u = part_row o 2 0 u
  half_row (suc h) u = part_row o 2 1 u

  abbrev pub half_view : ℕ → ℕ → Weights A → Weights A
  half_view zero h w = three (half_row h (w 0)) (w 1) (w 2)
  half_view (suc zero) h w = three (w 0) (half_row h (w 1)) (w 2)
  half_view (suc (suc d)) h w = three (w 0) (w 1) (half_row h (w 2))

abbrev cut_expr : ℕ → ℕ → Expr
cut_expr d h = value expressions (cut expressions d h place_var) weight_var

abbrev half_expr : ℕ → ℕ → Expr
half_expr d h = value expressions place_var (half_view expressions d h weight_var)

cut_value : (d h : ℕ) (c : ℕ → ℕ → ℕ → ℤ) (w : Weights ℤ) → value integers (cut integers d h c) w ≡ value integers c (half_view integers d h w)
cut_value zero zero c w = solve (weighted (by_place c) w) (cut_expr 0 0) (half_expr 0 0) tt
cut_value zero (suc h) c w = solve (weighted (by_place c) w) (cut_expr 0 1) (half_expr 0 1) tt
cut_value (suc zero) zero c w = solve (weighted (by_place c) w) (cut_expr 1 0) (half_expr 1 0) tt
cut_value (suc zero) (suc h) c w = solve (weighted (by_place c) w) (cut_expr 1 1) (half_expr 1 1) tt
cut_value (suc (suc d)) zero c w = solve (weighted (by_place c) w) (cut_expr 2 0) (half_expr 2 0) tt
cut_value (suc (suc d)) (suc h) c w = solve (weighted (by_place c) w) (cut_expr 2 1) (half_expr 2 1) tt

pub halve_value : (d h : ℕ) (c : List ℤ) (w : Weights ℤ) → value integers (at (halve d h c)) w ≡ value integers (at c) (half_view integers d h w)
unfolding halve numbered at
halve_value d h c w = cut_value d h (at c) w
