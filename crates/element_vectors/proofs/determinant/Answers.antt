-- Each product, difference and sum of the determinant, by the bounds on its nine numbers.
use mathlib.Core.Bool.{Bool}
use mathlib.Core.List.{List, ◌++◌}
use Prim.Native.Nat.{ℕ, ◌≤◌}
use lib.Dec.{T}
use lib.IntN.{ℤ, nat_abs}
use mir.Syntax.{w64}
use mir.Val.{SFits}
use Rattle.foundation.specs.Words.{Op, arg, minus, times, plus, fits, result, args, split, Within, within, within_split, result_fits, held_is}
use Rattle.element_vectors.specs.Fitting.{Fitting, Sort, alike, shorter, first_limit, other_limit}
use Rattle.element_vectors.specs.Vectors.{coordinates}
use Rattle.element_vectors.proofs.determinant.Goals as goal

-- a vector's three numbers, and their limit
three_within : (n : ℕ) (u : List ℤ) → Within n u → Within n (coordinates (args u))
three_within n u h = let each : (i : ℕ) → nat_abs (args u i) ≤ n = within n u h in (each 0, (each 1, (each 2, tt)))

-- the limits of the nine numbers
abbrev limits : Sort → ℕ → ℕ
limits s = split 3 (first_limit s) (other_limit s)

-- a test that both sorts of limits pass
passes : (P : (ℕ → ℕ) → Bool) → T (P (limits alike)) → T (P (limits shorter)) → (s : Sort) → T (P (limits s))
passes P a b alike = a
passes P a b shorter = b

module _ {u v w : List ℤ} (h : Fitting u v w) where
  abbrev others : List ℤ
  others = coordinates (args v) ++ coordinates (args w)

  abbrev numbers : ℕ → ℤ
  numbers = args (coordinates (args u) ++ others)

  bounded : (i : ℕ) → nat_abs (numbers i) ≤ limits h.sort i
  bounded = let second = three_within (other_limit h.sort) v h.second in
      within_split (first_limit h.sort) (other_limit h.sort) (coordinates (args u)) others (three_within (first_limit h.sort) u h.first)
      (second.0, (second.1.0, (second.1.1.0, three_within (other_limit h.sort) w h.third)))

  -- each operation on the nine fits
  fit : (o : Op) → T (fits (limits alike) o) → T (fits (limits shorter) o) → SFits w64 (result numbers o)
  fit o a b = result_fits numbers (limits h.sort) bounded o (passes (λ β. fits β o) a b h.sort)

-- a product of a coordinate of v, the first number, with one of w, the second
abbrev vw : ℕ → ℕ → Op
vw i j = times (arg i) (arg j)

abbrev minor_x : Op
minor_x = minus (vw 4 8) (vw 5 7)

abbrev minor_y : Op
minor_y = minus (vw 3 8) (vw 5 6)

abbrev minor_z : Op
minor_z = minus (vw 3 7) (vw 4 6)

abbrev two : Op
two = minus (times (arg 0) minor_x) (times (arg 1) minor_y)

abbrev three : Op
three = plus two (times (arg 2) minor_z)

-- what is answered
pub returns : goal.returns
returns c = let h = c.requires in held_is (numbers h) (limits h.sort) (bounded h) three (passes (λ β. fits β three) tt tt h.sort)

pub overflow_sub-result : goal.overflow_sub-result
overflow_sub-result c = fit c.requires minor_x tt tt

pub overflow_mul-result-3 : goal.overflow_mul-result-3
overflow_mul-result-3 c = fit c.requires (times (arg 0) minor_x) tt tt

pub overflow_mul-result-4 : goal.overflow_mul-result-4
overflow_mul-result-4 c = fit c.requires (vw 3 8) tt tt

pub overflow_mul-result-5 : goal.overflow_mul-result-5
overflow_mul-result-5 c = fit c.requires (vw 5 6) tt tt

pub overflow_sub-result-2 : goal.overflow_sub-result-2
overflow_sub-result-2 c = fit c.requires minor_y tt tt

pub overflow_mul-result-6 : goal.overflow_mul-result-6
overflow_mul-result-6 c = fit c.requires (times (arg 1) minor_y) tt tt

pub overflow_sub-result-3 : goal.overflow_sub-result-3
overflow_sub-result-3 c = fit c.requires two tt tt

pub overflow_mul-result-7 : goal.overflow_mul-result-7
overflow_mul-result-7 c = fit c.requires (vw 3 7) tt tt

pub overflow_mul-result-8 : goal.overflow_mul-result-8
overflow_mul-result-8 c = fit c.requires (vw 4 6) tt tt

pub overflow_sub-result-4 : goal.overflow_sub-result-4
overflow_sub-result-4 c = fit c.requires minor_z tt tt

pub overflow_mul-result-9 : goal.overflow_mul-result-9
overflow_mul-result-9 c = fit c.requires (times (arg 2) minor_z) tt tt

pub overflow_add-result : goal.overflow_add-result
overflow_add-result c = fit c.requires three tt tt

pub overflow_mul-result : goal.overflow_mul-result
overflow_mul-result c = fit c.requires (vw 4 8) tt tt

pub overflow_mul-result-2 : goal.overflow_mul-result-2
overflow_mul-result-2 c = fit c.requires (vw 5 7) tt tt
