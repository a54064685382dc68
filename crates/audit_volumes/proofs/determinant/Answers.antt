-- Each product, difference and sum of the determinant, by the bounds on its nine numbers.
use mathlib.Core.Path.{◌≡◌, sym, ◌∙◌}
use mathlib.Core.List.{List, [], ◌∷◌, ◌++◌}
use Prim.Native.Nat.{ℕ, ◌≤◌}
use lib.Dec.{T}
use lib.IntN.{ℤ, nat_abs}
use mir.Syntax.{w128}
use mir.Val.{SFits}
use Rattle.std.proofs.Common.{subst}
use Rattle.foundation.specs.Polynomial.{integers}
use Rattle.foundation.specs.Words.{Op, arg, minus, times, plus, args, within, split, within_split, Within}
use Rattle.definitions.specs.Jacobian.{det}
use Rattle.audit_theory.specs.Exact.{fits, result, result_fits, held_is}
use Rattle.audit_volumes.specs.Limits.{edge_limit, middle_limit}
use Rattle.audit_volumes.proofs.determinant.Goals as goal

-- a vector by its three numbers
abbrev three : List ℤ → List ℤ
three v = args v 0 ∷ args v 1 ∷ args v 2 ∷ []

small : (b : ℕ) {v w : List ℤ} → w ≡ v → Within b v → Within b (three w)
small b {v} {w} e h = let each = within b w (subst (Within b) (sym e) h) in (each 0, (each 1, (each 2, tt)))

module _ (c : goal.After-f-1) where
  abbrev numbers : ℕ → ℤ
  numbers = args (three c.widened.result ++ (three c.widened-2.result ++ three c.widened-3.result))

  bounded : (i : ℕ) → nat_abs (numbers i) ≤ split 3 edge_limit middle_limit i
  bounded = let v = small middle_limit c.widened-2.ensures c.requires.second in
      within_split edge_limit middle_limit (three c.widened.result) (three c.widened-2.result ++ three c.widened-3.result)
      (small edge_limit c.widened.ensures c.requires.first) (v.0, (v.1.0, (v.1.1.0, small middle_limit c.widened-3.ensures c.requires.third)))

  -- each operation on the nine fits
  fit : (o : Op) → T (fits w128 (split 3 edge_limit middle_limit) o) → SFits w128 (result w128 numbers o)
  fit = result_fits w128 numbers (split 3 edge_limit middle_limit) bounded

-- a product of a coordinate of v, the first number, with one of w, the second
abbrev vw : ℕ → ℕ → Op
vw i j = times (arg i) (arg j)

abbrev minor_x : Op
minor_x = minus (vw 4 8) (vw 5 7)

abbrev minor_y : Op
minor_y = minus (vw 3 8) (vw 5 6)

abbrev minor_z : Op
minor_z = minus (vw 3 7) (vw 4 6)

abbrev two : Op
two = minus (times (arg 0) minor_x) (times (arg 1) minor_y)

abbrev whole : Op
whole = plus two (times (arg 2) minor_z)

-- what is answered
pub returns : goal.returns
returns c = held_is w128 (numbers c) (split 3 edge_limit middle_limit) (bounded c) whole tt
    ∙ (λ i. det integers (args (c.widened.ensures i)) (args (c.widened-2.ensures i)) (args (c.widened-3.ensures i)))

pub overflow_mul-result : goal.overflow_mul-result
overflow_mul-result c = fit c (vw 4 8) tt

pub overflow_mul-result-2 : goal.overflow_mul-result-2
overflow_mul-result-2 c = fit c (vw 5 7) tt

pub overflow_sub-result : goal.overflow_sub-result
overflow_sub-result c = fit c minor_x tt

pub overflow_mul-result-3 : goal.overflow_mul-result-3
overflow_mul-result-3 c = fit c (times (arg 0) minor_x) tt

pub overflow_mul-result-4 : goal.overflow_mul-result-4
overflow_mul-result-4 c = fit c (vw 3 8) tt

pub overflow_mul-result-5 : goal.overflow_mul-result-5
overflow_mul-result-5 c = fit c (vw 5 6) tt

pub overflow_sub-result-2 : goal.overflow_sub-result-2
overflow_sub-result-2 c = fit c minor_y tt

pub overflow_mul-result-6 : goal.overflow_mul-result-6
overflow_mul-result-6 c = fit c (times (arg 1) minor_y) tt

pub overflow_sub-result-3 : goal.overflow_sub-result-3
overflow_sub-result-3 c = fit c two tt

pub overflow_mul-result-7 : goal.overflow_mul-result-7
overflow_mul-result-7 c = fit c (vw 3 7) tt

pub overflow_mul-result-8 : goal.overflow_mul-result-8
overflow_mul-result-8 c = fit c (vw 4 6) tt

pub overflow_sub-result-4 : goal.overflow_sub-result-4
overflow_sub-result-4 c = fit c minor_z tt

pub overflow_mul-result-9 : goal.overflow_mul-result-9
overflow_mul-result-9 c = fit c (times (arg 2) minor_z) tt

pub overflow_add-result : goal.overflow_add-result
overflow_add-result c = fit c whole tt
