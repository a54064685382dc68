-- `cut_row` meets its contract: the three numbers of a row are read, and those of both its halves put. Assumes nothing.
use mathlib.Core.Path.{◌≡◌, refl, ◌∙◌}
use mathlib.Core.List.{[], ◌∷◌}
use Prim.Native.Nat.{ℕ}
use lib.Dec.{T}
use lib.ListN.{get_or}
use lib.IntN.{ℤ, pos}
use mir.Syntax.{w128}
use mir.Val.{SFits}
use Rattle.foundation.specs.Polynomial.{eval}
use Rattle.foundation.specs.Words.{Op, arg, lit, plus, times, formula, args, within}
use Rattle.expansion_theory.specs.Rows.{Row}
use Rattle.audit_theory.specs.Exact.{fits, held, result, result_fits, held_is}
use Rattle.audit_cut.specs.Word.{cut_largest}
use Rattle.audit_cut.specs.Direction.{axis, axis_less}
use Rattle.audit_cut.specs.Rows.{row_of, row_within, second_is, middle_is, fourth_is, both_put}
use Rattle.audit_cut.proofs.cut_row.Goals as goal

-- the row as it is read
module _ (c : goal.After-r-1) where
  abbrev entry : ℕ → ℤ
  entry n = get_or c.args.c.now n (pos 0)

  abbrev p : ℤ
  p = entry c.number_at-x.result

  abbrev q : ℤ
  q = entry c.number_at-y.result

  abbrev r : ℤ
  r = entry c.number_at-z.result

  row : Row (axis c.args.d) c.args.j c.number_at-x.result c.number_at-y.result c.number_at-z.result
  row = row_of (axis c.args.d) c.args.j (axis_less c.args.d) c.requires.0 c.number_at-x.ensures.0 c.number_at-y.ensures.0 c.number_at-z.ensures.0

  -- each operation on it fits, and is read back whole
  fit : (o : Op) → T (fits w128 (λ _. cut_largest) o) → SFits w128 (result w128 (args (p ∷ q ∷ r ∷ [])) o)
  fit = result_fits w128 (args (p ∷ q ∷ r ∷ [])) (λ _. cut_largest) (within cut_largest (p ∷ q ∷ r ∷ []) (row_within c.requires.1 c.number_at-x.result c.number_at-y.result c.number_at-z.result))

  whole : (o : Op) → T (fits w128 (λ _. cut_largest) o) → held w128 (args (p ∷ q ∷ r ∷ [])) o ≡ eval (args (p ∷ q ∷ r ∷ [])) (formula o)
  whole = held_is w128 (args (p ∷ q ∷ r ∷ [])) (λ _. cut_largest) (within cut_largest (p ∷ q ∷ r ∷ []) (row_within c.requires.1 c.number_at-x.result c.number_at-y.result c.number_at-z.result))

-- the sums of neighbours, and the numbers of the halves
abbrev first : Op
first = plus (arg 0) (arg 1)

abbrev last : Op
last = plus (arg 1) (arg 2)

abbrev twice : Op → Op
twice o = times (lit (pos 2)) o

abbrev four_times : Op → Op
four_times o = times (lit (pos 4)) o

pub overflow_add-s : goal.overflow_add-s
overflow_add-s c = fit c first tt

pub overflow_add-t : goal.overflow_add-t
overflow_add-t c = fit c last tt

pub overflow_add-m : goal.overflow_add-m
overflow_add-m c = fit c (plus first last) tt

pub overflow_mul-lower : goal.overflow_mul-lower
overflow_mul-lower c = fit c (four_times (arg 0)) tt

pub overflow_mul-lower-2 : goal.overflow_mul-lower-2
overflow_mul-lower-2 c = fit c (twice first) tt

pub overflow_mul-upper : goal.overflow_mul-upper
overflow_mul-upper c = fit c (twice last) tt

pub overflow_mul-upper-2 : goal.overflow_mul-upper-2
overflow_mul-upper-2 c = fit c (four_times (arg 2)) tt

pub returns : goal.returns
returns c = both_put (row c) c.requires.1
    (whole c (four_times (arg 0)) tt)
    (whole c (twice first) tt ∙ second_is (p c) (q c) (r c))
    (whole c (plus first last) tt ∙ middle_is (p c) (q c) (r c))
    (whole c (twice last) tt ∙ fourth_is (p c) (q c) (r c))
    (whole c (four_times (arg 2)) tt) refl refl
