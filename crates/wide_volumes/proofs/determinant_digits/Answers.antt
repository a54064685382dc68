-- The first vector's digits, and the determinant with each.
use mathlib.Core.Path.{◌∙◌}
use mathlib.Core.List.{List, [], ◌∷◌}
use Prim.Native.Nat.{ℕ, ◌≤◌}
use lib.IntN.{ℤ, nat_abs}
use mir.Syntax.{w64}
use mir.Val.{to_z}
use Rattle.foundation.specs.Polynomial.{integers}
use Rattle.foundation.specs.Words.{Within, within, args}
use Rattle.foundation.specs.Held.{read_back}
use Rattle.definitions.specs.Jacobian.{det}
use Rattle.element_vectors.specs.Fitting.{shorter}
use Rattle.element_vectors.specs.Vectors.{HeldVector, vector_within}
use Rattle.wide_volumes.specs.Range.{edge_limit, digit_limit}
use Rattle.wide_volumes.specs.Digits.{upper, lower}
use Rattle.wide_volumes.proofs.HeldDigits.{upper_bits, lower_bits, upper_held, lower_held, multiple_fits, lower_fits}
use Rattle.wide_volumes.proofs.determinant_digits.Goals as goal

-- the vectors of digits that the two calls are given
module _ (u : List ℤ) (h : Within edge_limit u) where
  small : (i : ℕ) → nat_abs (args u i) ≤ edge_limit
  small = within edge_limit u h

  uppers : HeldVector digit_limit (to_z w64 (upper_bits (args u 0)) ∷ to_z w64 (upper_bits (args u 1)) ∷ to_z w64 (upper_bits (args u 2)) ∷ []) (λ e. upper (args u e))
  uppers = let x = upper_held (args u 0) (small 0) in let y = upper_held (args u 1) (small 1) in let z = upper_held (args u 2) (small 2) in
      record { is = λ i. x.value i ∷ y.value i ∷ z.value i ∷ []; short = (x.magnitude, (y.magnitude, (z.magnitude, tt))) }

  lowers : HeldVector digit_limit (to_z w64 (lower_bits (args u 0)) ∷ to_z w64 (lower_bits (args u 1)) ∷ to_z w64 (lower_bits (args u 2)) ∷ []) (λ e. lower (args u e))
  lowers = let x = lower_held (args u 0) (small 0) in let y = lower_held (args u 1) (small 1) in let z = lower_held (args u 2) (small 2) in
      record { is = λ i. x.value i ∷ y.value i ∷ z.value i ∷ []; short = (x.magnitude, (y.magnitude, (z.magnitude, tt))) }

pub determinant-upper-requires : goal.determinant-upper-requires
determinant-upper-requires c = record { sort = shorter; first = vector_within (uppers c.args.u c.requires.first); second = c.requires.second; third = c.requires.third }

pub determinant-lower-requires : goal.determinant-lower-requires
determinant-lower-requires c = record { sort = shorter; first = vector_within (lowers c.args.u c.requires.first); second = c.requires.second; third = c.requires.third }

pub overflow_mul-x : goal.overflow_mul-x
overflow_mul-x c = multiple_fits (args c.args.u 0) (small c.args.u c.requires.first 0)

pub overflow_sub-ux : goal.overflow_sub-ux
overflow_sub-ux c = lower_fits (args c.args.u 0) (small c.args.u c.requires.first 0)

pub overflow_mul-y : goal.overflow_mul-y
overflow_mul-y c = multiple_fits (args c.args.u 1) (small c.args.u c.requires.first 1)

pub overflow_sub-uy : goal.overflow_sub-uy
overflow_sub-uy c = lower_fits (args c.args.u 1) (small c.args.u c.requires.first 1)

pub overflow_mul-z : goal.overflow_mul-z
overflow_mul-z c = multiple_fits (args c.args.u 2) (small c.args.u c.requires.first 2)

pub overflow_sub-uz : goal.overflow_sub-uz
overflow_sub-uz c = lower_fits (args c.args.u 2) (small c.args.u c.requires.first 2)

pub returns-clause-upper : goal.returns-clause-upper
returns-clause-upper c = read_back c.determinant-upper.type_inv (c.determinant-upper.ensures ∙ λ i. det integers (args ((uppers c.args.u c.requires.first).is i)) (args c.args.v) (args c.args.w))

pub returns-clause-lower : goal.returns-clause-lower
returns-clause-lower c = read_back c.determinant-lower.type_inv (c.determinant-lower.ensures ∙ λ i. det integers (args ((lowers c.args.u c.requires.first).is i)) (args c.args.v) (args c.args.w))
