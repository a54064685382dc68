-- The digits of a number, as the code works them.
use mathlib.Core.Path.{ap}
use Prim.Native.Nat.{ℕ, ◌*◌, ◌≤◌}
use native.Mathlib.Nat.{le_refl}
use lib.Dec.{lit<}
use lib.IntN.{ℤ, pos, nat_abs, ◌-ℤ◌, ◌*ℤ◌}
use lib.Signed.{shr_z}
use mir.Syntax.{w64}
use mir.Val.{SFits, to_z, of_z}
use Rattle.foundation.specs.Held.{Rep, leaf, answered, made, made_fits, mul, mul_fits}
use Rattle.wide_volumes.specs.Range.{edge_limit, digit_limit}
use Rattle.wide_volumes.specs.Digits.{upper, lower, upper_small, lower_small}

-- the bits of the digits, the lower one by what the upper one leaves
abbrev pub upper_bits : ℤ → ℕ
upper_bits x = of_z w64 (shr_z (to_z w64 (of_z w64 x)) 2048)

abbrev multiple : ℤ → ℤ
multiple x = pos 2048 *ℤ to_z w64 (upper_bits x)

abbrev rest : ℤ → ℤ
rest x = to_z w64 (of_z w64 x) -ℤ to_z w64 (of_z w64 (multiple x))

abbrev pub lower_bits : ℤ → ℕ
lower_bits x = of_z w64 (rest x)

module _ (x : ℤ) (h : nat_abs x ≤ edge_limit) where
  held : Rep (of_z w64 x) x edge_limit
  held = leaf edge_limit x h tt

  pub upper_held : Rep (upper_bits x) (upper x) digit_limit
  upper_held = answered digit_limit (ap upper held.value) (upper_small x h) tt

  literal : Rep 2048 (pos 2048) 2048
  literal = leaf 2048 (pos 2048) (le_refl 2048) tt

  multiple_held : Rep (of_z w64 (multiple x)) (pos 2048 *ℤ upper x) (2048 * digit_limit)
  multiple_held = mul literal upper_held tt

  pub multiple_fits : SFits w64 (multiple x)
  multiple_fits = mul_fits literal upper_held tt

  pub lower_held : Rep (lower_bits x) (lower x) digit_limit
  lower_held = made held multiple_held ◌-ℤ◌ digit_limit (lower_small x) (lit< tt)

  pub lower_fits : SFits w64 (rest x)
  lower_fits = made_fits held multiple_held ◌-ℤ◌ digit_limit (lower_small x) (lit< tt)
