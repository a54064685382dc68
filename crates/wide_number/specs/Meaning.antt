-- What the numbers, orders and answers of this crate stand for.
use Rattle.std.specs.Prelude.{Bool, true, false, ℤ, Option, Some, None}
use Rattle.std.specs.Int.{w128}
use Rattle.std.specs.Ordering.{int_cmp}
use Rattle.std.specs.declared.cmp.Ordering.{Ordering}
use Rattle.definitions.specs.TwoWords.{value, wrapped, in_one_word}
use Rattle.wide_number.specs.declared.Wide.{Wide}

abbrev pub value_of : Wide → ℤ
value_of x = value x.low x.high

-- the representative modulo 2^128
abbrev pub modulo : ℤ → ℤ
modulo z = wrapped w128 z

-- less, equal or greater: the order of whole numbers
abbrev pub order_of : ℤ → ℤ → Ordering
order_of x y = int_cmp x y

-- a number of one word, or none: it is too long for one
abbrev pub chosen : Bool → ℤ → Option ℤ
chosen true z = Some z
chosen false z = None

unfoldable pub single_of : ℤ → Option ℤ
single_of z = chosen (in_one_word z) z
