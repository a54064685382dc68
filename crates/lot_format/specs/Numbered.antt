-- Only an accepted lot has the number 0.
use Rattle.std.specs.Prelude.{◌≡◌, refl}
use Rattle.std.proofs.Common.{arith}
use Rattle.lot_format.specs.Reading.{Unreadable, too_long, cut_short, unknown_mark, wrong_length, out_of_place, bad_byte, too_many_elements, no_room, unreadable_number, Reading, readable, unreadable, lot_of, reading_number}

pub not_zero : {X : Type 0} (r : Unreadable) → unreadable_number r ≡ 0 → X
not_zero too_long e = absurd (omega arith)
not_zero cut_short e = absurd (omega arith)
not_zero unknown_mark e = absurd (omega arith)
not_zero wrong_length e = absurd (omega arith)
not_zero out_of_place e = absurd (omega arith)
not_zero bad_byte e = absurd (omega arith)
not_zero too_many_elements e = absurd (omega arith)
not_zero no_room e = absurd (omega arith)

pub zero_accepted : (r : Reading) → reading_number r ≡ 0 → r ≡ readable (lot_of r)
zero_accepted (readable lot) e = refl
zero_accepted (unreadable r) e = not_zero r e
