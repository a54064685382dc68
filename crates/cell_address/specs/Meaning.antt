-- What the code's addresses and answers stand for in the definitions.
use Rattle.std.specs.Prelude.{true, false, ℕ, ◌+◌, ◌-◌, Result, Ok, Err}
use Rattle.definitions.specs.Jacobian.{side}
use Rattle.definitions.specs.Address.{Address, Move}
use Rattle.cell_address.specs.declared.Address.{Address as Held}

abbrev pub address_of : Held → Address
address_of q = record { level = q.level; a = q.a; b = q.b; c = q.c }

-- the answer of a move: where it led to, or the same address where it can't be made
abbrev pub move_of : Result Held Held → Move
move_of (Ok q) = record { made = true; address = address_of q }
move_of (Err q) = record { made = false; address = address_of q }

-- the grid numbers plus the place, 0 or 1 on each axis, of the corner or child that the documents number n
abbrev pub offset_by : Address → ℕ → Address
offset_by q n = let k = n - 1 in record { level = q.level; a = q.a + side 0 k; b = q.b + side 1 k; c = q.c + side 2 k }
