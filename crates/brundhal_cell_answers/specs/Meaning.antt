-- The answers about cell addresses as plain numbers, and what a caller's plain numbers stand for.
use Rattle.std.specs.Prelude.{Bool, true, false, List, [], ◌∷◌, ℕ}
use Rattle.definitions.specs.Address.{Address, Move}
use Rattle.brundhal_cell_answers.specs.declared.BrundhalAddress.{BrundhalAddress}
use Rattle.brundhal_cell_answers.specs.declared.BrundhalMove.{BrundhalMove}

-- What an answer says: the numbers of the definition's move, and beside them the fields of the struct, each once and in the same order.
-- a move: 1 if it was made, otherwise 0, and the address that it led to, or the same one
abbrev pub made_number : Bool → ℕ
made_number true = 1
made_number false = 0

abbrev pub move_numbers : Move → List ℕ
move_numbers m = made_number m.made ∷ m.address.level ∷ m.address.a ∷ m.address.b ∷ m.address.c ∷ []

abbrev pub move_fields : BrundhalMove → List ℕ
move_fields r = r.made ∷ r.level ∷ r.a ∷ r.b ∷ r.c ∷ []

-- What a caller's numbers stand for.
abbrev pub address_held : BrundhalAddress → Address
address_held q = record { level = q.level; a = q.a; b = q.b; c = q.c }
