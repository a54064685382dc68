-- Numbers as they are printed: in decimal, with a minus before a number below zero.
use Rattle.std.specs.Prelude.{true, false, List, [], ◌∷◌, ◌++◌, ℕ, zero, suc, ◌+◌, ◌/◌, ◌%◌, ltb, ℤ, pos, negsuc}

-- the digits of x, the last one behind those of x / 10; the first number falls at each digit
unfoldable pub digits : ℕ → ℕ → List ℕ
digits zero x = []
digits (suc k) x = elim (ltb x 10) [ true ↦ (48 + x) ∷ [] | false ↦ digits k (x / 10) ++ ((48 + x % 10) ∷ []) ]

-- a number above 0 has no more digits than itself, and 0 has one, so one more than x is enough
unfoldable pub decimal : ℕ → List ℕ
decimal x = digits (suc x) x

abbrev pub signed_decimal : ℤ → List ℕ
signed_decimal (pos x) = decimal x
signed_decimal (negsuc x) = 45 ∷ decimal (suc x)
