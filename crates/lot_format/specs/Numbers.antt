-- Document 01, "House rules for later papers": "Numbers in our files stand low byte first." Bytes are numbers below 256.
use Rattle.std.specs.Prelude.{true, false, List, [], ◌∷◌, map, ℕ, zero, suc, ◌+◌, ◌-◌, ◌*◌, ◌/◌, ◌%◌, ◌^◌, ◌<◌, ltb, take, drop, ℤ, pos, negsuc}
use Rattle.foundation.specs.Lists.{concat_map}

abbrev pub Byte : ℕ → Type 0
Byte b = b < 256

-- the number that bytes stand for
abbrev pub number : List ℕ → ℕ
number [] = 0
number (b ∷ bs) = b + 256 * number bs

-- the n bytes of a number
abbrev pub number_bytes : ℕ → ℕ → List ℕ
number_bytes zero x = []
number_bytes (suc n) x = x % 256 ∷ number_bytes n (x / 256)

-- "signed 32-bit": a number from the 32 bits of its two's complement, and these bits
unfoldable pub signed : ℕ → ℤ
signed x = elim (ltb x (2 ^ 31)) [ true ↦ pos x | false ↦ negsuc (2 ^ 32 - 1 - x) ]

abbrev pub bits : ℤ → ℕ
bits (pos x) = x
bits (negsuc x) = 2 ^ 32 - 1 - x

-- n unsigned numbers of 32 bits each, one after the other, and n signed ones
abbrev pub unsigneds : ℕ → List ℕ → List ℕ
unsigneds zero bs = []
unsigneds (suc n) bs = number (take 4 bs) ∷ unsigneds n (drop 4 bs)

abbrev pub signeds : ℕ → List ℕ → List ℤ
signeds n bs = map signed (unsigneds n bs)

-- their bytes
abbrev pub unsigned_bytes : List ℕ → List ℕ
unsigned_bytes xs = concat_map (number_bytes 4) xs

abbrev pub signed_bytes : List ℤ → List ℕ
signed_bytes xs = unsigned_bytes (map bits xs)
