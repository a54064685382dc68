-- Document 02, No. 8: numbers of two words, "as two's complement", and the representative of a whole number at any width.
use Rattle.std.specs.Prelude.{Bool, ◌&&◌, List, [], ◌∷◌, ℕ, suc, ◌*◌, ◌-◌, ◌/◌, ◌%◌, ◌^◌, get_or, ℤ, pos, negsuc, ◌+ℤ◌, ◌*ℤ◌}
use Rattle.std.specs.Int.Signed.{le_z}
use Rattle.std.specs.Int.{Width, w64}
use mir.Val.{to_z, bits}

-- what a one in the high word counts
abbrev pub word_base : ℕ
word_base = 2 ^ 64

-- the number of two words: the high one, as a signed number, times 2^64, and the low one
unfoldable pub value : ℕ → ℕ → ℤ
value low high = to_z w64 high *ℤ pos word_base +ℤ pos low

-- what a whole number leaves, divided by m: 0 to m − 1
abbrev pub remainder : ℕ → ℤ → ℕ
remainder m (pos n) = n % m
remainder m (negsuc n) = m - suc (n % m)

-- the representative of a whole number modulo 2^w: the one of −2^(w−1) to 2^(w−1) − 1 that leaves the same
unfoldable pub wrapped : Width → ℤ → ℤ
wrapped w z = to_z w (remainder (2 ^ bits w) z)

-- and back: the words of a whole number, low and high
abbrev pub low_word : ℤ → ℕ
low_word z = remainder (word_base * word_base) z % word_base

abbrev pub high_word : ℤ → ℕ
high_word z = remainder (word_base * word_base) z / word_base

-- both as a record has them, "low 64 bits and then high", each as a signed number
abbrev pub two_words : ℤ → List ℤ
two_words z = to_z w64 (low_word z) ∷ to_z w64 (high_word z) ∷ []

-- and back: the number of two words that a record has
abbrev pub from_two_words : List ℤ → ℤ
from_two_words ws = value (remainder word_base (get_or ws 0 (pos 0))) (remainder word_base (get_or ws 1 (pos 0)))

-- whether one word, signed, holds a whole number: −2^63 to 2^63 − 1
abbrev pub in_one_word : ℤ → Bool
in_one_word z = le_z (negsuc (2 ^ 63 - 1)) z && le_z z (pos (2 ^ 63 - 1))
