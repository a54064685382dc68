-- Numbers of two words by example: what words are worth, and the words of whole numbers.
use Rattle.std.specs.Prelude.{Bool, true, false, not, ◌&&◌, List, [], ◌∷◌, ℕ, ◌-◌, ◌^◌, T, eqb, ℤ, pos, negsuc}
use Rattle.std.specs.Int.{w64, w128}
use Rattle.definitions.specs.TwoWords.{value, low_word, high_word, wrapped, in_one_word}

-- two words, and the number that they are
record Example : Type 0 where
  low : ℕ
  high : ℕ
  number : ℤ

abbrev same : ℤ → ℤ → Bool
same (pos m) (pos n) = eqb m n
same (pos m) (negsuc n) = false
same (negsuc m) (pos n) = false
same (negsuc m) (negsuc n) = eqb m n

-- both ways
abbrev holds : Example → Bool
holds e = same (value e.low e.high) e.number && (eqb (low_word e.number) e.low && eqb (high_word e.number) e.high)

abbrev all_hold : List Example → Bool
all_hold [] = true
all_hold (e ∷ es) = holds e && all_hold es

abbrev of : ℕ → ℕ → ℤ → Example
of l h z = record { low = l; high = h; number = z }

abbrev examples : List Example
examples =
    of 0 0 (pos 0)
    ∷ of 1 0 (pos 1)
    ∷ of (2 ^ 64 - 1) 0 (pos (2 ^ 64 - 1))
    ∷ of 0 1 (pos (2 ^ 64))
    ∷ of (2 ^ 64 - 1) (2 ^ 63 - 1) (pos (2 ^ 127 - 1))
    ∷ of (2 ^ 64 - 1) (2 ^ 64 - 1) (negsuc 0)
    ∷ of 0 (2 ^ 64 - 1) (negsuc (2 ^ 64 - 1))
    ∷ of 0 (2 ^ 63) (negsuc (2 ^ 127 - 1))
    ∷ of (2 ^ 64 - 262144) (2 ^ 64 - 1) (negsuc 262143)
    ∷ []

pub examples_hold : T (all_hold examples)
unfolding value
examples_hold = tt

-- past the ends a number turns round, with two words and with one; which numbers one word holds
pub turned_hold : T (same (wrapped w128 (pos (2 ^ 127))) (negsuc (2 ^ 127 - 1))
    && (same (wrapped w128 (negsuc (2 ^ 127))) (pos (2 ^ 127 - 1))
    && (same (wrapped w64 (pos (2 ^ 63))) (negsuc (2 ^ 63 - 1))
    && (in_one_word (pos (2 ^ 63 - 1)) && (in_one_word (negsuc (2 ^ 63 - 1)) && (not (in_one_word (pos (2 ^ 63))) && not (in_one_word (negsuc (2 ^ 63)))))))))
unfolding wrapped
turned_hold = tt
