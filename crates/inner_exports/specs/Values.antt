-- 27 numbers of two words in 54 words: number k has its low word at 2k and its high word at 2k + 1.
use Rattle.std.specs.Prelude.{◌≡◌, List, ℕ, ◌+◌, ◌-◌, ◌*◌, ◌^◌, ◌<◌, get_or, set, length, ℤ, pos}
use Rattle.std.proofs.Common.{sym, ◌∙◌, ap, ap₂, subst, arith, length-set, ext_get_or, get_or-set_same, get_or-set_other}
use Rattle.std.proofs.Math.Decide.{ℕ_discrete}
use Rattle.foundation.specs.Lists.{tabulate, length_tabulate, tabulate_at}
use Rattle.definitions.specs.TwoWords.{value}

-- the largest magnitude of a number of one word, and of two
abbrev pub largest : ℕ
largest = 2 ^ 63 - 1

abbrev pub widest : ℕ
widest = 2 ^ 127 - 1

-- the words of number k
abbrev pub low_at : List ℕ → ℕ → ℕ
low_at ws k = get_or ws (2 * k) 0

abbrev pub high_at : List ℕ → ℕ → ℕ
high_at ws k = get_or ws (2 * k + 1) 0

-- and what they stand for
abbrev pub number_at : List ℕ → ℕ → ℤ
number_at ws k = value (low_at ws k) (high_at ws k)

-- the words with number k put there
abbrev pub put_number : ℕ → ℕ → ℕ → List ℕ → List ℕ
put_number low high k ws = set (set ws (2 * k) low) (2 * k + 1) high

-- the 27 numbers
unfoldable pub values : List ℕ → List ℤ
values ws = tabulate (λ k. value (low_at ws k) (high_at ws k)) 0 27

pub values_length : (ws : List ℕ) → length (values ws) ≡ 27
unfolding values
values_length ws = length_tabulate (λ k. value (low_at ws k) (high_at ws k)) 0 27

pub values_at_law : (ws : List ℕ) (k : ℕ) → k < 27 → get_or (values ws) k (pos 0) ≡ value (low_at ws k) (high_at ws k)
unfolding values
values_at_law ws k h = tabulate_at (λ k. value (low_at ws k) (high_at ws k)) 27 k (pos 0) h

-- a number whose words were read at k
pub value_read : (ws : List ℕ) (k : ℕ) → k < 27 → {low high : ℕ} → (low ≡ low_at ws k) × (high ≡ high_at ws k) → value low high ≡ get_or (values ws) k (pos 0)
value_read ws k h (p, q) = ap₂ value p q ∙ sym (values_at_law ws k h)

pub put_length : (low high k : ℕ) (ws : List ℕ) → length (put_number low high k ws) ≡ length ws
put_length low high k ws = length-set (set ws (2 * k) low) (2 * k + 1) high ∙ length-set ws (2 * k) low

-- the number that is put is there, and the others are as they were
module _ (low high k : ℕ) (ws : List ℕ) where
  put_low : 2 * k + 1 < length ws → low_at (put_number low high k ws) k ≡ low
  put_low h = get_or-set_other (set ws (2 * k) low) (2 * k + 1) (2 * k) high 0 (λ e. absurd (omega (arith, e))) ∙ get_or-set_same ws (2 * k) low 0 (omega (arith, h))

  put_high : 2 * k + 1 < length ws → high_at (put_number low high k ws) k ≡ high
  put_high h = get_or-set_same (set ws (2 * k) low) (2 * k + 1) high 0 (subst (λ (n : ℕ). 2 * k + 1 < n) (sym (length-set ws (2 * k) low)) h)

  put_other : (m : ℕ) → (m ≡ 2 * k → ⊥) → (m ≡ 2 * k + 1 → ⊥) → get_or (put_number low high k ws) m 0 ≡ get_or ws m 0
  put_other m p q = get_or-set_other (set ws (2 * k) low) (2 * k + 1) m high 0 q ∙ get_or-set_other ws (2 * k) m low 0 p

-- putting a number's words puts its value
pub values_put : (low high k : ℕ) (ws : List ℕ) → k < 27 → length ws ≡ 54 → values (put_number low high k ws) ≡ set (values ws) k (value low high)
values_put low high k ws h l = ext_get_or (pos 0) (values after) (set (values ws) k (value low high)) (values_length after ∙ sym (length-set (values ws) k (value low high) ∙ values_length ws)) each
  where
    after : List ℕ
    after = put_number low high k ws

    room : 2 * k + 1 < length ws
    room = omega (arith, h, l)

    here : value (low_at after k) (high_at after k) ≡ value low high
    here = ap₂ value (put_low low high k ws room) (put_high low high k ws room)

    there : (n : ℕ) → (n ≡ k → ⊥) → value (low_at after n) (high_at after n) ≡ value (low_at ws n) (high_at ws n)
    there n e = ap₂ value (put_other low high k ws (2 * n) (λ p. e (omega (arith, p))) (λ p. absurd (omega (arith, p)))) (put_other low high k ws (2 * n + 1) (λ p. absurd (omega (arith, p))) (λ p. e (omega (arith, p))))

    each : (n : ℕ) → n < length (values after) → get_or (values after) n (pos 0) ≡ get_or (set (values ws) k (value low high)) n (pos 0)
    each n less = let m : n < 27 = subst (λ (t : ℕ). n < t) (values_length after) less in
        values_at_law after n m ∙ elim (ℕ_discrete n k) [
          | yes e ↦ ap (λ (t : ℕ). value (low_at after t) (high_at after t)) e ∙ here
              ∙ sym (ap (λ (t : ℕ). get_or (set (values ws) k (value low high)) t (pos 0)) e ∙ get_or-set_same (values ws) k (value low high) (pos 0) (subst (λ (t : ℕ). k < t) (sym (values_length ws)) h))
          | no e ↦ there n e ∙ sym (get_or-set_other (values ws) k n (value low high) (pos 0) e ∙ values_at_law ws n m)
        ]
