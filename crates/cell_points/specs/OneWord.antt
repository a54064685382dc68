-- What one word suffices for: within these limits it holds the coefficients of eight points at every level, and the search in one word may be used.
use Rattle.std.specs.Prelude.{◌≡◌, Bool, true, ◌&&◌, List, ℕ, zero, suc, ◌<◌, ◌≤◌, ◌-◌, ◌^◌, leb, get_or, length, ℤ, pos, nat_abs}
use Rattle.std.proofs.Common.{subst, le_trans, arith, leb-true}
use Rattle.std.proofs.Math.Bool.{and-eq-true_iff}
use Rattle.std.proofs.Math.Decide.{ℕ_discrete}
use Rattle.foundation.specs.Lists.{get_d_all}
use Rattle.foundation.specs.Words.{within}
use Rattle.definitions.specs.Coefficients.{coefficients}
use Rattle.search_theory.specs.Meaning.{Small}
use Rattle.search_theory.specs.Points.{points_small as small_within}
use Rattle.element_vectors.specs.Range.{InRange}
use Rattle.narrow_volumes.specs.Range.{narrow_range}

-- the largest magnitude of a number of one word
abbrev pub largest : ℕ
largest = 2 ^ 63 - 1

-- 02, No. 9: "the old range and depth"
abbrev pub one_word_range : ℕ
one_word_range = 4096

abbrev pub one_word_depth : ℕ
one_word_depth = 3

-- whether the first n of some coordinates lie in that range
abbrev pub near_to : List ℤ → ℕ → Bool
near_to xs zero = true
near_to xs (suc n) = near_to xs n && leb (nat_abs (get_or xs n (pos 0))) one_word_range

-- and what follows of each
pub near_all : (xs : List ℤ) (n : ℕ) → near_to xs n ≡ true → (i : ℕ) → i < n → nat_abs (get_or xs i (pos 0)) ≤ one_word_range
near_all xs zero e i h = absurd (omega arith)
near_all xs (suc n) e i h = let both = (and-eq-true_iff (near_to xs n) (leb (nat_abs (get_or xs n (pos 0))) one_word_range)).0 e in elim (ℕ_discrete n i) [
  | yes q ↦ subst (λ (j : ℕ). nat_abs (get_or xs j (pos 0)) ≤ one_word_range) q (leb-true _ _ both.1)
  | no q ↦ near_all xs n both.0 i (omega arith)
]

-- eight points and a depth for which one word is used
abbrev pub one_word_used : List ℤ → ℕ → Bool
one_word_used xs depth = leb depth one_word_depth && near_to xs 24

-- they are within the limits of one word; past its 24 coordinates a list reads as 0
pub one_word_holds : (xs : List ℤ) (depth : ℕ) → length xs ≡ 24 → one_word_used xs depth ≡ true → InRange one_word_range xs × (depth ≤ one_word_depth)
one_word_holds xs depth n e = let both = (and-eq-true_iff (leb depth one_word_depth) (near_to xs 24)).0 e in
    (record { small = within one_word_range xs (get_d_all (λ x. nat_abs x ≤ one_word_range) xs (pos 0) (λ i h. near_all xs 24 both.1 i (subst (λ (k : ℕ). i < k) n h))) }, leb-true depth one_word_depth both.0)

pub narrow_points : (xs : List ℤ) → InRange one_word_range xs → InRange narrow_range xs
narrow_points xs h = record { small = λ i. let l : one_word_range ≤ narrow_range = omega arith in le_trans (h.small i) l }

pub points_small : (xs g : List ℤ) (depth : ℕ) → InRange one_word_range xs → depth ≤ one_word_depth → g ≡ coefficients xs → Small largest g depth
points_small xs g depth h = small_within largest one_word_range one_word_depth (omega arith) xs g depth h.small
