-- How many cells are opened: at most 1 + 8 + … + 8^D.
use Rattle.std.proofs.Common.{sym, arith, le_trans, add-le-add, length-append}
use Rattle.std.proofs.Math.Path.{subst}
use Rattle.std.specs.Prelude.{Bool, true, false, List, [], ◌∷◌, ℕ, zero, suc, ◌+◌, ◌*◌, ◌≤◌, ◌^◌, length, ℤ}
use Rattle.std.proofs.Math.Nat.{pow-succ'}
use Rattle.foundation.specs.Lists.{concat_map, up}
use Rattle.definitions.specs.Subdivision.{Cell, children}
use Rattle.definitions.specs.Verdict.{found, first_low, corners_of, blocked, opened_below, opened_at, last_level, opened}
use Rattle.verdict_theory.specs.Count.{up_to, count_at, count_to, opened_count}
use Rattle.verdict_theory.specs.Levels.{level_le}
use Rattle.verdict_theory.specs.Stable.{has_point}

-- 1 + 8 + … + 8^D
abbrev pub most : ℕ → ℕ
most zero = 1
most (suc D) = most D + 8 ^ suc D

up_to_le : (p : Cell → Bool) (ss : List Cell) → up_to p ss ≤ length ss
up_to_le p [] = omega arith
up_to_le p (s ∷ ss) = go (p s) (up_to_le p ss)
  where
    go : (b : Bool) → up_to p ss ≤ length ss → elim b as (λ _. ℕ) [ true ↦ 1 | false ↦ suc (up_to p ss) ] ≤ suc (length ss)
    go true h = omega arith
    go false h = omega arith

eight_below : (s : Cell) → length (opened_below s) ≤ 8
unfolding opened_below children
eight_below s = go (blocked s)
  where
    go : (b : Bool) → length {A = Cell} (elim b [ true ↦ children s | false ↦ [] ]) ≤ 8
    go true = omega arith
    go false = omega arith

next_le : (ss : List Cell) → length (concat_map opened_below ss) ≤ 8 * length ss
next_le [] = omega arith
next_le (s ∷ ss) = simp length-append (omega (arith, eight_below s, next_le ss))

module _ (xs : List ℤ) where
  level_most : (m : ℕ) → length (opened_at xs m) ≤ 8 ^ m
  level_most zero = omega arith
  level_most (suc m) = omega (arith, next_le (opened_at xs m), level_most m, pow-succ' 8 m)

  count_most : (m : ℕ) → count_at xs m ≤ 8 ^ m
  count_most m = le_trans (up_to_le (λ s. found (first_low (corners_of xs m s))) (opened_at xs m)) (level_most m)

  counts_most : (m : ℕ) → count_to xs m ≤ most m
  counts_most zero = count_most 0
  counts_most (suc m) = add-le-add (counts_most m) (count_most (suc m))

  most_up : (m D : ℕ) → m ≤ D → most m ≤ most D
  most_up m D h = up (λ k. most m ≤ most k) (λ k q. omega arith) m D h (omega arith)

  pub opened_most : (D : ℕ) → opened xs D ≤ most D
  unfolding last_level
  opened_most D = subst (λ (n : ℕ). n ≤ most D) (sym (opened_count xs D)) (le_trans (counts_most (last_level xs D)) (most_up (last_level xs D) D (level_le (has_point xs) D)))
