-- A run of operations at any width, each of which wraps: where the formula's own value is in range, the last result is that value. No part before it has to fit.
use Rattle.std.specs.Prelude.{◌≡◌, ℕ, ◌^◌, ◌≤◌, T, ltb, ℤ, pos, negsuc, nat_abs, ◌+ℤ◌, ◌-ℤ◌, ◌*ℤ◌}
use Rattle.std.proofs.Common.{le_trans, le_refl, lt_of_le_of_lt, ltb→lt}
use Rattle.std.proofs.Math.Nat.{le-suc}
use Rattle.std.specs.Int.Signed.{mag}
use Rattle.std.specs.Int.{Width}
use mir.Val.{SFits, bits, hbits}
use Rattle.foundation.specs.Bound.{bound, bound_is}
use Rattle.foundation.specs.Polynomial.{eval}
use Rattle.foundation.specs.Words.{Op, arg, lit, plus, minus, times, formula}
use Rattle.definitions.specs.TwoWords.{wrapped}
use Rattle.wrapping_theory.specs.Congruence.{Congruent, equal, itself, chained, sum, difference, product}
use Rattle.wrapping_theory.specs.Wrapping.{wrapped_congruent, one_alone}

mag_most : (z : ℤ) → mag z ≤ nat_abs z
mag_most (pos n) = le_refl n
mag_most (negsuc n) = le-suc n

module _ (w : Width) where
  -- what a run on the numbers ρ comes to
  abbrev pub ran : (ℕ → ℤ) → Op → ℤ
  ran ρ (arg i) = ρ i
  ran ρ (lit c) = c
  ran ρ (plus a b) = wrapped w (ran ρ a +ℤ ran ρ b)
  ran ρ (minus a b) = wrapped w (ran ρ a -ℤ ran ρ b)
  ran ρ (times a b) = wrapped w (ran ρ a *ℤ ran ρ b)

  pub ran_congruent : (ρ : ℕ → ℤ) (o : Op) → Congruent (2 ^ bits w) (ran ρ o) (eval ρ (formula o))
  ran_congruent ρ (arg i) = itself (ρ i)
  ran_congruent ρ (lit c) = itself c
  ran_congruent ρ (plus a b) = chained (wrapped_congruent w (ran ρ a +ℤ ran ρ b)) (sum (ran_congruent ρ a) (ran_congruent ρ b))
  ran_congruent ρ (minus a b) = chained (wrapped_congruent w (ran ρ a -ℤ ran ρ b)) (difference (ran_congruent ρ a) (ran_congruent ρ b))
  ran_congruent ρ (times a b) = chained (wrapped_congruent w (ran ρ a *ℤ ran ρ b)) (product (ran_congruent ρ a) (ran_congruent ρ b))

  pub size_fits : (n : ℕ) (z : ℤ) → nat_abs z ≤ n → T (ltb n (2 ^ hbits w)) → SFits w z
  size_fits n z h t = record { sfits = lt_of_le_of_lt (le_trans (mag_most z) h) (ltb→lt n (2 ^ hbits w) t) }

  -- a result that is in range, as every result is: exact where the whole formula's value is in range
  module _ {r : ℤ} (ρ : ℕ → ℤ) (o : Op) (f : SFits w r) (e : r ≡ ran ρ o) where
    pub run_exact : SFits w (eval ρ (formula o)) → r ≡ eval ρ (formula o)
    run_exact g = one_alone w f g (chained (equal e) (ran_congruent ρ o))

    -- the same where the bound that is computed for the whole formula is in range
    pub run_bounded : (β : ℕ → ℕ) → ((i : ℕ) → nat_abs (ρ i) ≤ β i) → T (ltb (bound β (formula o)) (2 ^ hbits w)) → r ≡ eval ρ (formula o)
    run_bounded β h t = run_exact (size_fits (bound β (formula o)) (eval ρ (formula o)) (bound_is ρ β h (formula o)) t)
