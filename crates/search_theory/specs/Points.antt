-- Eight points within a range: numbers of a largest magnitude hold their coefficients, at every level to a depth, if it is large enough for both.
use Rattle.std.specs.Prelude.{◌≡◌, List, ℕ, ◌*◌, ◌^◌, ◌≤◌, get_or, length, ℤ, pos, nat_abs}
use Rattle.std.proofs.Common.{sym, ◌∙◌, ap, subst, le_trans, mul-le-mul_left, zero-lt-suc}
use Rattle.std.proofs.Math.Nat.{pow-le-pow_right}
use Rattle.foundation.specs.Words.{Within}
use Rattle.definitions.specs.Coefficients.{coefficients}
use Rattle.definitions.specs.Subdivision.{whole}
use Rattle.expansion_theory.specs.Expansion.{length_coefficients}
use Rattle.expansion_theory.specs.Size.{whole_size}
use Rattle.search_theory.specs.Meaning.{Small}

module _ (top range deepest : ℕ) (room : 384 * range ^ 3 * 64 ^ deepest ≤ top) where
  within : (xs : List ℤ) → ((i : ℕ) → nat_abs (get_or xs i (pos 0)) ≤ range) → Within (384 * range ^ 3) (coefficients xs)
  unfolding whole
  within xs h = whole_size xs range h

  pub points_small : (xs g : List ℤ) (depth : ℕ) → ((i : ℕ) → nat_abs (get_or xs i (pos 0)) ≤ range) → depth ≤ deepest → g ≡ coefficients xs → Small top g depth
  points_small xs g depth h l e = record {
    bound = 384 * range ^ 3;
    control = record { sized = ap length e ∙ length_coefficients xs; within = subst (Within (384 * range ^ 3)) (sym e) (within xs h) };
    small = le_trans (mul-le-mul_left (384 * range ^ 3) (pow-le-pow_right (zero-lt-suc 63) l)) room;
  }
