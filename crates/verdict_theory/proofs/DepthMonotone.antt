-- Promise 3, of eight points and two depths: a closer look never takes back what was sold.
use Rattle.std.specs.Prelude.{◌≡◌, List, ◌⊎◌, ℕ, ◌+◌, ◌-◌, ◌≤◌, ◌^◌, ℤ, ◌*ℤ◌, ◌≤ℤ◌, ◌<ℤ◌}
use Rattle.std.proofs.Common.{subst, inl, inr, arith}
use Rattle.std.proofs.Math.IntN.{pos}
use Rattle.definitions.specs.Jacobian.{jacobian}
use Rattle.definitions.specs.Bounds.{low, high}
use Rattle.definitions.specs.Record.{record_of, kind_word}
use Rattle.verdict_theory.specs.Bounds.{low_rises, high_falls}
use Rattle.verdict_theory.specs.DepthMonotone.{settled_same, valid_everywhere, DepthMonotone}

-- It holds of any coordinates and any depths, whatever the limits.
pub depth_monotone : (xs : List ℤ) (D D' : ℕ) → D ≤ D' → DepthMonotone xs D D'
depth_monotone xs D D' l = let e : D' - D + D ≡ D' = omega arith in record {
  same = settled_same xs D D' l;
  low_bound = subst (λ (n : ℕ). (pos (64 ^ (D' - D)) *ℤ low xs D) ≤ℤ low xs n) e (low_rises xs D (D' - D));
  high_bound = subst (λ (n : ℕ). high xs n ≤ℤ (pos (64 ^ (D' - D)) *ℤ high xs D)) e (high_falls xs D (D' - D));
  positive = λ h. either h;
}
  where
    either : (kind_word (record_of xs D) ≡ pos 0) ⊎ (kind_word (record_of xs D') ≡ pos 0) → (M a b c : ℕ) → a ≤ 2 ^ M → b ≤ 2 ^ M → c ≤ 2 ^ M → pos 0 <ℤ jacobian xs M a b c
    either (inl h) = valid_everywhere xs D h
    either (inr h) = valid_everywhere xs D' h
