-- How many cells a walk counts at most, and that a word has room for them.
use Rattle.std.specs.Prelude.{◌≡◌, ℕ, zero, suc, ◌+◌, ◌*◌, ◌^◌, ◌<◌, ◌≤◌}
use Rattle.std.proofs.Common.{◌∙◌, ap, suc-mul, mul-le-mul_right, arith}
use Rattle.std.proofs.Math.Nat.{pow-succ'}
use Rattle.definitions.specs.Subdivision.{Cell, child}
use Rattle.search_theory.specs.Visit.{visit_count}
use Rattle.audit_theory.specs.Walk.{Notes, sought, surveyed, walk, walk_sought, walk_surveyed, opened}
use Rattle.audit_theory.specs.Cuts.{over}

pub walk_opened : (m : ℕ) (s : Cell) (n : Notes) → opened (walk m s n) ≤ opened n + 8 ^ m
walk_opened m s (sought p) = let h = visit_count m s p in omega (arith, h, ap opened (walk_sought m s p))
walk_opened m s (surveyed e) = omega (arith, ap opened (walk_surveyed m s e))

-- the first k children of s gone through, m levels below each
module _ (s : Cell) (m : ℕ) (n : Notes) where
  over_opened : (k : ℕ) → opened (over s m n k) ≤ opened n + k * 8 ^ m
  over_opened zero = omega arith
  over_opened (suc k) = omega (arith, over_opened k, walk_opened m (child s k) (over s m n k), suc-mul k (8 ^ m))

  -- a word of 32 bits that has room for the cells below s has room for those below its next child
  pub over_room : (k : ℕ) → k < 8 → opened n + 8 ^ (m + 1) < 2 ^ 32 → {now : Notes} → now ≡ over s m n k → opened now + 8 ^ m < 2 ^ 32
  over_room k l h e = let p : suc k ≤ 8 = omega arith in let q : m + 1 ≡ suc m = omega arith in
      omega (arith, h, ap opened e, over_opened k, mul-le-mul_right (8 ^ m) p, suc-mul k (8 ^ m), ap (λ (j : ℕ). 8 ^ j) q ∙ pow-succ' 8 m)
