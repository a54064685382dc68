-- The convex hull: no coefficient of a child is below 64 times the least of its parent.
use Rattle.std.specs.Prelude.{◌≡◌, List, ℕ, ◌<◌, get_or, length, ℤ, pos, ◌+ℤ◌, ◌*ℤ◌, ◌≤ℤ◌}
use Rattle.std.proofs.Common.{sym, subst}
use Rattle.foundation.specs.Ring.{distrib_right, mul_assoc, one_mul}
use Rattle.foundation.specs.Order.{le_add, le_scale}
use Rattle.foundation.specs.Lists.{All, all_map, all_get_d}
use Rattle.definitions.specs.Subdivision.{Cell, child}
use Rattle.expansion_theory.specs.Numbering.{at_all}
use Rattle.expansion_theory.specs.Cells.{child_sized}
use Rattle.expansion_theory.specs.Combination.{Combines, child_keeps}

-- all 27 are at least m
abbrev pub Above : ℤ → List ℤ → Type 0
Above m c = All (λ v. m ≤ℤ v) c × (length c ≡ 27)

pub above_get_d : (m : ℤ) (c : List ℤ) → Above m c → (n : ℕ) → n < 27 → m ≤ℤ get_or c n (pos 0)
above_get_d m c p n h = all_get_d (λ v. m ≤ℤ v) c (pos 0) n (subst (λ k. n < k) (sym p.1) h) p.0

module _ (m : ℤ) where
  abbrev AtLeast : ℕ → ℤ → Type 0
  AtLeast n x = (pos n *ℤ m) ≤ℤ x

  combines : Combines AtLeast
  combines = record {
    sums = λ {m = a} {n = b} {x} {y} p q. subst (λ (t : ℤ). t ≤ℤ (x +ℤ y)) (sym (distrib_right (pos a) (pos b) m)) (le_add p q);
    multiples = λ {n} {x} k p. subst (λ (t : ℤ). t ≤ℤ (pos k *ℤ x)) (sym (mul_assoc (pos k) (pos n) m)) (le_scale k p);
  }

  pub child_above : (s : Cell) (k : ℕ) → Above m s.control → Above (pos 64 *ℤ m) (child s k).control
  child_above s k p = (
    child_keeps AtLeast combines s k (at_all (AtLeast 1) s.control p.1 (all_map (λ v. m ≤ℤ v) (AtLeast 1) (λ v q. subst (λ (t : ℤ). t ≤ℤ v) (sym (one_mul m)) q) s.control p.0)),
    child_sized s k,
  )
