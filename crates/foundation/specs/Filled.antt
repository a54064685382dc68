-- Lists of whole numbers that are filled from the start, number by number.
use Rattle.std.specs.Prelude.{◌≡◌, List, ℕ, ◌+◌, ◌<◌, get_or, set, length, ℤ, pos}
use Rattle.std.proofs.Common.{sym, ◌∙◌, subst, arith, length-set, get_or-set_same, get_or-set_other, ext_get_or}
use Rattle.std.proofs.Math.Decide.{ℕ_discrete}
use Rattle.foundation.specs.Lists.{tabulate, length_tabulate, tabulate_at}

-- a list of m numbers whose first n are those of f
pub record Filled (f : ℕ → ℤ) (m n : ℕ) (xs : List ℤ) : Type 0 where
  pub sized : length xs ≡ m
  pub first : (i : ℕ) → i < n → get_or xs i (pos 0) ≡ f i

module _ (f : ℕ → ℤ) where
  pub none_filled : {m : ℕ} {xs : List ℤ} → length xs ≡ m → Filled f m 0 xs
  none_filled s = record { sized = s; first = λ i l. absurd (omega arith) }

  pub one_filled : {m n : ℕ} {x : ℤ} {xs : List ℤ} → Filled f m n xs → n < m → x ≡ f n → Filled f m (n + 1) (set xs n x)
  one_filled {n = n} {x} {xs} h l e = record { sized = length-set xs n x ∙ h.sized; first = λ i k. elim (ℕ_discrete i n) [ yes p ↦ here p | no p ↦ before i p (omega arith) ] }
    where
      here : {i : ℕ} → i ≡ n → get_or (set xs n x) i (pos 0) ≡ f i
      here p = subst (λ (i : ℕ). get_or (set xs n x) i (pos 0) ≡ f i) (sym p) (get_or-set_same xs n x (pos 0) (omega (arith, h.sized)) ∙ e)

      before : (i : ℕ) → (i ≡ n → ⊥) → i < n → get_or (set xs n x) i (pos 0) ≡ f i
      before i p k = get_or-set_other xs n i x (pos 0) p ∙ h.first i k

  pub all_filled : {m : ℕ} {xs : List ℤ} → Filled f m m xs → xs ≡ tabulate f 0 m
  all_filled {m} {xs} h = ext_get_or (pos 0) xs (tabulate f 0 m) (h.sized ∙ sym (length_tabulate f 0 m)) λ i l. h.first i (omega (arith, h.sized)) ∙ sym (tabulate_at f m i (pos 0) (omega (arith, h.sized)))
