-- The least level of 0..n at which a test holds.
use Rattle.std.specs.Prelude.{◌≡◌, refl, Bool, true, false, ℕ, zero, suc, ◌≤◌, ◌<◌}
use Rattle.std.proofs.Common.{sym, ◌∙◌, ap, subst, true≢false, arith}
use Rattle.std.proofs.Math.Decide.{ℕ_discrete, dec_lt}
use Rattle.foundation.specs.Lists.{up}
use Rattle.definitions.specs.Verdict.{least_level}

module _ (p : ℕ → Bool) where
  -- one level more, by what the test says of the level found so far
  abbrev next : ℕ → Bool → ℕ
  next n b = elim b [ true ↦ least_level p n | false ↦ suc n ]

  pub level_le : (n : ℕ) → least_level p n ≤ n
  level_le zero = omega arith
  level_le (suc n) = go (p (least_level p n)) (level_le n)
    where
      go : (b : Bool) → least_level p n ≤ n → next n b ≤ suc n
      go true h = omega arith
      go false h = omega arith

  -- where the test fails at the level found, that is the last, and the test fails at all
  pub level_none : (n : ℕ) → p (least_level p n) ≡ false → (least_level p n ≡ n) × ((k : ℕ) → k ≤ n → p k ≡ false)
  level_none zero e = (refl, λ k h. let q : 0 ≡ k = omega arith in subst (λ (i : ℕ). p i ≡ false) q e)
  level_none (suc n) e = go (p (least_level p n)) refl (level_none n) e
    where
      go : (b : Bool) → p (least_level p n) ≡ b → (p (least_level p n) ≡ false → (least_level p n ≡ n) × ((k : ℕ) → k ≤ n → p k ≡ false))
          → p (next n b) ≡ false → (next n b ≡ suc n) × ((k : ℕ) → k ≤ suc n → p k ≡ false)
      go true q r e = absurd (true≢false (sym q ∙ e))
      go false q r e = (refl, λ k h. elim (ℕ_discrete (suc n) k) [ yes i ↦ subst (λ (j : ℕ). p j ≡ false) i e | no i ↦ (r q).1 k (omega arith) ])

  -- it fails below the level found
  pub level_before : (n k : ℕ) → k < least_level p n → p k ≡ false
  level_before zero k h = absurd (omega arith)
  level_before (suc n) k h = go (p (least_level p n)) refl (level_before n k) h
    where
      go : (b : Bool) → p (least_level p n) ≡ b → (k < least_level p n → p k ≡ false) → k < next n b → p k ≡ false
      go true e r h = r h
      go false e r h = (level_none n e).1 k (omega arith)

  -- it holds at the level found if it holds at any
  pub level_holds : (n k : ℕ) → k ≤ n → p k ≡ true → p (least_level p n) ≡ true
  level_holds n k h e = go (p (least_level p n)) refl
    where
      go : (b : Bool) → p (least_level p n) ≡ b → p (least_level p n) ≡ true
      go true q = q
      go false q = absurd (true≢false (sym e ∙ (level_none n q).1 k h))

  -- once found, it stays found
  pub level_up : (m n : ℕ) → m ≤ n → p (least_level p m) ≡ true → least_level p n ≡ least_level p m
  level_up m n h e = up (λ k. least_level p k ≡ least_level p m) (λ k q. ap (next k) (ap p q ∙ e) ∙ q) m n h refl

  -- the level found is the only one at which the test holds and below which it fails
  pub level_unique : (n l : ℕ) → l ≤ n → p l ≡ true → ((k : ℕ) → k < l → p k ≡ false) → least_level p n ≡ l
  level_unique n l h e below = elim (dec_lt (least_level p n) l) [
    | yes q ↦ absurd (true≢false (sym (level_holds n l h e) ∙ below (least_level p n) q))
    | no q ↦ elim (dec_lt l (least_level p n)) [ yes r ↦ absurd (true≢false (sym e ∙ level_before n l r)) | no r ↦ omega arith ]
  ]
