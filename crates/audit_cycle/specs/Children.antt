-- The eight children of a cell by its four quarters.
use Rattle.std.specs.Prelude.{◌≡◌, List, [], ◌++◌, ℕ, zero, suc, ◌+◌, ◌-◌, ◌^◌, ◌<◌, ◌≤◌, get_or, set, length, ℤ}
use Rattle.std.proofs.Common.{sym, ◌∙◌, ap, subst, arith, le_trans, mul-le-mul_left, zero-lt-suc, length-set, get_or-set_same, get_or-set_other}
use Rattle.std.proofs.lemmas.List.{set-append_left, set-append_right}
use Rattle.std.proofs.Math.Nat.{pow-le-pow_right}
use Rattle.std.proofs.Math.Decide.{ℕ_discrete}
use Rattle.definitions.specs.Jacobian.{side}
use Rattle.definitions.specs.Subdivision.{halve}
use Rattle.expansion_theory.specs.Control.{Cuttable}
use Rattle.verdict_theory.specs.Clear.{child_control}
use Rattle.search_theory.specs.Meaning.{Small, Grid}
use Rattle.audit_theory.specs.Cuts.{Quarters, third_cut}

-- the coefficients of cell k, counted from 0, of several
abbrev pub cells : List (List ℤ) → ℕ → List ℤ
cells gs k = get_or gs k []

-- the halves across ζ of the first n of four quarters, the lower ones first
pub record Laid (quarters : List (List ℤ)) (n : ℕ) (children : List (List ℤ)) : Type 0 where
  pub sized : length children ≡ 8
  pub below : (k : ℕ) → k < n → cells children k ≡ halve 2 0 (cells quarters k)
  pub above : (k : ℕ) → k < n → cells children (k + 4) ≡ halve 2 1 (cells quarters k)

pub record Eighths (quarters children : List (List ℤ)) : Type 0 where
  pub laid : Laid quarters 4 children

pub none_laid : (quarters : List (List ℤ)) {children : List (List ℤ)} → length children ≡ 8 → Laid quarters 0 children
none_laid quarters s = record { sized = s; below = λ k h. absurd (omega (arith, h)); above = λ k h. absurd (omega (arith, h)) }

pub one_laid : {quarters : List (List ℤ)} {n : ℕ} {children after : List (List ℤ)} {lower upper : List ℤ} → Laid quarters n children → n < 4
    → lower ≡ halve 2 0 (cells quarters n) → upper ≡ halve 2 1 (cells quarters n) → after ≡ set (set children n lower) (n + 4) upper → Laid quarters (n + 1) after
one_laid {quarters} {n} {children} {after} {lower} {upper} l h p q e = record {
  sized = ap length e ∙ length-set (set children n lower) (n + 4) upper ∙ length-set children n lower ∙ l.sized;
  below = λ k m. ap (λ (gs : List (List ℤ)). cells gs k) e ∙ get_or-set_other (set children n lower) (n + 4) k upper [] (λ z. absurd (omega (arith, z, m, h)))
      ∙ elim (ℕ_discrete k n) [
        | yes s ↦ ap (cells (set children n lower)) s ∙ get_or-set_same children n lower [] (omega (arith, l.sized, h)) ∙ p ∙ ap (λ (j : ℕ). halve 2 0 (cells quarters j)) (sym s)
        | no s ↦ get_or-set_other children n k lower [] s ∙ l.below k (omega (arith, m, s))
      ];
  above = λ k m. ap (λ (gs : List (List ℤ)). cells gs (k + 4)) e
      ∙ elim (ℕ_discrete k n) [
        | yes s ↦ ap (λ (j : ℕ). cells (set (set children n lower) (n + 4) upper) (j + 4)) s ∙ get_or-set_same (set children n lower) (n + 4) upper [] (subst (λ (t : ℕ). n + 4 < t) (sym (length-set children n lower)) (omega (arith, l.sized, h))) ∙ q ∙ ap (λ (j : ℕ). halve 2 1 (cells quarters j)) (sym s)
        | no s ↦ get_or-set_other (set children n lower) (n + 4) (k + 4) upper [] (λ z. s (omega (arith, z))) ∙ get_or-set_other children n (k + 4) lower [] (λ z. absurd (omega (arith, z, h))) ∙ l.above k (omega (arith, m, s))
      ];
}

-- the same where the lower halves stand in one part and the upper ones in another
pub one_laid_apart : {quarters : List (List ℤ)} {n : ℕ} (lowers uppers : List (List ℤ)) {lowers' uppers' : List (List ℤ)} {lower upper : List ℤ} → Laid quarters n (lowers ++ uppers) → length lowers ≡ 4 → n < 4
    → lower ≡ halve 2 0 (cells quarters n) → upper ≡ halve 2 1 (cells quarters n) → lowers' ≡ set lowers n lower → uppers' ≡ set uppers n upper → Laid quarters (n + 1) (lowers' ++ uppers')
one_laid_apart {quarters} {n} lowers uppers {lowers'} {uppers'} {lower} {upper} l s h p q d e = one_laid l h p q both
  where
    there : n + 4 - 4 ≡ n
    there = omega arith

    second : set (set lowers n lower ++ uppers) (n + 4) upper ≡ set lowers n lower ++ set uppers n upper
    second = set-append_right (set lowers n lower) uppers 4 (n + 4) upper (length-set lowers n lower ∙ s) (omega arith) ∙ ap (λ (k : ℕ). set lowers n lower ++ set uppers k upper) there

    both : lowers' ++ uppers' ≡ set (set (lowers ++ uppers) n lower) (n + 4) upper
    both = (λ i. d i ++ e i) ∙ sym (ap (λ (gs : List (List ℤ)). set gs (n + 4) upper) (set-append_left lowers uppers n lower (omega (arith, s, h))) ∙ second)

-- ---- a cell with levels below it has room for one
pub one_level : (x m : ℕ) → Grid x (m + 1) → Grid x 1
one_level x m h = let l : 1 ≤ m + 1 = omega arith in let p : 2 ^ 1 ≤ 2 ^ (m + 1) = pow-le-pow_right (zero-lt-suc 1) l in le_trans (mul-le-mul_left (x + 1) p) h

-- ---- the quarters of a cell
module _ (g : List ℤ) (quarters : List (List ℤ)) (q : Quarters g (cells quarters 0) (cells quarters 1) (cells quarters 2) (cells quarters 3)) where
  quarter_is : (k : ℕ) → k < 4 → cells quarters k ≡ halve 1 (side 1 k) (halve 0 (side 0 k) g)
  quarter_is zero h = q.first_is
  quarter_is (suc zero) h = q.second_is
  quarter_is (suc (suc zero)) h = q.third_is
  quarter_is (suc (suc (suc zero))) h = q.fourth_is
  quarter_is (suc (suc (suc (suc k)))) h = absurd (omega (arith, h))

  -- where there is room for three cuts they can be cut
  pub quarters_cut : (top m : ℕ) → Small top g (m + 1) → (k : ℕ) → k < 4 → Cuttable top (cells quarters k)
  quarters_cut top m small k h = subst (Cuttable top) (sym (quarter_is k h)) (third_cut top g m small 0 (side 0 k) 1 (side 1 k))

  -- their halves are the children
  pub child_is : {children : List (List ℤ)} → Eighths quarters children → (k : ℕ) → k < 8 → cells children k ≡ child_control g k
  child_is e zero h = e.laid.below 0 (omega arith) ∙ ap (halve 2 0) q.first_is
  child_is e (suc zero) h = e.laid.below 1 (omega arith) ∙ ap (halve 2 0) q.second_is
  child_is e (suc (suc zero)) h = e.laid.below 2 (omega arith) ∙ ap (halve 2 0) q.third_is
  child_is e (suc (suc (suc zero))) h = e.laid.below 3 (omega arith) ∙ ap (halve 2 0) q.fourth_is
  child_is e (suc (suc (suc (suc zero)))) h = e.laid.above 0 (omega arith) ∙ ap (halve 2 1) q.first_is
  child_is e (suc (suc (suc (suc (suc zero))))) h = e.laid.above 1 (omega arith) ∙ ap (halve 2 1) q.second_is
  child_is e (suc (suc (suc (suc (suc (suc zero)))))) h = e.laid.above 2 (omega arith) ∙ ap (halve 2 1) q.third_is
  child_is e (suc (suc (suc (suc (suc (suc (suc zero))))))) h = e.laid.above 3 (omega arith) ∙ ap (halve 2 1) q.fourth_is
  child_is e (suc (suc (suc (suc (suc (suc (suc (suc k)))))))) h = absurd (omega (arith, h))
