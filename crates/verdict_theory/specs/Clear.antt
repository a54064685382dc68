-- Cells without a low coefficient: a child in a half without one has none, and a search passes over it.
use Rattle.std.specs.Prelude.{◌≡◌, refl, true, false, List, ℕ, zero, suc, ◌+◌, length, ℤ, pos, ◌≤ℤ◌}
use Rattle.std.proofs.Common.{◌∙◌, ap, subst, true≢false, arith}
use Rattle.std.proofs.Math.Option.{none, some}
use Rattle.std.specs.Int.Signed.{le_z_yes}
use Rattle.foundation.specs.Lists.{All, all_map}
use Rattle.foundation.specs.Order.{Positive, le_trans, le_add, le_scale}
use Rattle.definitions.specs.Jacobian.{side}
use Rattle.definitions.specs.Subdivision.{halve, Cell, child, children}
use Rattle.definitions.specs.Verdict.{first_low, found, coefficients_of, blocked}
use Rattle.expansion_theory.specs.Numbering.{at_all}
use Rattle.expansion_theory.specs.Cut.{length_halve}
use Rattle.expansion_theory.specs.Combination.{halve_keeps}
use Rattle.verdict_theory.specs.Findings.{low_none, none_low}
use Rattle.verdict_theory.specs.Positive.{positive_findings, findings_positive}
use Rattle.verdict_theory.specs.Stable.{not_found}
use Rattle.verdict_theory.specs.Commute.{child_by_halves}
use Rattle.verdict_theory.specs.Search.{Found, nothing, coefficient, point, Pass, pass, corner_values, open_cell, open_all, ended, visit, positive_values}

-- ---- 27 coefficients, all above 0
abbrev pub Clear : List ℤ → Type 0
Clear c = All Positive c × (length c ≡ 27)

pub unblocked_clear : (s : Cell) → length s.control ≡ 27 → blocked s ≡ false → Clear s.control
unblocked_clear s h e = findings_positive s h (low_none (coefficients_of s) (not_found (first_low (coefficients_of s)) e))

halve_clear : (d h : ℕ) (c : List ℤ) → Clear c → Clear (halve d h c)
halve_clear d h c p = (all_map (AtLeast 4) Positive (λ v q. le_trans (le_z_yes tt) q) (halve d h c) (halve_keeps AtLeast (record { sums = le_add; multiples = le_scale }) 1 d h c (at_all Positive c p.1 p.0)), length_halve d h c)
  where
    AtLeast : ℕ → ℤ → Type 0
    AtLeast n v = pos n ≤ℤ v

-- ---- child k by halves
abbrev pub child_control : List ℤ → ℕ → List ℤ
child_control c k = halve 2 (side 2 k) (halve 1 (side 1 k) (halve 0 (side 0 k) c))

pub child_control_law : (s : Cell) (k : ℕ) → child_control s.control k ≡ (child s k).control
unfolding child
child_control_law s k = refl

module _ (c : List ℤ) (k : ℕ) where
  -- the half in ζ that it lies in, and of that the half in η
  abbrev pub half_of : List ℤ
  half_of = halve 2 (side 2 k) c

  abbrev pub quarter_of : List ℤ
  quarter_of = halve 1 (side 1 k) half_of

  pub quarter_clear : Clear quarter_of → Clear (child_control c k)
  quarter_clear p = subst Clear (child_by_halves c k) (halve_clear 0 (side 0 k) quarter_of p)

  pub half_clear : Clear half_of → Clear (child_control c k)
  half_clear p = quarter_clear (halve_clear 1 (side 1 k) half_of p)

-- ---- what a search makes of them
abbrev pub more : ℕ → Pass → Pass
more n r = record { count = r.count + n; found = r.found }

-- of n such cells with m levels below them: all are opened at the last level, else none
abbrev pub opened_clear : ℕ → ℕ → ℕ
opened_clear n zero = n
opened_clear n (suc m) = 0

pub visit_clear : (m : ℕ) (s : Cell) (r : Pass) → Clear s.control → ended r.found ≡ false → visit m s r ≡ more (opened_clear 1 m) r
unfolding visit open_cell
visit_clear zero s r p going = go r.count r.found going
  where
    corners : first_low (corner_values s) ≡ none
    corners = none_low (corner_values s) (positive_values s p)

    coefficients : first_low (coefficients_of s) ≡ none
    coefficients = none_low (coefficients_of s) (positive_findings s p)

    one : (n : ℕ) → suc n ≡ n + 1
    one n = omega arith

    go : (n : ℕ) (o : Found) → ended o ≡ false → open_cell s (record { count = n; found = o }) ≡ record { count = n + 1; found = o }
    go n nothing e = λ i. pass (one n i) (corners i) (coefficients i)
    go n (coefficient f) e = λ i. pass (one n i) (corners i) (some f)
    go n (point f) e = absurd (true≢false e)
visit_clear (suc m) s r p going = let e : r.count ≡ r.count + 0 = omega arith in
    (λ i. elim (going i) as (λ _. Pass) [ true ↦ r | false ↦ elim (unblocked i) as (λ _. Pass) [ true ↦ open_all (visit m) (children s) r | false ↦ r ] ]) ∙ (λ i. record { count = e i; found = r.found })
  where
    unblocked : blocked s ≡ false
    unblocked = ap found (none_low (coefficients_of s) (positive_findings s p))
