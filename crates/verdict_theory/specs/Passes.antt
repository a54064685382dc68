-- Pass after pass, level 0, 1, .., D: what each pass finds settles the record or calls for the next.
use Rattle.std.specs.Prelude.{◌≡◌, refl, false, not, List, ℕ, zero, suc, ◌+◌, ◌<◌, ◌≤◌, ℤ}
use Rattle.std.proofs.Math.Path.{sym, ap}
use Rattle.std.proofs.Common.{◌∙◌, arith}
use Rattle.std.proofs.Math.Option.{Option, none, some}
use Rattle.std.proofs.Math.Decide.{ℕ_discrete}
use Rattle.definitions.specs.Subdivision.{whole}
use Rattle.definitions.specs.Verdict.{Finding, found, low_point, low_coefficient, last_level, valid_level, valid, invalid, undecided, verdict, opened}
use Rattle.verdict_theory.specs.Count.{count_at, count_to, opened_at_law}
use Rattle.verdict_theory.specs.Levels.{level_unique}
use Rattle.verdict_theory.specs.Positive.{clear_positive}
use Rattle.verdict_theory.specs.Stable.{has_point, is_clear, Valid, invalid_verdict, valid_verdict, undecided_verdict, verdict_same, opened_same, last_none}
use Rattle.verdict_theory.specs.Search.{Found, nothing, coefficient, point, Pass, finds, pass, visit, visit_whole}

-- what a pass's find says of its two parts
finds_point : (p k : Option Finding) (f : Finding) → finds p k ≡ point f → p ≡ some f
finds_point (some g) k f e = let q : g ≡ f = cc in ap some q
finds_point none (some g) f e = let q : ◌≡◌ {A = ℕ} 0 1 = cc in absurd (omega arith)
finds_point none none f e = let q : ◌≡◌ {A = ℕ} 0 1 = cc in absurd (omega arith)

finds_coefficient : (p k : Option Finding) (f : Finding) → finds p k ≡ coefficient f → (p ≡ none) × (k ≡ some f)
finds_coefficient (some g) k f e = let q : ◌≡◌ {A = ℕ} 0 1 = cc in absurd (omega arith)
finds_coefficient none (some g) f e = let q : g ≡ f = cc in (refl, ap some q)
finds_coefficient none none f e = let q : ◌≡◌ {A = ℕ} 0 1 = cc in absurd (omega arith)

finds_nothing : (p k : Option Finding) → finds p k ≡ nothing → (p ≡ none) × (k ≡ none)
finds_nothing (some g) k e = let q : ◌≡◌ {A = ℕ} 0 1 = cc in absurd (omega arith)
finds_nothing none (some g) e = let q : ◌≡◌ {A = ℕ} 0 1 = cc in absurd (omega arith)
finds_nothing none none e = (refl, refl)

module _ (xs : List ℤ) where
  -- the cells opened at the levels before m
  abbrev pub count_before : ℕ → ℕ
  count_before zero = 0
  count_before (suc m) = count_to xs m

  count_with : (m : ℕ) → count_before m + count_at xs m ≡ count_to xs m
  count_with zero = omega arith
  count_with (suc m) = refl

  -- before the pass of level m: every level below has a low coefficient and no low point, and n cells were opened
  pub record Before (m n : ℕ) : Type 0 where
    pub points : (k : ℕ) → k < m → low_point xs k ≡ none
    pub blocked : (k : ℕ) → k < m → is_clear xs k ≡ false
    pub count : n ≡ count_before m

  pub before_first : Before 0 0
  before_first = record { points = λ k h. absurd (omega arith); blocked = λ k h. absurd (omega arith); count = refl }

  module _ (m n : ℕ) (before : Before m n) (c : ℕ) (o : Found) (e : visit m (whole xs) (pass n none none) ≡ record { count = c; found = o }) where
    seen : pass (n + count_at xs m) (low_point xs m) (low_coefficient xs m) ≡ record { count = c; found = o }
    seen = sym (visit_whole xs m n) ∙ e

    found_is : finds (low_point xs m) (low_coefficient xs m) ≡ o
    found_is = ap (λ (r : Pass). r.found) seen

    count_is : c ≡ count_to xs m
    count_is = sym (ap (λ (r : Pass). r.count) seen) ∙ ap (λ (k : ℕ). k + count_at xs m) before.count ∙ count_with m

    upto : low_point xs m ≡ none → (k : ℕ) → k ≤ m → low_point xs k ≡ none
    upto p k h = elim (ℕ_discrete k m) [ yes q ↦ ap (low_point xs) q ∙ p | no q ↦ before.points k (omega arith) ]

    pub pass_point : (f : Finding) → o ≡ point f → (D : ℕ) → m ≤ D → (invalid m f ≡ verdict xs D) × (c ≡ opened xs D)
    unfolding last_level
    pass_point f q D h = (ap (λ (l : ℕ). invalid l f) (sym last) ∙ sym (invalid_verdict xs D f (record { point = ap (low_point xs) last ∙ p })), count_is ∙ sym (opened_at_law xs D m last))
      where
        p : low_point xs m ≡ some f
        p = finds_point (low_point xs m) (low_coefficient xs m) f (found_is ∙ q)

        last : last_level xs D ≡ m
        last = level_unique (has_point xs) D m h (ap found p) (λ k l. ap found (before.points k l))

    pub pass_nothing : o ≡ nothing → (D : ℕ) → m ≤ D → (valid m ≡ verdict xs D) × (c ≡ opened xs D)
    unfolding valid_level
    pass_nothing q D h = (ap valid (sym level) ∙ sym (valid_verdict xs m v) ∙ sym (verdict_same xs m D h v), count_is ∙ sym (opened_at_law xs m m (last_none xs m v.no_point)) ∙ sym (opened_same xs m D h v))
      where
        p : (low_point xs m ≡ none) × (low_coefficient xs m ≡ none)
        p = finds_nothing (low_point xs m) (low_coefficient xs m) (found_is ∙ q)

        v : Valid xs m
        v = record { positive = clear_positive xs m p.1; no_point = upto p.0 }

        level : valid_level xs m ≡ m
        level = level_unique (is_clear xs) m m (omega arith) (ap (λ (k : Option Finding). not (found k)) p.1) before.blocked

    pub pass_last : (f : Finding) → o ≡ coefficient f → (undecided m f ≡ verdict xs m) × (c ≡ opened xs m)
    pass_last f q = (sym (undecided_verdict xs m f (record { no_point = upto p.0; coefficient = p.1 })), count_is ∙ sym (opened_at_law xs m m (last_none xs m (upto p.0))))
      where
        p : (low_point xs m ≡ none) × (low_coefficient xs m ≡ some f)
        p = finds_coefficient (low_point xs m) (low_coefficient xs m) f (found_is ∙ q)

    pub pass_on : (f : Finding) → o ≡ coefficient f → Before (suc m) c
    pass_on f q = record {
      points = λ k h. upto p.0 k (omega arith);
      blocked = λ k h. elim (ℕ_discrete k m) [ yes r ↦ ap (is_clear xs) r ∙ ap (λ (k : Option Finding). not (found k)) p.1 | no r ↦ before.blocked k (omega arith) ];
      count = count_is;
    }
      where
        p : (low_point xs m ≡ none) × (low_coefficient xs m ≡ some f)
        p = finds_coefficient (low_point xs m) (low_coefficient xs m) f (found_is ∙ q)
