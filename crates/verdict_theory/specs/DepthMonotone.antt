-- Promise 3 of docs/TRUST.md, whole: a closer look never takes back what was sold.
use Rattle.std.specs.Prelude.{◌≡◌, List, ◌⊎◌, ℕ, ◌-◌, ◌≤◌, ◌^◌, ℤ, nat_abs, ◌*ℤ◌, ◌≤ℤ◌, ◌<ℤ◌}
use Rattle.std.proofs.Math.Path.{refl, ap}
use Rattle.std.proofs.Common.{sym, ◌∙◌, inl, inr, arith}
use Rattle.std.proofs.Math.Decide.{dec_le}
use Rattle.std.proofs.Math.IntN.{pos}
use Rattle.foundation.specs.Order.{Positive, positive_lt, positive_unscale}
use Rattle.definitions.specs.Jacobian.{jacobian, scaled_jacobian}
use Rattle.definitions.specs.Verdict.{Verdict, valid, invalid, undecided, verdict, opened}
use Rattle.definitions.specs.Bounds.{low, high}
use Rattle.definitions.specs.Record.{kind, verdict_words, record_of, kind_word}
use Rattle.verdict_theory.specs.Positive.{PositiveLevel, level_next, positive_points}
use Rattle.verdict_theory.specs.Points.{AtPoints, positive_down}
use Rattle.verdict_theory.specs.Meaning.{clear_grid}
use Rattle.verdict_theory.specs.Stable.{Way, is_invalid, is_valid, is_undecided, way, invalid_same, valid_same, invalid_verdict, undecided_verdict}

module _ (xs : List ℤ) where
  first_kind : (D : ℕ) → kind_word (record_of xs D) ≡ pos (kind (verdict xs D))
  unfolding record_of
  first_kind D = go (verdict xs D) (opened xs D)
    where
      go : (v : Verdict) (n : ℕ) → kind_word (verdict_words v n) ≡ pos (kind v)
      go (valid l) n = refl
      go (invalid l f) n = refl
      go (undecided l f) n = refl

  kind_is : (D k : ℕ) → kind_word (record_of xs D) ≡ pos k → kind (verdict xs D) ≡ k
  kind_is D k e = ap nat_abs (sym (first_kind D) ∙ e)

  pub settled_same : (D D' : ℕ) → D ≤ D' → (kind_word (record_of xs D) ≡ pos 0) ⊎ (kind_word (record_of xs D) ≡ pos 1) → record_of xs D' ≡ record_of xs D
  settled_same D D' l settled = go (way xs D)
    where
      small : (kind_word (record_of xs D) ≡ pos 0) ⊎ (kind_word (record_of xs D) ≡ pos 1) → kind (verdict xs D) ≤ 1
      small (inl e) = omega (arith, kind_is D 0 e)
      small (inr e) = omega (arith, kind_is D 1 e)

      go : Way xs D → record_of xs D' ≡ record_of xs D
      go (is_invalid f h) = invalid_same xs D D' l f h
      go (is_valid h) = valid_same xs D D' l h
      go (is_undecided f h) = absurd (omega (arith, small settled, ap kind (undecided_verdict xs D f h)))

  -- J is above 0 at every dyadic point, finer and coarser than D
  everywhere : (D : ℕ) → PositiveLevel xs D → (M : ℕ) → AtPoints xs Positive M
  everywhere D h M = elim (dec_le D M) [
    | yes l ↦ clear_grid xs M (positive_points xs M (level_next xs D M l h))
    | no l ↦ positive_down xs M D (omega arith) (clear_grid xs D (positive_points xs D h))
  ]

  pub valid_everywhere : (D : ℕ) → kind_word (record_of xs D) ≡ pos 0 → (M a b c : ℕ) → a ≤ 2 ^ M → b ≤ 2 ^ M → c ≤ 2 ^ M → pos 0 <ℤ jacobian xs M a b c
  unfolding scaled_jacobian
  valid_everywhere D e M a b c ha hb hc = go (way xs D)
    where
      go : Way xs D → pos 0 <ℤ jacobian xs M a b c
      go (is_invalid f h) = absurd (omega (arith, kind_is D 0 e, ap kind (invalid_verdict xs D f h)))
      go (is_valid h) = positive_lt (jacobian xs M a b c) (positive_unscale 7 (jacobian xs M a b c) (everywhere D h.positive M a b c ha hb hc))
      go (is_undecided f h) = absurd (omega (arith, kind_is D 0 e, ap kind (undecided_verdict xs D f h)))

-- For eight points and two depths, the first no greater than the second.
pub record DepthMonotone (xs : List ℤ) (D D' : ℕ) : Type 0 where
  -- "a valid or invalid record stays the same in every word"
  pub same : (kind_word (record_of xs D) ≡ pos 0) ⊎ (kind_word (record_of xs D) ≡ pos 1) → record_of xs D' ≡ record_of xs D
  -- "the low bound does not fall and the high bound does not rise, at one scale"
  pub low_bound : (pos (64 ^ (D' - D)) *ℤ low xs D) ≤ℤ low xs D'
  pub high_bound : high xs D' ≤ℤ (pos (64 ^ (D' - D)) *ℤ high xs D)
  -- "a valid record means that the determinant is positive at every dyadic point, of whatever power of two"
  pub positive : (kind_word (record_of xs D) ≡ pos 0) ⊎ (kind_word (record_of xs D') ≡ pos 0) → (M a b c : ℕ) → a ≤ 2 ^ M → b ≤ 2 ^ M → c ≤ 2 ^ M → pos 0 <ℤ jacobian xs M a b c
