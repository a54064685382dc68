-- Eight points within the limits: two words hold their coefficients at every level within the limits, so the search in two words may be used;
-- and how large each number of a record gets.
use Rattle.std.specs.Prelude.{◌≡◌, List, [], ◌∷◌, ℕ, ◌-◌, ◌*◌, ◌^◌, ◌≤◌, ◌<◌, ℤ, pos, nat_abs}
use Rattle.std.proofs.Math.Path.{refl}
use Rattle.std.proofs.Common.{le_trans, mul-le-mul_left, zero-lt-suc, lt_of_le_of_lt, lit<, lit≤}
use Rattle.std.proofs.Math.Nat.{pow-le-pow_right}
use mir.Syntax.{w128}
use mir.Val.{SFits}
use Rattle.foundation.specs.Lists.{All, all_map}
use Rattle.definitions.specs.Limits.{base}
use Rattle.definitions.specs.TwoWords.{value, low_word, high_word}
use Rattle.definitions.specs.Coefficients.{coefficients}
use Rattle.definitions.specs.Subdivision.{cells}
use Rattle.definitions.specs.Bounds.{low, high}
use Rattle.definitions.specs.Record.{value_held, verdict_words, record_of}
use Rattle.definitions.specs.Verdict.{Verdict, valid, invalid, undecided, verdict, opened}
use Rattle.wrapping_theory.specs.Runs.{size_fits}
use Rattle.wrapping_theory.specs.Words.{words_back, value_of_words_exact}
use Rattle.expansion_theory.specs.Size.{coefficient_finer}
use Rattle.verdict_theory.specs.Opened.{opened_most}
use Rattle.verdict_theory.specs.Named.{Names, OnGrid, named_on_grid}
use Rattle.search_theory.specs.Meaning.{Small}
use Rattle.search_theory.specs.Points.{points_small as small_within}
use Rattle.search_theory.specs.Levels.{named_small, most_less}
use Rattle.search_theory.specs.Bounds.{low_holds, high_holds}
use Rattle.element_vectors.specs.Range.{InRange}

-- the largest magnitude of a number of two words
abbrev pub largest : ℕ
largest = 2 ^ 127 - 1

-- 02, No. 8: "The largest held coefficient is below 384·2^108."
abbrev pub held_most : ℕ
held_most = 384 * 2 ^ 108

pub points_small : (xs g : List ℤ) (depth : ℕ) → InRange base.range xs → depth ≤ base.depth → g ≡ coefficients xs → Small largest g depth
points_small xs g depth h = small_within largest base.range base.depth (lit≤ tt) xs g depth h.small

-- ---- how large the numbers get, for points within the limits at a level or depth within them
module _ (xs : List ℤ) where
  -- every coefficient that is held is below 384 · 2^108
  pub held_below : InRange base.range xs → (m : ℕ) → m ≤ base.depth → All (λ s. All (λ v. nat_abs v < held_most) s.control) (cells xs m)
  held_below h m l = all_map (λ s. All (λ v. nat_abs v ≤ half * 64 ^ m) s.control) (λ s. All (λ v. nat_abs v < held_most) s.control)
      (λ s p. all_map (λ v. nat_abs v ≤ half * 64 ^ m) (λ v. nat_abs v < held_most) (λ v q. lt_of_le_of_lt (le_trans q (mul-le-mul_left half (pow-le-pow_right (zero-lt-suc 63) l))) (lit< tt)) s.control p) (cells xs m) (coefficient_finer xs base.range h.small m)
    where
      half : ℕ
      half = 192 * base.range ^ 3

  -- at most 19,173,961 cells are opened
  pub opened_few : (D : ℕ) → D ≤ base.depth → opened xs D ≤ 19173961
  opened_few D l = le_trans (opened_most xs D) (le_trans (most_less D l) (lit≤ tt))

  -- a grid number that is named is at most 256
  pub grid_small : (D : ℕ) → D ≤ base.depth → Names (λ f. (f.a ≤ 256) × (f.b ≤ 256) × (f.c ≤ 256)) (verdict xs D)
  grid_small D l = go (verdict xs D) (named_on_grid xs D)
    where
      most : 2 ^ D ≤ 256
      most = pow-le-pow_right (zero-lt-suc 1) l

      go : (v : Verdict) → Names (OnGrid xs D) v → Names (λ f. (f.a ≤ 256) × (f.b ≤ 256) × (f.c ≤ 256)) v
      go (valid m) h = tt
      go (invalid m f) h = (le_trans h.0 most, le_trans h.1 most, le_trans h.2 most)
      go (undecided m f) h = (le_trans h.0 most, le_trans h.1 most, le_trans h.2 most)

  -- ---- two words hold what is given, so what is read back is the number itself, and no other number has these words
  module _ (h : InRange base.range xs) (D : ℕ) (l : D ≤ base.depth) where
    held : Small largest (coefficients xs) D
    held = points_small xs (coefficients xs) D h l refl

    fits : (v : ℤ) → nat_abs v ≤ largest → SFits w128 v
    fits v q = size_fits w128 largest v q tt

    -- words 6 and 7 of a record: the value that the verdict names
    pub record_value_read : Names (λ f. value_held (record_of xs D) ≡ f.value) (verdict xs D)
    unfolding record_of
    record_value_read = go (verdict xs D) (named_small largest xs (coefficients xs) D refl held (SFits w128) fits)
      where
        go : (v : Verdict) → Names (λ f. SFits w128 f.value) v → Names (λ f. value_held (verdict_words v (opened xs D)) ≡ f.value) v
        go (valid m) q = tt
        go (invalid m f) q = words_back f.value (pos (opened xs D) ∷ []) q
        go (undecided m f) q = words_back f.value (pos (opened xs D) ∷ []) q

    -- the two words of each bound
    pub low_read : value (low_word (low xs D)) (high_word (low xs D)) ≡ low xs D
    low_read = value_of_words_exact (low xs D) (low_holds largest (SFits w128) fits xs D held)

    pub high_read : value (low_word (high xs D)) (high_word (high xs D)) ≡ high xs D
    high_read = value_of_words_exact (high xs D) (high_holds largest (SFits w128) fits xs D held)
