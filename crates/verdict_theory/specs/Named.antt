-- What a verdict names: its grid numbers, and its value as one of the coefficients.
use Rattle.std.proofs.Common.{sym, subst, le_trans, zero-lt-suc, arith}
use Rattle.std.specs.Prelude.{List, ℕ, ◌^◌, ◌≤◌, ◌<◌, get_or, ℤ, pos}
use Rattle.std.proofs.Math.Nat.{pow-le-pow_right}
use Rattle.foundation.specs.Lists.{All, all_map, all_both, all_get_d, all_concat, concat_map}
use Rattle.definitions.specs.Subdivision.{Cell, cells}
use Rattle.definitions.specs.Verdict.{Finding, corners_of, coefficients_of, Verdict, valid, invalid, undecided, verdict}
use Rattle.expansion_theory.specs.Cells.{CellOf, all_cells, corner_is}
use Rattle.verdict_theory.specs.Findings.{first_has}
use Rattle.verdict_theory.specs.Positive.{findings_of, corners_of_law}
use Rattle.verdict_theory.specs.Meaning.{Means, means, invalid_point, undecided_coefficient}

-- P holds of what is named
abbrev pub Names : (Finding → Type 0) → Verdict → Type 0
Names P (valid l) = Unit
Names P (invalid l f) = P f
Names P (undecided l f) = P f

module _ (xs : List ℤ) (D : ℕ) where
  -- a grid number of the depth
  abbrev pub OnGrid : Finding → Type 0
  OnGrid f = (f.a ≤ 2 ^ D) × (f.b ≤ 2 ^ D) × (f.c ≤ 2 ^ D)

  pub named_on_grid : Names OnGrid (verdict xs D)
  named_on_grid = go (verdict xs D) (means xs D)
    where
      go : (v : Verdict) → Means xs D v → Names OnGrid v
      go (valid l) h = tt
      go (invalid l f) h = let p = (invalid_point xs D l f h).on_grid in let q : 2 ^ l ≤ 2 ^ D = pow-le-pow_right (zero-lt-suc 1) h.within in (le_trans p.0 q, le_trans p.1 q, le_trans p.2 q)
      go (undecided l f) h = let p = undecided_coefficient xs D l f h in let c = p.of_level in subst OnGrid (sym p.is) (omega (arith, c.a_below), omega (arith, c.b_below), omega (arith, c.c_below))

  -- what holds of every coefficient down to the depth holds of the value
  module _ (P : ℤ → Type 0) (held : (m : ℕ) → m ≤ D → All (λ s. All P s.control) (cells xs m)) where
    abbrev Held : ℕ → Cell → Type 0
    Held m s = CellOf xs m s × All P s.control

    cells_held : (m : ℕ) → m ≤ D → All (Held m) (cells xs m)
    cells_held m h = all_both (CellOf xs m) (λ s. All P s.control) (cells xs m) (all_cells xs m) (held m h)

    held_at : (m : ℕ) (s : Cell) (n : ℕ) → n < 27 → Held m s → P (get_or s.control n (pos 0))
    held_at m s n l h = all_get_d P s.control (pos 0) n (omega (arith, h.0.sized)) h.1

    coefficients_held : (m : ℕ) → m ≤ D → All (λ f. P f.value) (concat_map coefficients_of (cells xs m))
    coefficients_held m h = all_concat (λ f. P f.value) coefficients_of (cells xs m)
        (all_map (Held m) (λ s. All (λ f. P f.value) (coefficients_of s)) (λ s g. findings_of P s (λ n l. held_at m s n l g)) (cells xs m) (cells_held m h))

    points_held : (m : ℕ) → m ≤ D → All (λ f. P f.value) (concat_map (corners_of xs m) (cells xs m))
    points_held m h = all_concat (λ f. P f.value) (corners_of xs m) (cells xs m)
        (all_map (Held m) (λ s. All (λ f. P f.value) (corners_of xs m s))
        (λ s g. corners_of_law xs (λ f. P f.value) m s (λ k l. subst P (corner_is xs m s g.0 k l) (held_at m s k (omega (arith, l)) g)))
        (cells xs m) (cells_held m h))

    pub named_value : Names (λ f. P f.value) (verdict xs D)
    named_value = go (verdict xs D) (means xs D)
      where
        go : (v : Verdict) → Means xs D v → Names (λ f. P f.value) v
        go (valid l) h = tt
        go (invalid l f) h = first_has (λ x. P x.value) (concat_map (corners_of xs l) (cells xs l)) f h.named (points_held l h.within)
        go (undecided l f) h = first_has (λ x. P x.value) (concat_map coefficients_of (cells xs D)) f h.named (coefficients_held D (omega arith))
