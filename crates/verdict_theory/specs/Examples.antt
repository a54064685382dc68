-- The starred lines of document 01 at every depth: an undecided record holds at its depth, any other at every greater depth too.
use Rattle.std.specs.Prelude.{◌≡◌, refl, ◌⊎◌, ℕ, ◌≤◌, pos}
use Rattle.std.proofs.Common.{sym, ◌∙◌, ap, subst, inl, inr}
use Rattle.foundation.specs.Lists.{All, all_map}
use Rattle.definitions.specs.Limits.{base}
use Rattle.definitions.specs.Jacobian.{jacobian, scaled_jacobian}
use Rattle.definitions.specs.Coefficients.{numbered, at, coefficients}
use Rattle.definitions.specs.Subdivision.{halve, child, children, whole}
use Rattle.definitions.specs.Verdict.{corners_of, coefficients_of, low_point, low_coefficient, last_level, valid_level, verdict, opened_below, opened_cells, opened}
use Rattle.definitions.specs.Record.{words, record_of, kind_word}
use Rattle.definitions.specs.Mesh.{element_record}
use Rattle.definitions.specs.Examples.{half_twist, Example, Holds, starred, starred_hold}
use Rattle.verdict_theory.specs.Elements.{element_same}

abbrev pub Reaches : Example → ℕ → Type 0
Reaches e D = (e.depth ≡ D) ⊎ ((e.depth ≤ D) × ((kind_word e.answer ≡ pos 2) → ⊥))

pub starred_at_depth : All (λ e. (D : ℕ) → Reaches e D → element_record base e.nodes e.indices D ≡ e.answer) starred
starred_at_depth = all_map Holds (λ e. (D : ℕ) → Reaches e D → element_record base e.nodes e.indices D ≡ e.answer) reach starred starred_hold
  where
    reach : (e : Example) → Holds e → (D : ℕ) → Reaches e D → element_record base e.nodes e.indices D ≡ e.answer
    reach e h D (inl q) = subst (λ (d : ℕ). element_record base e.nodes e.indices d ≡ e.answer) q h.0
    reach e h D (inr q) = element_same base e.nodes e.indices e.depth D q.0 (λ p. q.1 (sym (ap kind_word h.0) ∙ p)) ∙ h.0

-- case E, invalid at depth 1, computed at depth 3: its record is the same in every word
pub invalid_stays_deeper : record_of half_twist 3 ≡ words 1 1 0 0 1 5 (pos 0) 2
unfolding jacobian scaled_jacobian numbered at coefficients halve child children whole corners_of coefficients_of low_point low_coefficient last_level valid_level verdict opened_below opened_cells opened record_of
invalid_stays_deeper = refl
