-- Why promise 3 says no more than it does: at document 01's worked cases each of these stronger sentences is false.
use Rattle.std.specs.Prelude.{◌≡◌, refl, ℕ, pos, nat_abs, ◌*ℤ◌, ◌≤ℤ◌, ◌<ℤ◌}
use Rattle.std.proofs.Common.{ap, arith}
use Rattle.definitions.specs.Jacobian.{jacobian, scaled_jacobian}
use Rattle.definitions.specs.Coefficients.{numbered, at, coefficients}
use Rattle.definitions.specs.Subdivision.{halve, child, children, whole}
use Rattle.definitions.specs.Verdict.{corners_of, coefficients_of, low_point, low_coefficient, last_level, valid_level, verdict, opened_below, opened_cells, opened}
use Rattle.definitions.specs.Bounds.{low, high}
use Rattle.definitions.specs.Record.{record_of, kind_word}
use Rattle.definitions.specs.Examples.{quarter_twist, half_twist}

-- an undecided record may change: case D is undecided at depth 0 and valid at depth 1
pub undecided_changes : record_of quarter_twist 1 ≡ record_of quarter_twist 0 → ⊥
unfolding jacobian scaled_jacobian numbered at coefficients halve child children whole corners_of coefficients_of low_point low_coefficient last_level valid_level verdict opened_below opened_cells opened record_of
undecided_changes e = let z : ◌≡◌ {A = ℕ} 0 2 = ap (λ r. nat_abs (kind_word r)) e in absurd (omega arith)

-- the low bound may rise
pub low_rises_here : low quarter_twist 1 ≤ℤ (pos 64 *ℤ low quarter_twist 0) → ⊥
unfolding jacobian scaled_jacobian numbered at coefficients halve child children whole coefficients_of low
low_rises_here h = h.le

-- the high bound does rise where the scale is left out
pub high_unscaled : high quarter_twist 1 ≤ℤ high quarter_twist 0 → ⊥
unfolding jacobian scaled_jacobian high
high_unscaled h = h.le

-- an undecided element may have a point where J is not positive: case E at depth 0, and its point (0, 0, 1)/2
pub undecided_here : kind_word (record_of half_twist 0) ≡ pos 2
unfolding jacobian scaled_jacobian numbered at coefficients halve child children whole corners_of coefficients_of low_point low_coefficient last_level valid_level verdict opened_below opened_cells opened record_of
undecided_here = refl

pub not_positive_here : pos 0 <ℤ jacobian half_twist 1 0 0 1 → ⊥
unfolding jacobian
not_positive_here h = h.lt
