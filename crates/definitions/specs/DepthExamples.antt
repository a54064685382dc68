-- Document 01's case E, invalid at depth 1, at depth 2 too: its record stays the same in every word. So opening ends at the cube of an invalid answer. At depth 3: `verdict_theory`, `Examples`.
use Rattle.std.specs.Prelude.{◌≡◌, refl, [], ◌∷◌, pos}
use Rattle.foundation.specs.Lists.{All}
use Rattle.definitions.specs.Jacobian.{jacobian, scaled_jacobian}
use Rattle.definitions.specs.Coefficients.{numbered, at, coefficients}
use Rattle.definitions.specs.Subdivision.{halve, child, children, whole}
use Rattle.definitions.specs.Verdict.{corners_of, coefficients_of, low_point, low_coefficient, last_level, valid_level, verdict, opened_below, opened_cells, opened}
use Rattle.definitions.specs.Record.{words, record_of}
use Rattle.definitions.specs.Examples.{half_twist}

pub invalid_stays : All (λ D. record_of half_twist D ≡ words 1 1 0 0 1 5 (pos 0) 2) (1 ∷ 2 ∷ [])
unfolding jacobian scaled_jacobian numbered at coefficients halve child children whole corners_of coefficients_of low_point low_coefficient last_level valid_level verdict opened_below opened_cells opened record_of
invalid_stays = (refl, (refl, tt))
