-- The answer of the bounds service as plain numbers: a refusal case by case. Assumes nothing.
use Rattle.std.proofs.Common.{◌≡◌, [], ◌∷◌, sym, ap, ◌∙◌}
use Rattle.inspection_answers.specs.Meaning.{bounds_held}
use Rattle.brundhal_bounds_answers.specs.Meaning.{bounds_numbers, refused_numbers}
use Rattle.brundhal_bounds_answers.proofs.BrundhalBoundsFromResultBoundsBoundsRefusal.from.Goals as goal

pub returns-in-Err : goal.returns-in-Err
returns-in-Err c =
    c.refused.ensures ∙ ap (λ n. n ∷ 0 ∷ 0 ∷ 0 ∷ 0 ∷ []) c.from-in-Err.ensures ∙ sym (refused_numbers c.in-Err.refusal)
    ∙ sym (ap (λ a. bounds_numbers (bounds_held a)) c.in-Err.is)
