-- `points` meets its contract: by what the search for a missing node finds. Assumes nothing.
use mathlib.Core.Path.{sym, ◌∙◌, ap}
use Rattle.definitions.specs.Limits.{base}
use Rattle.mesh_points.specs.Meaning.{first_of}
use Rattle.mesh_elements.specs.Elements.{fault_missing, left_missing}
use Rattle.mesh_elements.proofs.points.Goals as goal

pub returns-in-Some-clause-result_value : goal.returns-in-Some-clause-result_value
returns-in-Some-clause-result_value c = sym (fault_missing base _ _ _ (sym c.missing_index.ensures.first ∙ ap first_of c.in-Some.is))

pub returns-in-Some-clause-lent : goal.returns-in-Some-clause-lent
returns-in-Some-clause-lent c = left_missing _ _ _ _ (sym c.missing_index.ensures.first ∙ ap first_of c.in-Some.is)

-- ---- once all indices name nodes
pub named_points-requires : goal.named_points-requires
named_points-requires c = sym c.missing_index.ensures.first ∙ ap first_of c.in_default.is
