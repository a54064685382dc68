-- Three differences.
use mathlib.Core.List.{[], ◌∷◌}
use Rattle.foundation.specs.Held.{read_back}
use Rattle.element_vectors.proofs.edge.Goals as goal

pub returns : goal.returns
returns c = λ i. read_back c.difference.type_inv c.difference.ensures.0 i ∷ read_back c.difference-2.type_inv c.difference-2.ensures.0 i ∷ read_back c.difference-3.type_inv c.difference-3.ensures.0 i ∷ []
