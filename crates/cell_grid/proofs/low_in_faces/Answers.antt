-- `cell_grid::low_in_faces` meets its contract: three rows of each of the two faces. Assumes nothing.
use Rattle.std.specs.Prelude.{◌||◌}
use Rattle.definitions.specs.Coefficients.{at}
use Rattle.search_theory.specs.Grid.{faces_low}
use Rattle.cell_grid.proofs.low_in_faces.Goals as goal

pub returns : goal.returns
unfolding faces_low at
returns g c = λ i. (c.low_at.ensures i || (c.low_at-2.ensures i || c.low_across.ensures i)) || (c.low_at-3.ensures i || (c.low_at-4.ensures i || c.low_across-2.ensures i))
