-- `cell_least::number` meets its contract: the place that is found holds the least. Assumes nothing.
use Rattle.std.proofs.Common.{◌∙◌, rules}
use Rattle.definitions.specs.Eighths.{least_number}
use Rattle.cell_least.specs.Meaning.{least_found}
use Rattle.cell_least.proofs.number.Goals as goal

pub returns : goal.returns
unfolding least_number
returns g c = let found = c.first_at_most.ensures ∙ least_found g.N.Number.value c.args.g.now c.told-g c.args.v c.requires in search rules
