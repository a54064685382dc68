-- `Address::parent` meets its contract. Assumes nothing.
use Rattle.definitions.specs.Address.{parent_address}
use Rattle.cell_address.proofs.Address.parent.Goals as goal

pub returns-then-is_cell-self : goal.returns-then-is_cell-self
unfolding parent_address
returns-then-is_cell-self c = rw (← c.is_cell.ensures, c.if-is_cell-self.true)

pub returns-else-is_cell-self : goal.returns-else-is_cell-self
unfolding parent_address
returns-else-is_cell-self c = rw (← c.is_cell.ensures, c.if-is_cell-self.false)
