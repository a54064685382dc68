-- `Address::is_cell` meets its contract. Assumes nothing.
use borrow.Author.Tests.{le-leb, lt-leb}
use Rattle.definitions.specs.Address.{is_cell}
use Rattle.cell_address.proofs.Address.is_cell.Goals as goal

pub returns-then-self-gt-MAX_DEPTH : goal.returns-then-self-gt-MAX_DEPTH
unfolding is_cell
returns-then-self-gt-MAX_DEPTH c = simp (lt-leb _ _ c.if-self-gt-MAX_DEPTH.true)

pub returns : goal.returns
unfolding is_cell
returns c = simp (le-leb _ _ c.if-self-gt-MAX_DEPTH.false, c.grid_size-size.ensures)
