-- `Address::corner` meets its contract. Assumes nothing.
use native.Mathlib.Omega.{arith}
use Rattle.definitions.specs.Limits.{base}
use Rattle.definitions.specs.Address.{corner_address}
use Rattle.cell_address.specs.Meaning.{address_of}
use Rattle.cell_address.proofs.Laws.{corner_bounded}
use Rattle.cell_address.proofs.Address.corner.Goals as goal

pub offset-requires : goal.offset-requires
offset-requires c = omega (arith, corner_bounded base.depth (address_of c.args.self) c.args.n c.is_cell.ensures c.is_corner.ensures c.if-is_cell-is_corner.true)

pub returns-then-is_cell-is_corner : goal.returns-then-is_cell-is_corner
unfolding corner_address
returns-then-is_cell-is_corner c = rw (← c.is_cell.ensures, ← c.is_corner.ensures, c.if-is_cell-is_corner.true) (cc c.offset.ensures)

pub returns-else-is_cell-is_corner : goal.returns-else-is_cell-is_corner
unfolding corner_address
returns-else-is_cell-is_corner c = rw (← c.is_cell.ensures, ← c.is_corner.ensures, c.if-is_cell-is_corner.false)
