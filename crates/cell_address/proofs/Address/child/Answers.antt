-- `Address::child` meets its contract. Assumes nothing.
use native.Mathlib.Omega.{arith}
use Rattle.definitions.specs.Limits.{base}
use Rattle.definitions.specs.Address.{child_address}
use Rattle.cell_address.specs.Meaning.{address_of}
use Rattle.cell_address.proofs.Laws.{child_bounded}
use Rattle.cell_address.proofs.Address.child.Goals as goal

pub overflow_mul-doubled : goal.overflow_mul-doubled
overflow_mul-doubled c = omega (arith, child_bounded base.depth (address_of c.args.self) c.args.n _ c.is_cell.ensures c.is_corner.ensures c.if-is_cell-self.true)

pub overflow_mul-doubled-then-is_cell-self : goal.overflow_mul-doubled-then-is_cell-self
overflow_mul-doubled-then-is_cell-self c = omega (arith, child_bounded base.depth (address_of c.args.self) c.args.n _ c.is_cell.ensures c.is_corner.ensures c.if-is_cell-self.true)

pub overflow_mul-doubled-then-is_cell-self-2 : goal.overflow_mul-doubled-then-is_cell-self-2
overflow_mul-doubled-then-is_cell-self-2 c = omega (arith, child_bounded base.depth (address_of c.args.self) c.args.n _ c.is_cell.ensures c.is_corner.ensures c.if-is_cell-self.true)

pub offset-requires : goal.offset-requires
offset-requires c = omega (arith, child_bounded base.depth (address_of c.args.self) c.args.n _ c.is_cell.ensures c.is_corner.ensures c.if-is_cell-self.true)

pub returns-then-is_cell-self : goal.returns-then-is_cell-self
unfolding child_address
returns-then-is_cell-self c = rw (← c.is_cell.ensures, ← c.is_corner.ensures, c.if-is_cell-self.true) (cc c.offset.ensures)

pub returns-else-is_cell-self : goal.returns-else-is_cell-self
unfolding child_address
returns-else-is_cell-self c = rw (← c.is_cell.ensures, ← c.is_corner.ensures, c.if-is_cell-self.false)
