use Rattle.cell_halves.specs.Rows.{row_put}
use Rattle.cell_halves.proofs.put_row.Goals as goal

pub returns : goal.returns
returns g c = row_put g.N.Number.value c.args.x c.args.y c.args.z c.args.out.now c.args.row _ _ _
