-- `signed_number` meets its contract. Assumes nothing.
use Rattle.std.proofs.Common.{ap, [], ◌∷◌, arith, w64}
use mir.ValLaws.{to_z-of_z}
use Rattle.bytes_output.specs.Behind.{laid_as, laid_then}
use Rattle.slip_format.specs.Decimal.{signed_decimal}
use Rattle.slip_lines.proofs.signed_number.Goals as goal

pub returns : goal.returns
returns c =
    let same = ap signed_decimal (to_z-of_z w64 c.args.w c.ranges.w) in
    laid_then (32 ∷ []) (signed_decimal c.args.w) (omega arith) c.byte.ensures (laid_as same c.signed.ensures)
