-- `write` meets its contract: the slip stands at the start of the lent space. Assumes nothing.
use Rattle.std.proofs.Common.{◌∙◌}
use Rattle.foundation.specs.Laid.{put_start}
use Rattle.definitions.specs.Limits.{base}
use Rattle.lot_format.specs.Format.{lot_file}
use Rattle.slip_format.specs.Slip.{slip_limits, slip_of}
use Rattle.slip_writer.proofs.write.Goals as goal

pub returns-clause-out_after : goal.returns-clause-out_after
returns-clause-out_after c = c.put_slip.ensures.bytes_after ∙ put_start (slip_of base lot_file slip_limits c.args.file.now) c.args.out.now
