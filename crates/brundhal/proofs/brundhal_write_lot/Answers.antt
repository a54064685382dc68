-- `brundhal_write_lot` meets its contract: the length of the file that is written fits. Assumes nothing.
use lib.ListN.{length}
use Rattle.lot_writer.specs.Meaning.{runs}
use Rattle.brundhal.proofs.Answered.{short_answer}
use Rattle.brundhal.proofs.brundhal_write_lot.Goals as goal

pub written-requires : goal.written-requires
written-requires c = short_answer (runs c.args.label.now c.args.nodes.now c.args.elements.now c.args.names.now c.args.lengths.now c.args.offsets.now) (length c.args.out.now) c.write.result c.write.ensures.result_value
