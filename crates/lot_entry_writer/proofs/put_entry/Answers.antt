-- `put_entry` meets its contract. Assumes nothing.
use Rattle.std.proofs.Common.{refl, arith}
use Rattle.lot_marks.specs.Meaning.{mark_held}
use Rattle.lot_entry_writer.proofs.Parts.{entry_laid}
use Rattle.lot_entry_writer.proofs.put_entry.Goals as goal

pub returns : goal.returns
returns c = entry_laid (mark_held c.args.mark) c.args.body.now _ refl (omega arith) c.put_head.ensures c.bytes.ensures
