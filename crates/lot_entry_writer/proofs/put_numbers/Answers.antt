-- `put_numbers` meets its contract. Assumes nothing.
use Rattle.std.proofs.Common.{arith, map}
use Rattle.std.proofs.lemmas.List.{length-map}
use Rattle.lot_format.specs.Numbers.{unsigned_bytes}
use Rattle.lot_roundtrip_theory.specs.Lengths.{length_unsigned_bytes}
use Rattle.lot_marks.specs.Meaning.{mark_held}
use Rattle.lot_entry_writer.proofs.Parts.{entry_laid}
use Rattle.lot_entry_writer.proofs.put_numbers.Goals as goal

pub returns : goal.returns
returns g c =
    let words = map g.W.Word.bits c.args.numbers.now in
    let long = length_unsigned_bytes words in
    let many = length-map c.args.numbers.now g.W.Word.bits in
    entry_laid (mark_held c.args.mark) (unsigned_bytes words) _ (omega arith) (omega arith) c.put_head.ensures c.put_words.ensures
