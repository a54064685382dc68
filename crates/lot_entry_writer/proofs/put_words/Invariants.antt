-- What holds when a turn of the loop of `put_words` begins: the numbers from there on are left to be written.
use Rattle.std.proofs.Common.{map, drop}
use Rattle.lot_format.specs.Numbers.{unsigned_bytes}
use Rattle.bytes_output.specs.Progress.{Progress}
use Rattle.lot_entry_writer.proofs.put_words.Given as goal

abbrev pub invariant-loop-x : goal.invariant-loop-x
invariant-loop-x g l = Progress l.initial.out (unsigned_bytes (map g.W.Word.bits l.words)) (unsigned_bytes (map g.W.Word.bits (drop l.x-index l.words))) l.out
