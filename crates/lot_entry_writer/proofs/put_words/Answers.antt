-- `put_words` meets its contract: the next number is laid, and those behind it are left. Assumes nothing.
use Rattle.std.proofs.Common.{sym, ◌∙◌, ap, List, ◌++◌, ℕ, ◌+◌, map, get_or, drop, arith}
use Rattle.foundation.specs.Lists.{drop_next}
use Rattle.lot_format.specs.Numbers.{number_bytes, unsigned_bytes}
use Rattle.bytes_output.specs.Progress.{laid_more}
use Rattle.lot_entry_writer.proofs.put_words.Goals as goal

pub loop-x-preserved : goal.loop-x-preserved
loop-x-preserved g c =
    let bits = g.W.Word.bits in
    let k = c.loop-x.x-index in
    let ws = c.args.words.now in
    let x = c.x-item.result in
    laid_more c.loop-x.invariant
    (record {
      parts =
          ap (λ l. unsigned_bytes (map bits l)) (drop_next ws k x (omega arith))
          ∙ ap (λ (n : ℕ). number_bytes 4 n ++ unsigned_bytes (map bits (drop (k + 1) ws))) (sym (c.bits.ensures ∙ ap bits c.x-item.is));
    })
    c.word.ensures
