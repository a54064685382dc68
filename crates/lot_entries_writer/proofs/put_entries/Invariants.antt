-- What holds when a turn of the loop of `put_entries` begins: the entries from there on are left to be written.
use Rattle.std.proofs.Common.{◌≡◌, List, ℕ, map}
use Rattle.std.specs.Slice.Iter.{chunks_exact_rest, chunks_exact_size}
use Rattle.lot_format.specs.Numbers.{unsigned_bytes}
use Rattle.lot_marks.specs.Meaning.{mark_held}
use Rattle.bytes_output.specs.Progress.{Progress}
use Rattle.lot_entries_writer.proofs.Chunks.{chunks_text}
use Rattle.lot_entries_writer.proofs.put_entries.Given as goal

abbrev pub invariant-loop-chunk : goal.invariant-loop-chunk
invariant-loop-chunk g l =
    (goal.iterator-loop-chunk g).can_next l.chunk-iterator
    × (goal.iterator-loop-chunk g).is_finite l.chunk-iterator
    × (chunks_exact_size l.chunk-iterator ≡ l.n)
    × Progress l.initial.out (chunks_text (mark_held l.mark) l.n (λ ys. unsigned_bytes (map g.W.Word.bits ys)) l.numbers)
    (chunks_text (mark_held l.mark) l.n (λ ys. unsigned_bytes (map g.W.Word.bits ys)) (chunks_exact_rest l.chunk-iterator)) l.out
