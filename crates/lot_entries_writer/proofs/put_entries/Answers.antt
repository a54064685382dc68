-- `put_entries` meets its contract: the next chunk's entry is laid, and those behind it are left. Assumes nothing.
use Rattle.std.proofs.Common.{List, ℕ, ◌≡◌, ◌∙◌, ◌<◌, map, length, arith, ap}
use Rattle.std.specs.Slice.Iter.{chunks_exact_rest, chunks_exact_size}
use Rattle.lot_format.specs.Numbers.{unsigned_bytes}
use Rattle.lot_marks.specs.Meaning.{mark_held}
use Rattle.bytes_output.specs.Progress.{part_fits, laid_more, laid_all}
use Rattle.lot_entries_writer.proofs.Chunks.{chunks_next, chunks_over}
use Rattle.lot_entries_writer.proofs.put_entries.Goals as goal

pub put_numbers-requires : goal.put_numbers-requires
put_numbers-requires g c =
    let l = c.loop-chunk in
    let step = c.in-Some.ensures.steps in
    let long = step.1.1 ∙ l.invariant.2 in
    (omega (arith, long, c.requires), part_fits l.invariant.3 (chunks_next (mark_held c.args.mark) c.args.n (λ xs. unsigned_bytes (map g.W.Word.bits xs)) c.requires.0 _ _ _ step.1.0 long))

pub loop-chunk-preserved : goal.loop-chunk-preserved
loop-chunk-preserved g c =
    let l = c.loop-chunk in
    let step = c.in-Some.ensures.steps in
    let long = step.1.1 ∙ l.invariant.2 in
    let same = step.0 ∙ l.invariant.2 in (
      omega (arith, same, c.requires.0),
      tt,
      same,
      laid_more l.invariant.3 (chunks_next (mark_held c.args.mark) c.args.n (λ xs. unsigned_bytes (map g.W.Word.bits xs)) c.requires.0 _ _ _ step.1.0 long) c.put_numbers.ensures,
    )

pub returns : goal.returns
returns g c =
    let l = c.loop-chunk in
    let short = c.in-None.ensures.steps.1.0 in
    laid_all l.invariant.3 (chunks_over (mark_held c.args.mark) c.args.n (λ xs. unsigned_bytes (map g.W.Word.bits xs)) _ (omega (arith, short, l.invariant.2)))
