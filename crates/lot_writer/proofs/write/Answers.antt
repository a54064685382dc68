-- `write` meets its contract: by the answer of the tests. Assumes nothing.
use Rattle.std.proofs.Common.{◌≡◌, sym, ◌∙◌, ap, List, ℕ, length}
use Rattle.foundation.specs.Laid.{put, laid_over, put_start}
use Rattle.lot_format.specs.Format.{lot_file, written}
use Rattle.lot_format.specs.Runs.{Runs, lot_from}
use Rattle.lot_format.specs.Writing.{writing, file_of}
use Rattle.lot_roundtrip_theory.specs.Tests.{Writable, written_writable}
use Rattle.lot_runs.specs.Meaning.{lot_held}
use Rattle.lot_writer.specs.Meaning.{length_is, answer_of}
use Rattle.lot_writer.specs.Answers.{length_file}
use Rattle.lot_writer.proofs.write.Goals as goal

-- what is to be written of what is handed in
module _ (x : Runs) (space : List ℕ) {n : ℕ} (e : length_is n ≡ answer_of (writing lot_file x (length space))) where
  able : Writable lot_file x (length space)
  able = (written_writable lot_file x (length space) (length_file (writing lot_file x (length space)) e).0).0

  filled : {out : List ℕ} → out ≡ put 0 (written (lot_from x)) space → out ≡ laid_over (file_of (writing lot_file x (length space))) space
  filled h = h ∙ put_start (written (lot_from x)) space ∙ ap (λ (l : List ℕ). laid_over l space) (sym (written_writable lot_file x (length space) (length_file (writing lot_file x (length space)) e).0).1)

pub put_file-requires : goal.put_file-requires
put_file-requires c = able (lot_held c.args.lot) c.args.out.now c.in_ok-n.ensures

pub returns-clause-out_after : goal.returns-clause-out_after
returns-clause-out_after c = filled (lot_held c.args.lot) c.args.out.now c.in_ok-n.ensures c.put_file.ensures
