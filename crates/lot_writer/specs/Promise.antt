-- Document 02, No. 2, of what `write` hands out: "what is written reads back the same, and a lot that reads without fault is written back byte for byte."
use Rattle.std.specs.Prelude.{◌≡◌, List, ℕ, ◌≤◌, length, take, drop, Result, Ok}
use Rattle.std.proofs.Common.{◌∙◌, ap, arith}
use Rattle.std.proofs.Math.Seq.{take-append_seam}
use Rattle.foundation.specs.Lists.{All}
use Rattle.foundation.specs.Laid.{laid_over}
use Rattle.lot_format.specs.Numbers.{Byte}
use Rattle.lot_format.specs.Format.{lot_file, Lot}
use Rattle.lot_format.specs.Runs.{Runs, runs_of, lot_from}
use Rattle.lot_format.specs.Reading.{readable, read_lot}
use Rattle.lot_format.specs.Writing.{Writing, writing, file_of}
use Rattle.lot_roundtrip_theory.specs.RunsLawful.{Numbers32}
use Rattle.lot_roundtrip_theory.specs.Promise.{written_reads_back, read_writes_back}
use Rattle.lot_writer.specs.declared.Unwritable.{Unwritable}
use Rattle.lot_writer.specs.Meaning.{written_held, answer_of}
use Rattle.lot_writer.specs.Answers.{length_file, is_length}

-- what `write` ensures of its answer and the lent bytes; with subscript 0 the lent bytes before
pub record Wrote (x : Runs) (out₀ : List ℕ) (answer : Result ℕ Unwritable) (out : List ℕ) : Type 0 where
  pub answer_is : written_held answer ≡ answer_of (writing lot_file x (length out₀))
  pub out_is : out ≡ laid_over (file_of (writing lot_file x (length out₀))) out₀

-- Where the answer is a length, so many lent bytes are a file without fault, and the runs of its lot are those that were handed in.
pub what_is_written_reads_back : (x : Runs) (out₀ out : List ℕ) (n : ℕ) → Numbers32 x → Wrote x out₀ (Ok n) out → (read_lot lot_file (take n out) ≡ readable (lot_from x)) × (runs_of (lot_from x) ≡ x)
what_is_written_reads_back x out₀ out n small h =
    let w = writing lot_file x (length out₀) in
    let told = length_file w h.answer_is in
    let back = written_reads_back lot_file (omega arith) x (length out₀) (file_of w) small told.0 in
    let text : take n out ≡ file_of w = ap (take n) h.out_is ∙ ap (λ (k : ℕ). take k (laid_over (file_of w) out₀)) told.1 ∙ take-append_seam (file_of w) (drop (length (file_of w)) out₀) in
    (ap (read_lot lot_file) text ∙ back.0, back.1)

-- A file without fault, its runs handed in again with room for it, is what is written: the answer is its length, and the lent bytes begin with it.
pub what_reads_is_written_back : (bytes : List ℕ) (lot : Lot) (out₀ out : List ℕ) (answer : Result ℕ Unwritable) → All Byte bytes → read_lot lot_file bytes ≡ readable lot → length bytes ≤ length out₀
    → Wrote (runs_of lot) out₀ answer out → (answer ≡ Ok (length bytes)) × (out ≡ laid_over bytes out₀)
what_reads_is_written_back bytes lot out₀ out answer small good room h =
    let back = read_writes_back lot_file bytes lot (length out₀) small good room in
    (is_length answer (h.answer_is ∙ ap answer_of back), h.out_is ∙ ap (λ (w : Writing). laid_over (file_of w) out₀) back)
