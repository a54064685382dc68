-- The writer's answer as numbers. Assumes nothing.
use mathlib.Core.Path.{◌≡◌, refl, ap}
use Prim.Native.Nat.{ℕ}
use native.Mathlib.Omega.{arith}
use lib.ListN.{length}
use Rattle.lot_format.specs.Format.{lot_file}
use Rattle.lot_format.specs.Runs.{Runs}
use Rattle.lot_format.specs.Writing.{Writing, file, unwritten, writing}
use Rattle.lot_roundtrip_theory.specs.Tests.{written_writable}
use Rattle.std.proofs.Common.{Result, Ok, Err}
use Rattle.lot_writer.specs.declared.Unwritable.{Unwritable}
use Rattle.lot_writer.specs.Meaning.{written_held, answer_of}
use Rattle.lot_writer.specs.Answers.{length_file}
use Rattle.brundhal_written_answers.specs.Meaning.{ShortAnswer, answer_numbers, writing_numbers}

pub short_answer : (x : Runs) (room : ℕ) (answer : Result ℕ Unwritable) → written_held answer ≡ answer_of (writing lot_file x room) → ShortAnswer answer
short_answer x room (Ok n) e =
    let told = length_file (writing lot_file x room) e in
    let w = written_writable lot_file x room told.0 in
    omega (arith, told.1, ap length w.1, w.0.short)
short_answer x room (Err r) e = tt

pub same_numbers : (w : Writing) → answer_numbers (answer_of w) ≡ writing_numbers w
same_numbers (file bytes) = refl
same_numbers (unwritten r) = refl
