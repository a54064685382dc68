-- What an answer tells of the writing.
use Rattle.std.specs.Prelude.{◌≡◌, refl, [], ℕ, length, Result, Ok, Err}
use Rattle.std.proofs.Common.{sym, arith}
use Rattle.lot_format.specs.Writing.{Unwritable, Writing, file, unwritten, file_of}
use Rattle.lot_writer.specs.declared.Unwritable.{Unwritable as HeldUnwritable}
use Rattle.lot_writer.specs.Meaning.{length_is, refuses, written_held, answer_of}

-- a length and a refusal are two
apart : {X : Type 0} {n : ℕ} {r : Unwritable} → length_is n ≡ refuses r → X
apart e = let z : ◌≡◌ {A = ℕ} 0 1 = cc in absurd (omega arith)

pub length_file : {n : ℕ} (w : Writing) → length_is n ≡ answer_of w → (w ≡ file (file_of w)) × (n ≡ length (file_of w))
length_file (file bytes) e = (refl, cc)
length_file (unwritten r) e = apart e

pub refused_nothing : {r : Unwritable} (w : Writing) → refuses r ≡ answer_of w → file_of w ≡ []
refused_nothing (file bytes) e = apart (sym e)
refused_nothing (unwritten r) e = refl

pub is_length : {n : ℕ} (answer : Result ℕ HeldUnwritable) → written_held answer ≡ length_is n → answer ≡ Ok n
is_length (Ok m) e = cc
is_length (Err r) e = apart (sym e)
