-- Document 02, No. 2: "what is written reads back the same, and a lot that reads without fault is written back byte for byte."
use Rattle.std.specs.Prelude.{◌≡◌, List, ℕ, ◌<◌, ◌≤◌, length}
use Rattle.std.proofs.Common.{◌∙◌, sym, ap}
use Rattle.foundation.specs.Lists.{All}
use Rattle.lot_format.specs.Numbers.{Byte}
use Rattle.lot_format.specs.Format.{FileLimits, Lot, written}
use Rattle.lot_format.specs.Runs.{Runs, runs_of, lot_from}
use Rattle.lot_format.specs.Reading.{readable, read_lot}
use Rattle.lot_format.specs.Writing.{file, writing}
use Rattle.lot_format.specs.RunLaws.{lot_back}
use Rattle.lot_format.proofs.Accepted.{accepted_short, accepted_lawful, accepted_written}
use Rattle.lot_roundtrip_theory.specs.LotBack.{written_back}
use Rattle.lot_roundtrip_theory.specs.Tests.{written_writable, writable_written}
use Rattle.lot_roundtrip_theory.specs.RunsLawful.{Numbers32, writable_lawful, writable_back, lawful_writable}

module _ (F : FileLimits) where
  -- the runs that were handed in are the runs of the lot that is read
  pub written_reads_back : F.name < 65536 → (x : Runs) (room : ℕ) (bytes : List ℕ) → Numbers32 x → writing F x room ≡ file bytes → (read_lot F bytes ≡ readable (lot_from x)) × (runs_of (lot_from x) ≡ x)
  written_reads_back name x room bytes small e =
      let w = written_writable F x room e in
      (ap (read_lot F) w.1 ∙ written_back F name (lot_from x) (writable_lawful F x room w.0 small) w.0.short, writable_back F x room w.0)

  pub read_writes_back : (bytes : List ℕ) (lot : Lot) (room : ℕ) → All Byte bytes → read_lot F bytes ≡ readable lot → length bytes ≤ room → writing F (runs_of lot) room ≡ file bytes
  read_writes_back bytes lot room h e fits =
      let same = accepted_written F bytes lot h e in
      let able = lawful_writable F lot room (accepted_lawful F bytes lot h e) (rw same at (accepted_short F bytes lot e)) (rw same at fits) in
      writable_written F (runs_of lot) room able ∙ ap (λ (l : Lot). file (written l)) (lot_back lot) ∙ ap file (sym same)
