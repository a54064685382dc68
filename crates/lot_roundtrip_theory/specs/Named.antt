-- What the writer takes, the namer takes: each element of runs that can be written is named, and so is each of a lot that reads without fault, as the slip names it.
use Rattle.std.specs.Prelude.{◌≡◌, List, ℕ, ◌/◌, ◌<◌, length}
use Rattle.std.proofs.Common.{◌∙◌, ap, arith}
use Rattle.std.proofs.Math.Bool.{true}
use borrow.Author.Tests.{lt-ltb, le-leb, eq-eqb}
use Rattle.foundation.specs.Lists.{All}
use Rattle.lot_format.specs.Numbers.{Byte}
use Rattle.lot_format.specs.Format.{FileLimits, Group, Lot, written}
use Rattle.lot_format.specs.Runs.{Runs, runs_of, groups_of}
use Rattle.lot_format.specs.Groups.{fit_together, short_names, clean_names}
use Rattle.lot_format.specs.Naming.{name_of, Naming, named, naming}
use Rattle.lot_format.specs.Reading.{readable, read_lot}
use Rattle.lot_format.specs.RunLaws.{groups_back}
use Rattle.lot_format.proofs.Accepted.{accepted_short, accepted_lawful, accepted_written}
use Rattle.lot_roundtrip_theory.specs.Tests.{both_true, Writable}
use Rattle.lot_roundtrip_theory.specs.RunsLawful.{lawful_writable}

module _ (F : FileLimits) where
  -- the naming of an element of runs
  abbrev pub naming_in : Runs → ℕ → Naming
  naming_in x e = naming F x.label x.names x.lengths x.offsets (length x.elements / 8) e

  pub writable_named : (x : Runs) (room e : ℕ) → Writable F x room → e < length x.elements / 8 → naming_in x e ≡ named (name_of x.label (groups_of x.names x.lengths x.offsets) e)
  unfolding naming
  writable_named x room e h below =
      let fit : fit_together x.lengths x.offsets (length x.names) (length x.elements / 8) ≡ true = both_true _ _ (eq-eqb _ _ h.paired) (both_true _ _ (eq-eqb _ _ h.sums) h.rises) in
      let short : short_names F (length x.label) x.lengths ≡ true = both_true _ _ (le-leb _ _ h.label_short) h.names_short in
      let clean : clean_names x.label x.names ≡ true = both_true _ _ h.label_named h.names_named in
      rw (fit, short, clean, lt-ltb e (length x.elements / 8) below, naming)

  pub read_named : (bytes : List ℕ) (lot : Lot) (e : ℕ) → All Byte bytes → read_lot F bytes ≡ readable lot → e < length lot.elements / 8 → naming_in (runs_of lot) e ≡ named (name_of lot.label lot.groups e)
  read_named bytes lot e h r below =
      let same = accepted_written F bytes lot h r in
      let able = lawful_writable F lot (length (written lot)) (accepted_lawful F bytes lot h r) (rw same at (accepted_short F bytes lot r)) (omega arith) in
      writable_named (runs_of lot) (length (written lot)) e able below ∙ ap (λ (gs : List Group). named (name_of lot.label gs e)) (groups_back lot.groups)
