-- The number that falls as a file is read is no limit: any two that are above the count of bytes give one answer.
use Rattle.std.specs.Prelude.{◌≡◌, List, length, drop}
use Rattle.std.proofs.Math.Path.{refl}
use Prim.Native.Nat.{ℕ, zero, suc, ◌+◌, ◌/◌, ◌<◌}
use Rattle.std.proofs.Common.{arith, length-drop}
use Rattle.lot_format.specs.Format.{FileLimits, Lot, Stage, at_label, at_nodes, at_elements, at_end, stage_after}
use Rattle.lot_format.specs.Reading.{Entry, faulty_entry, whole_entry, entry_of, taken, Reading, unreadable, read_from}
use Rattle.lot_format.specs.Entries.{whole_is}

module _ (F : FileLimits) where
  same_next : (k j : ℕ) (stage : Stage) (lot : Lot) (bytes : List ℕ) → length bytes < suc k → length bytes < suc j
      → ((s : Stage) (l : Lot) (bs : List ℕ) → length bs < k → length bs < j → read_from F k s l bs ≡ read_from F j s l bs)
      → (e : Entry) → entry_of F stage (length lot.elements / 8) bytes ≡ e
      → ◌≡◌ {A = Reading} (elim e [ faulty_entry r ↦ unreadable r | whole_entry m body ↦ read_from F k (stage_after m) (taken m body lot) (drop (4 + length body) bytes) ])
      (elim e [ faulty_entry r ↦ unreadable r | whole_entry m body ↦ read_from F j (stage_after m) (taken m body lot) (drop (4 + length body) bytes) ])
  same_next k j stage lot bytes p q same (faulty_entry r) e = refl
  same_next k j stage lot bytes p q same (whole_entry m body) e = let w = whole_is e in same (stage_after m) (taken m body lot) (drop (4 + length body) bytes) (simp length-drop (omega arith)) (simp length-drop (omega arith))

  pub enough : (k j : ℕ) (stage : Stage) (lot : Lot) (bytes : List ℕ) → length bytes < k → length bytes < j → read_from F k stage lot bytes ≡ read_from F j stage lot bytes
  unfolding read_from
  enough zero j stage lot bytes p q = absurd (omega arith)
  enough (suc k) zero stage lot bytes p q = absurd (omega arith)
  enough (suc k) (suc j) at_label lot bytes p q = same_next k j at_label lot bytes p q (enough k j) _ refl
  enough (suc k) (suc j) at_nodes lot bytes p q = same_next k j at_nodes lot bytes p q (enough k j) _ refl
  enough (suc k) (suc j) at_elements lot bytes p q = same_next k j at_elements lot bytes p q (enough k j) _ refl
  enough (suc k) (suc j) at_end lot bytes p q = refl
