-- What each entry keeps holds at the end: from any stage of a reading that accepts to the lot that is handed out.
use Rattle.std.specs.Prelude.{◌≡◌, List, [], ◌∷◌, length, drop}
use Rattle.std.proofs.Math.Path.{refl}
use Rattle.std.proofs.Common.{subst, arith}
use Prim.Native.Nat.{ℕ, zero, suc, ◌+◌, ◌/◌}
use Rattle.lot_format.specs.Format.{FileLimits, Lot, Mark, Stage, at_label, at_nodes, at_elements, at_end, stage_after}
use Rattle.lot_format.specs.Reading.{Unreadable, cut_short, out_of_place, Entry, faulty_entry, whole_entry, entry_of, taken, readable, unreadable, ending, read_from}
use Rattle.lot_format.specs.Entries.{IsWhole, whole_is}

pub not_accepted : {X : Type 0} {lot : Lot} (r : Unreadable) → unreadable r ≡ readable lot → X
not_accepted r e = let z : ◌≡◌ {A = ℕ} 0 1 = cc in absurd (omega arith)

-- P of a stage, the lot so far and the bytes that are left
module _ (F : FileLimits) (P : Stage → Lot → List ℕ → Type 0)
    (kept : (stage : Stage) (m : Mark) (lot : Lot) (bytes body : List ℕ) → IsWhole F stage (length lot.elements / 8) bytes m body → P stage lot bytes → P (stage_after m) (taken m body lot) (drop (4 + length body) bytes))
    (out : Lot) where
  next : (k : ℕ) (stage : Stage) (lot : Lot) (bytes : List ℕ) → ((s : Stage) (l : Lot) (bs : List ℕ) → read_from F k s l bs ≡ readable out → P s l bs → P at_end out [])
      → (e : Entry) → entry_of F stage (length lot.elements / 8) bytes ≡ e
      → elim e [ faulty_entry r ↦ unreadable r | whole_entry m body ↦ read_from F k (stage_after m) (taken m body lot) (drop (4 + length body) bytes) ] ≡ readable out → P stage lot bytes → P at_end out []
  next k stage lot bytes then (faulty_entry r) q e p = not_accepted r e
  next k stage lot bytes then (whole_entry m body) q e p = then (stage_after m) (taken m body lot) (drop (4 + length body) bytes) e (kept stage m lot bytes body (whole_is q) p)

  last : (lot : Lot) (bytes : List ℕ) → ending lot bytes ≡ readable out → P at_end lot bytes → P at_end out []
  last lot [] e p = let same : lot ≡ out = cc in subst (λ l. P at_end l []) same p
  last lot (b ∷ bytes) e p = not_accepted out_of_place e

  pub through : (k : ℕ) (stage : Stage) (lot : Lot) (bytes : List ℕ) → read_from F k stage lot bytes ≡ readable out → P stage lot bytes → P at_end out []
  unfolding read_from
  through zero stage lot bytes e p = not_accepted cut_short e
  through (suc k) at_label lot bytes e p = next k at_label lot bytes (through k) _ refl e p
  through (suc k) at_nodes lot bytes e p = next k at_nodes lot bytes (through k) _ refl e p
  through (suc k) at_elements lot bytes e p = next k at_elements lot bytes (through k) _ refl e p
  through (suc k) at_end lot bytes e p = last lot bytes e p
