-- Where a reading stands between two entries: the file from its start is the writing-out of the lot so far, and this lot keeps to the limits.
use Rattle.std.specs.Prelude.{◌≡◌, refl, true, false, List, [], ◌++◌, ℕ, ◌+◌, ◌/◌, T, length, drop}
use Rattle.std.proofs.Common.{sym, ◌∙◌, ap, subst, eqb-true}
use Rattle.foundation.specs.Lists.{All, append_nil}
use Rattle.lot_format.specs.Numbers.{Byte}
use Rattle.lot_format.specs.Format.{FileLimits, Lot, Mark, LB, ND, HX, GR, EN, right_length, Stage, at_label, at_nodes, at_elements, at_end, in_place, stage_after, entry_bytes}
use Rattle.lot_format.specs.Reading.{taken, no_lot}
use Rattle.lot_format.specs.NumberLaws.{bytes_take, bytes_drop}
use Rattle.lot_format.specs.Entries.{IsWhole, entry_first}
use Rattle.lot_format.proofs.Front.{front, front_label, front_node, front_element, front_group, front_end}
use Rattle.lot_format.specs.Lawful.{Lawful, lawful_taken}

-- the file, by the stage, the lot so far and the bytes that are left
abbrev pub SoFar : List ℕ → Stage → Lot → List ℕ → Type 0
SoFar file at_label lot bytes = (lot ≡ no_lot) × (file ≡ bytes)
SoFar file at_nodes lot bytes = (lot.elements ≡ []) × (lot.groups ≡ []) × (file ≡ front lot bytes)
SoFar file at_elements lot bytes = file ≡ front lot bytes
SoFar file at_end lot bytes = file ≡ front lot (entry_bytes EN [] ++ bytes)

pub record Between (F : FileLimits) (file : List ℕ) (stage : Stage) (lot : Lot) (bytes : List ℕ) : Type 0 where
  pub left : All Byte bytes
  pub lawful : Lawful F lot
  pub so_far : SoFar file stage lot bytes

misplaced : {X : Type 0} → false ≡ true → X
misplaced e = absurd (subst T (sym e) tt)

-- the label comes first
first_label : (file : List ℕ) (stage : Stage) (m : Mark) (lot : Lot) (bytes : List ℕ) → in_place stage m ≡ true → SoFar file stage lot bytes → m ≡ LB → lot.label ≡ []
first_label file at_label m lot bytes placed f e = ap (λ l. l.label) f.0
first_label file at_nodes m lot bytes placed f e = misplaced (subst (λ m. in_place at_nodes m ≡ true) e placed)
first_label file at_elements m lot bytes placed f e = misplaced (subst (λ m. in_place at_elements m ≡ true) e placed)
first_label file at_end m lot bytes placed f e = misplaced placed

module _ (F : FileLimits) (file : List ℕ) (lot : Lot) (body rest : List ℕ) (h : All Byte body) (l : Lawful F lot) where
  -- among the elements, from any bytes that stand for the file
  among : (m : Mark) → in_place at_elements m ≡ true → right_length F m (length body) ≡ true → file ≡ front lot (entry_bytes m body ++ rest) → SoFar file (stage_after m) (taken m body lot) rest
  among LB placed right f = misplaced placed
  among ND placed right f = misplaced placed
  among HX placed right f = f ∙ front_element lot body rest h (eqb-true _ _ right) l.elements.eights l.groups.rises
  among GR placed right f = f ∙ front_group lot body rest l.elements.eights l.groups.rises
  among EN placed right f = f ∙ front_end lot body rest (eqb-true _ _ right)

  so_far_step : (stage : Stage) (m : Mark) → in_place stage m ≡ true → right_length F m (length body) ≡ true → SoFar file stage lot (entry_bytes m body ++ rest) → SoFar file (stage_after m) (taken m body lot) rest
  so_far_step at_label LB placed right f = (ap (λ l. l.elements ++ []) f.0, ap (λ l. l.groups ++ []) f.0, f.1 ∙ front_label lot body rest f.0)
  so_far_step at_label ND placed right f = misplaced placed
  so_far_step at_label HX placed right f = misplaced placed
  so_far_step at_label GR placed right f = misplaced placed
  so_far_step at_label EN placed right f = misplaced placed
  so_far_step at_nodes LB placed right f = misplaced placed
  so_far_step at_nodes ND placed right f = (append_nil lot.elements ∙ f.0, append_nil lot.groups ∙ f.1, f.2 ∙ front_node lot body rest h (eqb-true _ _ right) l.nodes.threes f.0 f.1)
  so_far_step at_nodes HX placed right f = among HX refl right f.2
  so_far_step at_nodes GR placed right f = among GR refl right f.2
  so_far_step at_nodes EN placed right f = among EN refl right f.2
  so_far_step at_elements m placed right f = among m placed right f
  so_far_step at_end m placed right f = misplaced placed

pub between_step : {F : FileLimits} {file : List ℕ} {stage : Stage} {m : Mark} {lot : Lot} {bytes body : List ℕ}
    → IsWhole F stage (length lot.elements / 8) bytes m body → Between F file stage lot bytes → Between F file (stage_after m) (taken m body lot) (drop (4 + length body) bytes)
between_step {F} {file} {stage} {m} {lot} {bytes} {body} w g =
    let h : All Byte body = subst (All Byte) w.stands (bytes_take (length body) (drop 4 bytes) (bytes_drop 4 bytes g.left)) in
    let rest = drop (4 + length body) bytes in
    let before : SoFar file stage lot (entry_bytes m body ++ rest) = subst (SoFar file stage lot) (entry_first w g.left) g.so_far in
    record {
      left = bytes_drop (4 + length body) bytes g.left;
      lawful = lawful_taken F body m lot h w.right w.clear (first_label file stage m lot bytes w.placed g.so_far) g.lawful;
      so_far = so_far_step F file lot body rest h g.lawful stage m w.placed w.right before;
    }
