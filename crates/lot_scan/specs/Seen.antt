-- How far the scan of a file has come: what was read so far, and its counts. Assumes nothing.
use Rattle.std.specs.Prelude.{◌≡◌, true, false, List, [], ◌++◌, ℕ, ◌+◌, ◌*◌, ◌/◌, ◌≤◌, ◌<◌, length, take, drop}
use Rattle.std.proofs.Math.Path.{refl}
use Rattle.std.proofs.Common.{◌∙◌, ap, subst, arith, length-append, length-drop, length-take-le}
use Rattle.foundation.specs.Lists.{append_nil}
use Rattle.lot_format.specs.Format.{lot_file, Lot, Mark, LB, ND, HX, GR, EN, Stage, at_label, stage_after}
use Rattle.lot_format.specs.Reading.{Unreadable, out_of_place, faulty_entry, whole_entry, entry_of, joined, taken, unreadable, has_ended, no_lot, read_lot}
use Rattle.lot_format.specs.Runs.{names_of}
use Rattle.lot_format.specs.Joined.{names_append}
use Rattle.lot_format.proofs.Reached.{Reached, reached_start, reached_faulty, reached_whole, reached_more, reached_end}
use Rattle.lot_scan.specs.declared.Counts.{Counts}
use Rattle.lot_scan.specs.Meaning.{no_counts, counted_of, Small, holds, scan_of}

-- the counts of a lot whose entries take up so many bytes
pub record Tells (lot : Lot) (n : Counts) (at : ℕ) : Type 0 where
  pub label : length lot.label ≡ n.label
  pub nodes : length lot.nodes ≡ 3 * n.nodes
  pub elements : length lot.elements ≡ 8 * n.elements
  pub groups : length lot.groups ≡ n.groups
  pub names : length (names_of lot.groups) ≡ n.names
  pub few : n.label + n.nodes + n.elements + n.groups + n.names ≤ at

-- what an entry adds to each count
module _ (lot more : Lot) (n k : Counts) (at to : ℕ) (t : Tells lot n at) where
  tells_joined : n.label + length more.label ≡ k.label → 3 * n.nodes + length more.nodes ≡ 3 * k.nodes → 8 * n.elements + length more.elements ≡ 8 * k.elements
      → n.groups + length more.groups ≡ k.groups → n.names + length (names_of more.groups) ≡ k.names
      → k.label + k.nodes + k.elements + k.groups + k.names ≤ to → Tells (joined lot more) k to
  tells_joined label nodes elements groups names few = record {
    label = length-append lot.label more.label ∙ omega (arith, t.label);
    nodes = length-append lot.nodes more.nodes ∙ omega (arith, t.nodes);
    elements = length-append lot.elements more.elements ∙ omega (arith, t.elements);
    groups = length-append lot.groups more.groups ∙ omega (arith, t.groups);
    names = ap length (names_append lot.groups more.groups) ∙ length-append (names_of lot.groups) (names_of more.groups) ∙ omega (arith, t.names);
    few = few;
  }

tells_taken : (m : Mark) (body : List ℕ) (lot : Lot) (n : Counts) (at to : ℕ) → at + length body < to → Tells lot n at → Tells (taken m body lot) (counted_of m (length body) n) to
tells_taken LB body lot n at to h t = tells_joined lot _ n _ at to t refl (omega arith) (omega arith) (omega arith) (omega arith) (omega (arith, t.few))
tells_taken ND body lot n at to h t = tells_joined lot _ n _ at to t (omega arith) (omega arith) (omega arith) (omega arith) (omega arith) (omega (arith, t.few))
tells_taken HX body lot n at to h t = tells_joined lot _ n _ at to t (omega arith) (omega arith) (omega arith) (omega arith) (omega arith) (omega (arith, t.few))
tells_taken GR body lot n at to h t =
    let name : length (body ++ []) ≡ length body = ap length (append_nil body) in
    tells_joined lot _ n _ at to t (omega arith) (omega arith) (omega arith) (omega arith) (omega arith) (omega (arith, t.few))
tells_taken EN body lot n at to h t = tells_joined lot _ n _ at to t (omega arith) (omega arith) (omega arith) (omega arith) (omega arith) (omega (arith, t.few))

pub record Seen (file : List ℕ) (at : ℕ) (stage : Stage) (n : Counts) : Type 0 where
  pub lot : Lot
  pub reached : Reached lot_file file at stage lot
  pub tells : Tells lot n at

module _ (file : List ℕ) where
  unfoldable pub seen_start : length file ≤ lot_file.bytes → Seen file 0 at_label no_counts
  seen_start h = record { lot = no_lot; reached = reached_start lot_file file h; tells = record { label = refl; nodes = refl; elements = refl; groups = refl; names = refl; few = omega arith } }

  module _ {at : ℕ} {stage : Stage} {n : Counts} where
    -- the elements before this place
    pub before : (x : Seen file at stage n) → n.elements ≡ length x.lot.elements / 8
    before x = omega (arith, x.tells.elements)

    pub seen_faulty : {r : Unreadable} → Seen file at stage n → has_ended stage ≡ false → entry_of lot_file stage n.elements (drop at file) ≡ faulty_entry r → read_lot lot_file file ≡ unreadable r
    seen_faulty x e f = reached_faulty lot_file file x.reached e (rw (before x) at f)

    pub seen_whole : {m : Mark} (len : ℕ) → Seen file at stage n → has_ended stage ≡ false
        → entry_of lot_file stage n.elements (drop at file) ≡ whole_entry m (take len (drop 4 (drop at file))) → 4 + len ≤ length (drop at file) → Seen file (at + 4 + len) (stage_after m) (counted_of m len n)
    seen_whole {m} len x e f room =
        let body = take len (drop 4 (drop at file)) in
        let long : length body ≡ len = length-take-le len (drop 4 (drop at file)) (simp length-drop (omega (arith, length-drop at file))) in
        let to : at + (4 + length body) ≡ at + 4 + len = omega arith in
        record {
          lot = taken m body x.lot;
          reached = subst (λ (k : ℕ). Reached lot_file file k (stage_after m) (taken m body x.lot)) to (reached_whole lot_file file x.reached e (rw (before x) at f) (omega arith));
          tells = subst (λ (k : ℕ). Tells (taken m body x.lot) (counted_of m k n) (at + 4 + len)) long (tells_taken m body x.lot n at (at + 4 + len) (omega arith) x.tells);
        }

    pub seen_whole_lot : {m : Mark} (len : ℕ) (x : Seen file at stage n) (e : has_ended stage ≡ false)
        (f : entry_of lot_file stage n.elements (drop at file) ≡ whole_entry m (take len (drop 4 (drop at file)))) (room : 4 + len ≤ length (drop at file))
        → (seen_whole len x e f room).lot ≡ taken m (take len (drop 4 (drop at file))) x.lot
    unfolding seen_whole
    seen_whole_lot len x e f room = refl

    pub seen_more : Seen file at stage n → has_ended stage ≡ true → at < length file → read_lot lot_file file ≡ unreadable out_of_place
    seen_more x e h = reached_more lot_file file x.reached e h

    pub seen_end : Seen file at stage n → has_ended stage ≡ true → length file ≤ at → scan_of (read_lot lot_file file) ≡ holds n.label (3 * n.nodes) (8 * n.elements) n.groups n.names
    seen_end x e h = ap scan_of (reached_end lot_file file x.reached e h) ∙ rw (x.tells.label, x.tells.nodes, x.tells.elements, x.tells.groups, x.tells.names)

    pub seen_small : (len : ℕ) → Seen file at stage n → length file ≤ lot_file.bytes → len ≤ lot_file.bytes → Small len n
    seen_small len x h l =
        let within = x.reached.within in
        let few = x.tells.few in
        record { len_small = l; label = omega arith; nodes = omega arith; elements = omega arith; groups = omega arith; names = omega arith }
