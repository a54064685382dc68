-- How far the handing out of a file without fault has come: what was read so far lies over the lent runs. Assumes nothing.
use mathlib.Core.Path.{◌≡◌, refl, sym, ◌∙◌, ap, ap₂, subst}
use mathlib.Core.Bool.{true, false}
use mathlib.Core.List.{List, ◌++◌}
use mathlib.Core.Option.{none, some}
use Prim.Native.Nat.{ℕ, ◌+◌, ◌*◌, ◌≤◌, ◌<◌}
use native.Mathlib.Omega.{arith}
use lib.ListN.{get_or, length, take, drop, length-append, length-drop}
use lib.Seq.{drop-drop}
use Rattle.foundation.specs.Laid.{put, laid_over, length_laid, put_behind}
use Rattle.lot_format.specs.Numbers.{number}
use Rattle.lot_format.specs.Format.{lot_file, Lot, Mark, mark_of, right_length, Stage, at_label, stage_after}
use Rattle.lot_format.specs.Runs.{Runs, names_of, lengths_of, offsets_of, runs_of}
use Rattle.lot_format.specs.Reading.{whole_entry, entry_of, contents, joined, has_ended, read_lot, lot_of}
use Rattle.lot_format.specs.Joined.{names_append, lengths_append, offsets_append}
use Rattle.lot_format.specs.Entries.{whole_is}
use Rattle.lot_format.proofs.Reached.{Next, Grows, reached_next, reached_grows, reached_all}
use Rattle.lot_format.proofs.Accepted.{accepted_short, Fits}
use Rattle.lot_scan.specs.declared.Counts.{Counts}
use Rattle.lot_scan.specs.Meaning.{no_counts, counted_of, Small}
use Rattle.lot_entry_hand_out.specs.Meaning.{new_runs, Fitting, Laid}
use Rattle.lot_hand_out.specs.Meaning.{Handable}
use Rattle.lot_scan.specs.Seen.{Seen, before, seen_start, seen_whole, seen_whole_lot, seen_small}
use Rattle.lot_scan.specs.Scans.{as_many_lengths, as_many_offsets}
use Rattle.lot_runs.specs.declared.Space.{Space}
use Rattle.lot_runs.specs.Meaning.{room_of, Over, Kept}

-- how long each run is, in five parts; how long the runs of a joined lot are
pub record Long (x : Runs) (a b c d e : ℕ) : Type 0 where
  pub nodes : length x.nodes ≡ a
  pub elements : length x.elements ≡ b
  pub names : length x.names ≡ c
  pub lengths : length x.lengths ≡ d
  pub offsets : length x.offsets ≡ e

module _ (a b : Lot) where
  long_joined : Long (runs_of (joined a b)) (length (runs_of a).nodes + length (runs_of b).nodes) (length (runs_of a).elements + length (runs_of b).elements) (length (runs_of a).names + length (runs_of b).names)
      (length (runs_of a).lengths + length (runs_of b).lengths) (length (runs_of a).offsets + length (runs_of b).offsets)
  long_joined = record {
    nodes = length-append a.nodes b.nodes;
    elements = length-append a.elements b.elements;
    names = ap length (names_append a.groups b.groups) ∙ length-append (names_of a.groups) (names_of b.groups);
    lengths = ap length (lengths_append a.groups b.groups) ∙ length-append (lengths_of a.groups) (lengths_of b.groups);
    offsets = ap length (offsets_append a.groups b.groups) ∙ length-append (offsets_of a.groups) (offsets_of b.groups);
  }

-- ---- how far the handing out has come
pub record Handed (file : List ℕ) (lent now : Runs) (at : ℕ) (n : Counts) : Type 0 where
  pub stage : Stage
  pub seen : Seen file at stage n
  pub over : Over (runs_of seen.lot) lent now

-- as long as the counts tell
long_seen : {file : List ℕ} {at : ℕ} {stage : Stage} {n : Counts} (x : Seen file at stage n) → Long (runs_of x.lot) (3 * n.nodes) (8 * n.elements) n.names n.groups n.groups
long_seen x = let t = x.tells in record {
  nodes = t.nodes;
  elements = t.elements;
  names = t.names;
  lengths = as_many_lengths x.lot.groups ∙ t.groups;
  offsets = as_many_offsets x.lot.groups ∙ t.groups;
}

-- the entry that stands at a place, by its mark and the length it gives
pub record Here (file : List ℕ) (at : ℕ) (stage : Stage) (n : Counts) (m : Mark) (len : ℕ) : Type 0 where
  pub unread : has_ended stage ≡ false
  pub found : entry_of lot_file stage n.elements (drop at file) ≡ whole_entry m (take len (drop 4 (drop at file)))
  pub right : right_length lot_file m len ≡ true
  pub fits : 4 + len ≤ length (drop at file)

module _ {file : List ℕ} {at : ℕ} {stage : Stage} {n : Counts} (x : Seen file at stage n) (next : Next lot_file file at stage x.lot) where
  pub not_unknown : {X : Type 0} → mark_of (get_or (drop at file) 0 0) (get_or (drop at file) 1 0) ≡ none → X
  not_unknown e = let known = (whole_is next.found).mark in let z : ◌≡◌ {A = ℕ} 0 1 = cc in absurd (omega arith)

  pub here : (m : Mark) (len : ℕ) → mark_of (get_or (drop at file) 0 0) (get_or (drop at file) 1 0) ≡ some m → len ≡ number (take 2 (drop 2 (drop at file))) → Here file at stage n m len
  here m len e l =
      let w = whole_is next.found in
      let same : next.mark ≡ m = cc (w.mark, e) in
      let long : length next.body ≡ len = sym (l ∙ w.says) in
      let body : next.body ≡ take len (drop 4 (drop at file)) = sym w.stands ∙ ap (λ (k : ℕ). take k (drop 4 (drop at file))) long in
      record {
        unread = next.unread;
        found = ap (λ (k : ℕ). entry_of lot_file stage k (drop at file)) (before file x) ∙ next.found ∙ ap₂ whole_entry same body;
        right = subst (λ (k : ℕ). right_length lot_file m k ≡ true) long (subst (λ (k : Mark). right_length lot_file k (length next.body) ≡ true) same w.right);
        fits = subst (λ (k : ℕ). 4 + k ≤ length (drop at file)) long w.fits;
      }

-- the lent runs are kept from one entry to the next
pub kept_next : {a b c : Space} → Kept a b → Kept b c → Kept a c
kept_next p q = record { nodes = q.nodes ∙ p.nodes; elements = q.elements ∙ p.elements; names = q.names ∙ p.names; lengths = q.lengths ∙ p.lengths; offsets = q.offsets ∙ p.offsets }

-- one run with more behind
over_next : {A : Type 0} (xs ys zs space now : List A) {at : ℕ} {then : List A} → now ≡ laid_over xs space → length xs ≡ at → then ≡ put at ys now → xs ++ ys ≡ zs → then ≡ laid_over zs space
over_next xs ys zs space now e l f g = f ∙ ap₂ (λ k s. put k ys s) (sym l) e ∙ put_behind xs ys space ∙ ap (λ z. laid_over z space) g

module _ (file : List ℕ) (lent : Runs) (h : Handable (read_lot lot_file file) (room_of lent)) where
  short : length file ≤ lot_file.bytes
  short = accepted_short lot_file file (lot_of (read_lot lot_file file)) h.good

  pub handed_start : Handed file lent lent 0 no_counts
  unfolding seen_start
  handed_start = record { stage = at_label; seen = seen_start file short; over = record { nodes_after = refl; elements_after = refl; names_after = refl; lengths_after = refl; offsets_after = refl } }

  all_fit : Fits (runs_of (lot_of (read_lot lot_file file))) (room_of lent)
  all_fit = record { nodes = h.nodes_fit; elements = h.elements_fit; names = h.names_fit; lengths = h.lengths_fit; offsets = h.offsets_fit }

  part_fits : (lot : Lot) → Grows lot (lot_of (read_lot lot_file file)) → Fits (runs_of lot) (room_of lent)
  part_fits lot g =
      let l = long_joined lot g.more in
      let f = subst (λ (x : Lot). Fits (runs_of x) (room_of lent)) g.is_joined all_fit in
      record { nodes = omega (arith, l.nodes, f.nodes); elements = omega (arith, l.elements, f.elements); names = omega (arith, l.names, f.names); lengths = omega (arith, l.lengths, f.lengths); offsets = omega (arith, l.offsets, f.offsets) }

  seen_fits : {at : ℕ} {stage : Stage} {n : Counts} (x : Seen file at stage n) → Fits (runs_of x.lot) (room_of lent)
  seen_fits x = part_fits x.lot (reached_grows lot_file file (lot_of (read_lot lot_file file)) h.good x.reached)

  module _ {now : Runs} {at : ℕ} {n : Counts} (x : Handed file lent now at n) where
    pub handed_next : at < length file → Next lot_file file at x.stage x.seen.lot
    handed_next = reached_next lot_file file (lot_of (read_lot lot_file file)) h.good x.seen.reached

    pub four_left : at < length file → at + 4 ≤ length file
    four_left l = omega (arith, (whole_is (handed_next l).found).fits, length-drop at file, x.seen.reached.within)

    pub short_file : length file ≤ lot_file.bytes
    short_file = short

    -- the lent runs keep their lengths
    pub same_nodes : length now.nodes ≡ length lent.nodes
    same_nodes = ap length x.over.nodes_after ∙ length_laid (runs_of x.seen.lot).nodes lent.nodes (seen_fits x.seen).nodes

    pub same_elements : length now.elements ≡ length lent.elements
    same_elements = ap length x.over.elements_after ∙ length_laid (runs_of x.seen.lot).elements lent.elements (seen_fits x.seen).elements

    pub same_names : length now.names ≡ length lent.names
    same_names = ap length x.over.names_after ∙ length_laid (runs_of x.seen.lot).names lent.names (seen_fits x.seen).names

    pub same_lengths : length now.lengths ≡ length lent.lengths
    same_lengths = ap length x.over.lengths_after ∙ length_laid (runs_of x.seen.lot).lengths lent.lengths (seen_fits x.seen).lengths

    pub same_offsets : length now.offsets ≡ length lent.offsets
    same_offsets = ap length x.over.offsets_after ∙ length_laid (runs_of x.seen.lot).offsets lent.offsets (seen_fits x.seen).offsets

    pub handed_all : length file ≤ at → Over (runs_of (lot_of (read_lot lot_file file))) lent now
    handed_all l = subst (λ (lot : Lot). Over (runs_of lot) lent now) (reached_all lot_file file (lot_of (read_lot lot_file file)) h.good x.seen.reached l) x.over

    module _ {m : Mark} {len : ℕ} (e : Here file at x.stage n m len) where
      pub within_file : at + 4 + len ≤ length file
      within_file = omega (arith, e.fits, length-drop at file, x.seen.reached.within)

      pub small_here : Small len n
      small_here = seen_small file len x.seen short (omega (arith, short, within_file))

      seen_then : Seen file (at + 4 + len) (stage_after m) (counted_of m len n)
      seen_then = seen_whole file len x.seen e.unread e.found e.fits

      -- the lot with what the entry holds behind
      abbrev next_lot : Lot
      next_lot = contents m (take len (drop (at + 4) file)) n.elements

      lot_then : seen_then.lot ≡ joined x.seen.lot next_lot
      unfolding seen_then
      lot_then = seen_whole_lot file len x.seen e.unread e.found e.fits ∙ ap₂ (λ (b : List ℕ) (k : ℕ). joined x.seen.lot (contents m (take len b) k)) (drop-drop 4 at file) (sym (before file x.seen))

      pub handed_fits : Fitting m file (at + 4) len n (room_of now)
      handed_fits =
          let f = subst (λ (lot : Lot). Fits (runs_of lot) (room_of lent)) lot_then (seen_fits seen_then) in
          let l = long_joined x.seen.lot next_lot in
          let k = long_seen x.seen in
          record {
            right = e.right;
            within = within_file;
            small = small_here;
            nodes_fit = omega (arith, f.nodes, l.nodes, k.nodes, same_nodes);
            elements_fit = omega (arith, f.elements, l.elements, k.elements, same_elements);
            names_fit = omega (arith, f.names, l.names, k.names, same_names);
            lengths_fit = omega (arith, f.lengths, l.lengths, k.lengths, same_lengths);
            offsets_fit = omega (arith, f.offsets, l.offsets, k.offsets, same_offsets);
          }

      pub handed_then : {then : Runs} {n' : Counts}
          → Laid (new_runs m file (at + 4) len n) n now then
          → n' ≡ counted_of m len n → Handed file lent then (at + 4 + len) n'
      handed_then {then} {n'} p q =
          let a = x.seen.lot in
          let k = long_seen x.seen in
          let o = x.over in
          let over : Over (runs_of (joined a next_lot)) lent then = record {
            nodes_after = over_next a.nodes next_lot.nodes _ lent.nodes now.nodes o.nodes_after k.nodes p.nodes_after refl;
            elements_after = over_next a.elements next_lot.elements _ lent.elements now.elements o.elements_after k.elements p.elements_after refl;
            names_after = over_next (names_of a.groups) (names_of next_lot.groups) _ lent.names now.names o.names_after k.names p.names_after (sym (names_append a.groups next_lot.groups));
            lengths_after = over_next (lengths_of a.groups) (lengths_of next_lot.groups) _ lent.lengths now.lengths o.lengths_after k.lengths p.lengths_after (sym (lengths_append a.groups next_lot.groups));
            offsets_after = over_next (offsets_of a.groups) (offsets_of next_lot.groups) _ lent.offsets now.offsets o.offsets_after k.offsets p.offsets_after (sym (offsets_append a.groups next_lot.groups));
          } in
          subst (Handed file lent then (at + 4 + len)) (sym q) (record { stage = stage_after m; seen = seen_then; over = subst (λ (lot : Lot). Over (runs_of lot) lent then) (sym lot_then) over })
