-- How far a file has been read: the stage at a place of it, the lot so far, and that reading the file is reading on from there.
use Rattle.std.specs.Prelude.{◌≡◌, refl, Bool, true, false, List, ℕ, zero, suc, ◌+◌, ◌-◌, ◌/◌, ◌≤◌, ◌<◌, length, drop}
use Rattle.std.proofs.Common.{sym, ◌∙◌, ap, arith, length-drop, drop_of_length-le, drop-cons, drop-drop}
use Rattle.lot_format.specs.Format.{FileLimits, Lot, Mark, Stage, at_label, stage_after}
use Rattle.lot_format.specs.Reading.{Unreadable, cut_short, out_of_place, Entry, faulty_entry, whole_entry, entry_of, contents, joined, taken, readable, unreadable, has_ended, ending, read_from, no_lot, read_lot}
use Rattle.lot_format.specs.Joined.{joined_assoc, joined_none}
use Rattle.lot_format.proofs.Through.{not_accepted, through}
use Rattle.lot_format.specs.Steps.{entry_cut, read_ended, read_faulty, read_whole, read_start}

module _ (F : FileLimits) (file : List ℕ) where
  pub record Reached (at : ℕ) (stage : Stage) (lot : Lot) : Type 0 where
    pub left : ℕ
    pub enough : length file < at + left
    pub within : at ≤ length file
    pub rest : read_lot F file ≡ read_from F left stage lot (drop at file)

  pub reached_start : length file ≤ F.bytes → Reached 0 at_label no_lot
  reached_start h = record { left = suc (length file); enough = omega arith; within = omega arith; rest = read_start F file h }

  module _ {at : ℕ} {stage : Stage} {lot : Lot} where
    -- one step is left at least
    step : (x : Reached at stage lot) → (k : ℕ) × (read_lot F file ≡ read_from F (suc k) stage lot (drop at file)) × (length file ≤ at + k)
    step x = go x.left x.enough x.within x.rest
      where
        go : (n : ℕ) → length file < at + n → at ≤ length file → read_lot F file ≡ read_from F n stage lot (drop at file)
            → (k : ℕ) × (read_lot F file ≡ read_from F (suc k) stage lot (drop at file)) × (length file ≤ at + k)
        go zero h w e = absurd (omega arith)
        go (suc k) h w e = (k, e, omega arith)

    pub reached_faulty : {r : Unreadable} → Reached at stage lot → has_ended stage ≡ false → entry_of F stage (length lot.elements / 8) (drop at file) ≡ faulty_entry r → read_lot F file ≡ unreadable r
    reached_faulty x e f = let one = step x in one.1 ∙ read_faulty F one.0 stage lot (drop at file) e f

    pub reached_whole : {m : Mark} {body : List ℕ} → Reached at stage lot → has_ended stage ≡ false
        → entry_of F stage (length lot.elements / 8) (drop at file) ≡ whole_entry m body → 4 + length body ≤ length (drop at file) → Reached (at + (4 + length body)) (stage_after m) (taken m body lot)
    reached_whole {m} {body} x e f room =
        let one = step x in
        let long : length (drop at file) ≡ length file - at = length-drop at file in
        record {
          left = one.0;
          enough = omega (arith, one.2);
          within = omega (arith, x.within);
          rest = one.1 ∙ read_whole F one.0 stage lot (drop at file) e f ∙ ap (read_from F one.0 (stage_after m) (taken m body lot)) (drop-drop (4 + length body) at file);
        }

    pub reached_more : Reached at stage lot → has_ended stage ≡ true → at < length file → read_lot F file ≡ unreadable out_of_place
    reached_more x e h = let one = step x in one.1 ∙ read_ended F one.0 stage lot (drop at file) e ∙ ap (ending lot) (drop-cons file at 0 h)

    pub reached_end : Reached at stage lot → has_ended stage ≡ true → length file ≤ at → read_lot F file ≡ readable lot
    reached_end x e h = let one = step x in one.1 ∙ read_ended F one.0 stage lot (drop at file) e ∙ ap (ending lot) (drop_of_length-le file h)

-- ---- in a file that is accepted: entry by entry, the lot grows to the one that is handed out
-- a lot with more behind is another
pub record Grows (a b : Lot) : Type 0 where
  pub more : Lot
  pub is_joined : b ≡ joined a more

grows_taken : (m : Mark) (body : List ℕ) (a lot : Lot) → Grows a lot → Grows a (taken m body lot)
grows_taken m body a lot g =
    let next = contents m body (length lot.elements / 8) in
    record { more = joined g.more next; is_joined = ap (λ (l : Lot). joined l next) g.is_joined ∙ joined_assoc a g.more next }

-- the entry at a place
pub record Next (F : FileLimits) (file : List ℕ) (at : ℕ) (stage : Stage) (lot : Lot) : Type 0 where
  pub mark : Mark
  pub body : List ℕ
  pub unread : has_ended stage ≡ false
  pub found : entry_of F stage (length lot.elements / 8) (drop at file) ≡ whole_entry mark body

module _ (F : FileLimits) (file : List ℕ) (out : Lot) (good : read_lot F file ≡ readable out) {at : ℕ} {stage : Stage} {lot : Lot} (x : Reached F file at stage lot) where
  pub reached_grows : Grows lot out
  reached_grows = through F (λ stage l bytes. Grows lot l) (λ stage m l bytes body w g. grows_taken m body lot l g) out x.left stage lot (drop at file) (sym x.rest ∙ good) (record { more = no_lot; is_joined = sym (joined_none lot) })

  at_entry : has_ended stage ≡ false → (e : Entry) → entry_of F stage (length lot.elements / 8) (drop at file) ≡ e → Next F file at stage lot
  at_entry u (faulty_entry r) f = not_accepted r (sym (reached_faulty F file x u f) ∙ good)
  at_entry u (whole_entry m body) f = record { mark = m; body = body; unread = u; found = f }

  pub reached_next : at < length file → Next F file at stage lot
  reached_next h = go (has_ended stage) refl
    where
      go : (t : Bool) → has_ended stage ≡ t → Next F file at stage lot
      go true e = not_accepted out_of_place (sym (reached_more F file x e h) ∙ good)
      go false e = at_entry e _ refl

  pub reached_all : length file ≤ at → lot ≡ out
  reached_all h = go (has_ended stage) refl
    where
      none_left : length (drop at file) < 4
      none_left = simp length-drop (omega arith)

      go : (t : Bool) → has_ended stage ≡ t → lot ≡ out
      go true e = let same : readable lot ≡ readable out = sym (reached_end F file x e h) ∙ good in cc
      go false e = not_accepted cut_short (sym (reached_faulty F file x e (entry_cut F stage _ (drop at file) none_left)) ∙ good)
