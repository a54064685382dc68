-- A lot that keeps to the limits is read back from what it is written out as.
use Rattle.std.specs.Prelude.{◌≡◌, true, ℕ, zero, suc, ◌+◌, ◌-◌, ◌*◌, ◌/◌, ◌%◌, ◌^◌, ◌<◌, ◌≤◌, take, drop, ℤ}
use Rattle.std.proofs.Math.Path.{refl}
use Rattle.std.proofs.Common.{sym, ◌∙◌, ap, subst, mul-suc, mul-zero, arith, length-append, length-drop, take-append-drop, length-take-le}
use mathlib.Core.List.{List, [], ◌∷◌, ◌++◌, append_assoc}
use Rattle.std.proofs.Math.Option.{none}
use borrow.Author.Tests.{le-leb, eq-eqb, lt-ltb}
use Rattle.std.proofs.Math.ListN.{length}
use Rattle.std.specs.Int.Signed.{mag}
use Rattle.foundation.specs.Lists.{All, all_left, all_right, append_nil}
use Rattle.lot_format.specs.Numbers.{unsigned_bytes, signed_bytes}
use Rattle.lot_format.specs.Format.{FileLimits, Group, Lot, Mark, LB, ND, HX, GR, EN, right_length, Stage, at_label, at_nodes, at_elements, at_end, in_place, stage_after, entry_bytes, entries, node_entries, element_entries, grouped_entries, written}
use Rattle.lot_format.specs.Runs.{offsets_of}
use Rattle.lot_format.specs.Reading.{name_fault, body_fault, joined, taken, readable, no_lot, read_lot}
use Rattle.lot_format.specs.Groups.{rising}
use Rattle.lot_format.specs.Joined.{joined_none, joined_assoc}
use Rattle.lot_format.specs.Steps.{read_start}
use Rattle.lot_format.specs.Lawful.{LawfulName, Lawful, rising_low, rising_high, rising_rest}
use Rattle.lot_roundtrip_theory.specs.Lengths.{length_signed_bytes, length_unsigned_bytes}
use Rattle.lot_roundtrip_theory.specs.NumbersBack.{unsigneds_back, signeds_back}
use Rattle.lot_roundtrip_theory.specs.EntryBack.{read_on, read_entry, read_end}

-- ---- lots of one kind of entry
abbrev nodes_only : List ℤ → Lot
nodes_only zs = record { label = []; nodes = zs; elements = []; groups = [] }

abbrev elements_only : List ℕ → Lot
elements_only xs = record { label = []; nodes = []; elements = xs; groups = [] }

abbrev groups_with : List Group → List ℕ → Lot
groups_with gs xs = record { label = []; nodes = []; elements = xs; groups = gs }

all_parts : {A : Type 0} (P : A → Type 0) (k : ℕ) (xs : List A) → All P xs → All P (take k xs) × All P (drop k xs)
all_parts P k xs h = let both = subst (All P) (sym (take-append-drop k xs)) h in (all_left P (take k xs) (drop k xs) both, all_right P (take k xs) (drop k xs) both)

-- ---- places
nodes_then : (stage : Stage) → in_place stage ND ≡ true → in_place stage HX ≡ true
nodes_then at_label e = e
nodes_then at_nodes e = refl
nodes_then at_elements e = refl
nodes_then at_end e = e

group_too : (stage : Stage) → in_place stage HX ≡ true → in_place stage GR ≡ true
group_too at_label e = e
group_too at_nodes e = refl
group_too at_elements e = refl
group_too at_end e = e

end_too : (stage : Stage) → in_place stage HX ≡ true → in_place stage EN ≡ true
end_too at_label e = e
end_too at_nodes e = refl
end_too at_elements e = refl
end_too at_end e = e

module _ (F : FileLimits) (name : F.name < 65536) where
  -- the bytes that are left, read at any stage at which a mark is in place
  abbrev Reads : Mark → Lot → List ℕ → Lot → Type 0
  Reads m lot bytes out = (stage : Stage) → in_place stage m ≡ true → read_on F stage lot bytes ≡ readable out

  abbrev Few : Lot → Type 0
  Few lot = length lot.elements / 8 ≤ F.elements

  few_part : (a b : Lot) → Few (joined a b) → Few a
  few_part a b h = omega (arith, length-append a.elements b.elements)

  name_clear : (s : List ℕ) → LawfulName F s → name_fault s ≡ none
  name_clear s h = rw (h.named, name_fault)

  -- ---- entries of one mark, each with the bytes of the next k numbers
  module _ {A : Type 0} (P : A → Type 0) (m : Mark) (k : ℕ) (bytes : List A → List ℕ) (only : List A → Lot) (out : Lot)
      (stays : in_place (stage_after m) m ≡ true)
      (none_is : only [] ≡ no_lot)
      (more-is : (xs ys : List A) → joined (only xs) (only ys) ≡ only (xs ++ ys))
      (right : (lot : Lot) (xs : List A) → length xs ≡ k → Few (joined lot (only xs)) → (right_length F m (length (bytes xs)) ≡ true) × (body_fault F m (length lot.elements / 8) (bytes xs) ≡ none))
      (back : (lot : Lot) (xs : List A) → length xs ≡ k → All P xs → taken m (bytes xs) lot ≡ joined lot (only xs)) where
    read_entries : (n : ℕ) (lot : Lot) (xs : List A) (rest : List ℕ) → length xs ≡ k * n → All P xs → Few (joined lot (only xs)) → Reads m (joined lot (only xs)) rest out → Reads m lot (entries m k bytes n xs ++ rest) out
    read_entries zero lot [] rest e h few then stage s = subst (λ (l : Lot). read_on F stage l rest ≡ readable out) (ap (joined lot) none_is ∙ joined_none lot) (then stage s)
    read_entries zero lot (x ∷ xs) rest e h few then stage s = absurd (omega (arith, mul-zero k))
    read_entries (suc n) lot xs rest e h few then stage s =
        let more : k * n + k ≡ length xs = sym (e ∙ mul-suc k n) in
        let first = take k xs in
        let last = drop k xs in
        let long : length first ≡ k = length-take-le k xs (omega arith) in
        let parts = all_parts P k xs h in
        let whole : joined (joined lot (only first)) (only last) ≡ joined lot (only xs) = joined_assoc lot (only first) (only last) ∙ ap (joined lot) (more-is first last ∙ ap only (take-append-drop k xs)) in
        let some = subst Few (sym whole) few in
        let sound = right lot first long (few_part (joined lot (only first)) (only last) some) in
        let on = entries m k bytes n last ++ rest in
        ap (read_on F stage lot) (append_assoc (entry_bytes m (bytes first)) (entries m k bytes n last) rest)
        ∙ read_entry F name stage m (bytes first) on lot (record { placed = s; right = sound.0; clear = sound.1 })
        ∙ ap (λ (l : Lot). read_on F (stage_after m) l on) (back lot first long parts.0)
        ∙ read_entries n (joined lot (only first)) last rest (length-drop k xs ∙ omega arith) parts.1 some (subst (λ (l : Lot). Reads m l rest out) (sym whole) then) (stage_after m) stays

  module _ (out lot : Lot) (rest : List ℕ) where
    -- ---- nodes and elements
    read_nodes : (zs : List ℤ) → length zs % 3 ≡ 0 → All (λ z. mag z < 2 ^ 31) zs → Few lot → Reads ND (joined lot (nodes_only zs)) rest out → Reads ND lot (node_entries zs ++ rest) out
    read_nodes zs e h few =
        read_entries (λ z. mag z < 2 ^ 31) ND 3 signed_bytes nodes_only out refl refl (λ xs ys. refl)
        (λ l xs long f. (eq-eqb (length (signed_bytes xs)) 12 (omega (arith, length_signed_bytes xs)), refl))
        (λ l xs long small. ap (λ (zs : List ℤ). joined l (nodes_only zs)) (signeds_back 3 xs long small))
        (length zs / 3) lot zs rest (omega arith) h (omega (arith, length-append lot.elements []))

    read_elements : (xs : List ℕ) → length xs % 8 ≡ 0 → All (λ x. x < 2 ^ 32) xs → Few (joined lot (elements_only xs)) → Reads HX (joined lot (elements_only xs)) rest out → Reads HX lot (element_entries xs ++ rest) out
    read_elements xs e h =
        read_entries (λ x. x < 2 ^ 32) HX 8 unsigned_bytes elements_only out refl refl (λ xs ys. refl)
        (λ l xs long f. (eq-eqb (length (unsigned_bytes xs)) 32 (omega (arith, length_unsigned_bytes xs)), rw (lt-ltb (length l.elements / 8) F.elements (omega (arith, length-append l.elements xs)), body_fault)))
        (λ l xs long small. ap (λ (ys : List ℕ). joined l (elements_only ys)) (unsigneds_back 8 xs long small))
        (length xs / 8) lot xs rest (omega arith) h

    -- ---- a group, and the end
    read_group : (g : Group) → LawfulName F g.name → length lot.elements / 8 ≡ g.offset → Reads HX (joined lot (groups_with (g ∷ []) [])) rest out → Reads HX lot (entry_bytes GR g.name ++ rest) out
    read_group g h e then stage s =
        read_entry F name stage GR g.name rest lot (record { placed = group_too stage s; right = le-leb _ _ h.short; clear = name_clear g.name h })
        ∙ ap (λ (n : ℕ). read_on F at_elements (joined lot (groups_with (record { name = g.name; offset = n } ∷ []) [])) rest) e
        ∙ then at_elements refl

  read_last : (lot : Lot) → Reads HX lot (entry_bytes EN []) lot
  read_last lot stage s = read_entry F name stage EN [] [] lot (record { placed = end_too stage s; right = refl; clear = refl }) ∙ ap (λ (l : Lot). read_on F at_end l []) (joined_none lot) ∙ read_end F lot

  -- ---- elements with groups among them
  module _ (out : Lot) (high : ℕ) (room : high ≤ F.elements) where
    read_grouped : (n : ℕ) (gs : List Group) (lot : Lot) (xs rest : List ℕ) → length lot.elements ≡ 8 * n → length xs ≡ 8 * (high - n) → n ≤ high
        → All (λ x. x < 2 ^ 32) xs → All (λ (g : Group). LawfulName F g.name) gs → rising n high (offsets_of gs) ≡ true
        → Reads HX (joined lot (groups_with gs xs)) rest out → Reads HX lot (grouped_entries n gs xs ++ rest) out
    read_grouped n [] lot xs rest b e l small names r then stage s =
        read_elements out lot rest xs (omega arith) small (omega (arith, length-append lot.elements xs)) then stage s
    read_grouped n (g ∷ gs) lot xs rest b e l small names r then stage s =
        let low = rising_low n high g.offset (offsets_of gs) r in
        let top = rising_high n high g.offset (offsets_of gs) r in
        let here = take (8 * (g.offset - n)) xs in
        let left = drop (8 * (g.offset - n)) xs in
        let parts = all_parts (λ x. x < 2 ^ 32) (8 * (g.offset - n)) xs small in
        let long : length here ≡ 8 * (g.offset - n) = length-take-le (8 * (g.offset - n)) xs (omega arith) in
        let sum = length-append lot.elements here in
        let so_far = joined lot (elements_only here) in
        let with-group = joined so_far (groups_with (g ∷ []) []) in
        let same : length with-group.elements ≡ length so_far.elements = length-append so_far.elements [] ∙ omega arith in
        let whole : joined with-group (groups_with gs left) ≡ joined lot (groups_with (g ∷ gs) xs) =
        joined_assoc so_far (groups_with (g ∷ []) []) (groups_with gs left)
        ∙ joined_assoc lot (elements_only here) (groups_with (g ∷ gs) left)
        ∙ ap (λ (ys : List ℕ). joined lot (groups_with (g ∷ gs) ys)) (take-append-drop (8 * (g.offset - n)) xs) in
        let on = grouped_entries g.offset gs left ++ rest in
        let behind = read_grouped g.offset gs with-group left rest (omega arith) (length-drop (8 * (g.offset - n)) xs ∙ omega arith) top parts.1 names.1 (rising_rest n high g.offset (offsets_of gs) r) (subst (λ (l : Lot). Reads HX l rest out) (sym whole) then) in
        let grouped = read_group out so_far on g names.0 (omega arith) behind in
        ap (read_on F stage lot) (append_assoc (element_entries here) (entry_bytes GR g.name ++ grouped_entries g.offset gs left) rest ∙ ap (λ (l : List ℕ). element_entries here ++ l) (append_assoc (entry_bytes GR g.name) (grouped_entries g.offset gs left) rest))
        ∙ read_elements out lot (entry_bytes GR g.name ++ on) here (omega arith) parts.0 (omega arith) grouped stage s

  -- ---- a lot
  pub written_back : (lot : Lot) → Lawful F lot → length (written lot) ≤ F.bytes → read_lot F (written lot) ≡ readable lot
  unfolding written
  written_back lot h l =
      let n = length lot.elements / 8 in
      let labelled : Lot = record { label = lot.label; nodes = []; elements = []; groups = [] } in
      let noded = joined labelled (nodes_only lot.nodes) in
      let whole : joined noded (groups_with lot.groups lot.elements) ≡ lot = simp append_nil in
      let last = entry_bytes EN [] in
      let grouped = grouped_entries 0 lot.groups lot.elements ++ last in
      let ended = read_grouped lot n h.elements.few 0 lot.groups noded lot.elements last (omega arith) (omega (arith, h.elements.eights)) (omega arith) h.elements.unsigned32 h.groups.names h.groups.rises (subst (λ (l : Lot). Reads HX l last lot) (sym whole) (read_last lot)) in
      read_start F (written lot) l
      ∙ read_entry F name at_label LB lot.label (node_entries lot.nodes ++ grouped) no_lot (record { placed = refl; right = le-leb _ _ h.label.short; clear = name_clear lot.label h.label })
      ∙ read_nodes lot labelled grouped lot.nodes h.nodes.threes h.nodes.signed32 (omega arith) (λ stage s. ended stage (nodes_then stage s)) at_nodes refl
