-- How far elements with groups among them are written: before the k-th group so many numbers of elements and so many bytes of names. Assumes nothing.
use mathlib.Core.Path.{◌≡◌, refl, sym, ◌∙◌, ap, ap₂, subst}
use mathlib.Core.Bool.{true}
use mathlib.Core.List.{List, [], ◌∷◌, ◌++◌, append_assoc}
use Prim.Native.Nat.{ℕ, ◌+◌, ◌-◌, ◌*◌, ◌/◌, ◌%◌, ◌<◌, ◌≤◌}
use native.Mathlib.Omega.{arith}
use borrow.Author.Tests.{leb-true}
use lib.Dec.{leb}
use lib.ListN.{get_or, length, take, drop, length-take, length-drop, drop_of_length-le}
use lib.Seq.{drop-drop, take_all}
use Rattle.foundation.specs.Lists.{drop_next, sum}
use Rattle.lot_format.specs.Format.{Group, GR, entry_bytes, element_entries, grouped_entries}
use Rattle.lot_format.specs.Runs.{groups_of}
use Rattle.lot_format.specs.Groups.{rising, all_up_to}
use Rattle.lot_format.specs.RunLaws.{total_next}
use Rattle.lot_format.specs.Lawful.{rising_low, rising_high, rising_rest}
use Rattle.lot_roundtrip_theory.specs.Tests.{true_both}
use Rattle.lot_entries_writer.specs.Meaning.{Grouped}
use Rattle.bytes_output.specs.Progress.{Next, last}

pub record Among (elements names lengths offsets : List ℕ) (k done named : ℕ) : Type 0 where
  pub eights : done % 8 ≡ 0
  pub placed : done ≤ length elements
  pub rises : rising (done / 8) (length elements / 8) (drop k offsets) ≡ true
  pub sums : named + sum (drop k lengths) ≡ length names
  pub short : all_up_to 32 (drop k lengths) ≡ true

-- what is left to be written
abbrev pub left_among : List ℕ → List ℕ → List ℕ → List ℕ → ℕ → ℕ → ℕ → List ℕ
left_among elements names lengths offsets k done named = grouped_entries (done / 8) (groups_of (drop named names) (drop k lengths) (drop k offsets)) (drop done elements)

module _ {elements names lengths offsets : List ℕ} (g : Grouped elements names lengths offsets) where
  pub among_start : Among elements names lengths offsets 0 0 0
  among_start = record { eights = refl; placed = omega arith; rises = g.rises; sums = omega (arith, g.sums); short = g.short }

  module _ {k done named : ℕ} (a : Among elements names lengths offsets k done named) where
    -- the elements behind the last group
    pub last_next : length lengths ≤ k → Next (left_among elements names lengths offsets k done named) (element_entries (take (length elements - done) (drop done elements))) []
    last_next h =
        last (ap (λ (ls : List ℕ). grouped_entries (done / 8) (groups_of (drop named names) ls (drop k offsets)) (drop done elements)) (drop_of_length-le lengths h)
        ∙ ap element_entries (sym (take_all (length elements - done) (drop done elements) (simp length-drop (omega arith)))))

    -- the next group: its elements end there, and its name
    module _ (h : k < length lengths) where
      abbrev before : ℕ
      before = get_or offsets k 0

      abbrev long : ℕ
      long = get_or lengths k 0

      counts : drop k offsets ≡ before ∷ drop (k + 1) offsets
      counts = drop_next offsets k 0 (omega (arith, g.paired))

      rising_here : rising (done / 8) (length elements / 8) (before ∷ drop (k + 1) offsets) ≡ true
      rising_here = subst (λ (bs : List ℕ). rising (done / 8) (length elements / 8) bs ≡ true) counts a.rises

      short_here : (leb long 32 ≡ true) × (all_up_to 32 (drop (k + 1) lengths) ≡ true)
      short_here = true_both (leb long 32) _ (subst (λ (ls : List ℕ). all_up_to 32 ls ≡ true) (drop_next lengths k 0 h) a.short)

      pub elements_from : done ≤ 8 * before
      elements_from = omega (arith, rising_low (done / 8) (length elements / 8) before (drop (k + 1) offsets) rising_here, a.eights)

      pub elements_to : 8 * before ≤ length elements
      elements_to = omega (arith, rising_high (done / 8) (length elements / 8) before (drop (k + 1) offsets) rising_here)

      pub names_to : named + long ≤ length names
      names_to = omega (arith, total_next lengths k h, a.sums)

      pub name_short : length (take (named + long - named) (drop named names)) < 65536
      name_short = simp length-take (omega (arith, leb-true long 32 short_here.0))

      pub among_next : Among elements names lengths offsets (k + 1) (8 * before) (named + long)
      among_next =
          let count : 8 * before / 8 ≡ before = omega arith in record {
            eights = omega arith;
            placed = elements_to;
            rises = rw count (rising_rest (done / 8) (length elements / 8) before (drop (k + 1) offsets) rising_here);
            sums = omega (arith, total_next lengths k h, a.sums);
            short = short_here.1;
          }

      -- the groups from here on
      groups_here : groups_of (drop named names) (drop k lengths) (drop k offsets) ≡ record { name = take long (drop named names); offset = before } ∷ groups_of (drop (named + long) names) (drop (k + 1) lengths) (drop (k + 1) offsets)
      groups_here =
          ap₂ (groups_of (drop named names)) (drop_next lengths k 0 h) counts
          ∙ ap (λ (l : List ℕ). record { name = take long (drop named names); offset = before } ∷ groups_of l (drop (k + 1) lengths) (drop (k + 1) offsets)) (drop-drop long named names)

      pub group-next :
          Next (left_among elements names lengths offsets k done named)
          (element_entries (take (8 * before - done) (drop done elements)) ++ entry_bytes GR (take (named + long - named) (drop named names)))
          (left_among elements names lengths offsets (k + 1) (8 * before) (named + long))
      group-next =
          let gs = groups_of (drop (named + long) names) (drop (k + 1) lengths) (drop (k + 1) offsets) in
          let many : 8 * (before - done / 8) ≡ 8 * before - done = omega (arith, a.eights) in
          let count : 8 * before / 8 ≡ before = omega arith in
          let size : named + long - named ≡ long = omega arith in
          let to : done + (8 * before - done) ≡ 8 * before = omega (arith, elements_from) in
          let name = entry_bytes GR (take long (drop named names)) in
          let here = element_entries (take (8 * before - done) (drop done elements)) in
          record {
            parts =
                ap (λ (l : List Group). grouped_entries (done / 8) l (drop done elements)) groups_here
                ∙ ap (λ (n : ℕ). element_entries (take n (drop done elements)) ++ (name ++ grouped_entries before gs (drop n (drop done elements)))) many
                ∙ ap (λ (l : List ℕ). here ++ (name ++ grouped_entries before gs l)) (drop-drop (8 * before - done) done elements ∙ ap (λ (n : ℕ). drop n elements) to)
                ∙ sym (append_assoc here name (grouped_entries before gs (drop (8 * before) elements)))
                ∙ rw (size, count);
          }
