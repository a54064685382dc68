-- The name in force, group by group. Assumes nothing.
use mathlib.Core.Path.{◌≡◌, refl, sym, ◌∙◌, ap, ap₂}
use mathlib.Core.Bool.{Bool, true, false}
use mathlib.Core.List.{List, [], ◌∷◌}
use Prim.Native.Nat.{ℕ, ◌+◌, ◌-◌, ◌<◌, ◌≤◌, min}
use native.Mathlib.Decide.{dec_le}
use native.Mathlib.Omega.{arith}
use borrow.Author.Tests.{le-leb, lt-leb}
use lib.ListN.{get_or, length, take, drop, length-drop, drop_of_length-le}
use lib.Seq.{take_all, drop-drop, drop-length, take-length, length-take-le}
use Rattle.foundation.specs.Lists.{drop_next}
use Rattle.lot_format.specs.Format.{Group}
use Rattle.lot_format.specs.Runs.{groups_of}
use Rattle.lot_format.specs.Naming.{name_in_force, place_in_force, is_empty, name_of}
use Rattle.lot_group_names.specs.Place.{place_of}

-- ---- one group
module _ (g : Group) (gs : List Group) (e : ℕ) where
  name_taken : (name : List ℕ) → g.offset ≤ e → name_in_force name (g ∷ gs) e ≡ name_in_force g.name gs e
  name_taken name h = rw (le-leb g.offset e h, name_in_force)

  name_passed : (name : List ℕ) → e < g.offset → name_in_force name (g ∷ gs) e ≡ name_in_force name gs e
  name_passed name h = rw (lt-leb g.offset e h, name_in_force)

  place_taken : (place at : ℕ) → g.offset ≤ e → place_in_force place at (g ∷ gs) e ≡ place_in_force at (at + length g.name) gs e
  place_taken place at h = rw (le-leb g.offset e h, place_in_force)

  place_passed : (place at : ℕ) → e < g.offset → place_in_force place at (g ∷ gs) e ≡ place_in_force place (at + length g.name) gs e
  place_passed place at h = rw (lt-leb g.offset e h, place_in_force)

-- ---- a run cut where the list ends
take_cut : (n : ℕ) (xs : List ℕ) → take n xs ≡ take (min n (length xs)) xs
take_cut n xs = elim (dec_le n (length xs)) [
  | yes h ↦ let e : n ≡ min n (length xs) = omega arith in ap (λ (k : ℕ). take k xs) e
  | no h ↦ let e : length xs ≡ min n (length xs) = omega arith in take_all n xs (omega arith) ∙ sym (take-length xs) ∙ ap (λ (k : ℕ). take k xs) e
]

drop_cut : (n : ℕ) (xs : List ℕ) → drop n xs ≡ drop (min n (length xs)) xs
drop_cut n xs = elim (dec_le n (length xs)) [
  | yes h ↦ let e : n ≡ min n (length xs) = omega arith in ap (λ (k : ℕ). drop k xs) e
  | no h ↦ let e : length xs ≡ min n (length xs) = omega arith in drop_of_length-le xs {i = n} (omega arith) ∙ sym (drop-length xs) ∙ ap (λ (k : ℕ). drop k xs) e
]

no_counts_law : (names lengths : List ℕ) → groups_of names lengths [] ≡ []
no_counts_law names [] = refl
no_counts_law names (l ∷ lengths) = refl

-- ---- the groups that are left, where k are passed and their names end at `at`
module _ (names lengths offsets : List ℕ) where
  abbrev pub left : ℕ → ℕ → List Group
  left at k = groups_of (drop at names) (drop k lengths) (drop k offsets)

  left_next : (at k len : ℕ) → k < length lengths → k < length offsets → len ≡ min (get_or lengths k 0) (length names - at) → left at k ≡ record { name = take len (drop at names); offset = get_or offsets k 0 } ∷ left (at + len) (k + 1)
  left_next at k len h i cut =
      let l = get_or lengths k 0 in
      let far : min l (length (drop at names)) ≡ len = ap (min l) (length-drop at names) ∙ sym cut in
      ap₂ (groups_of (drop at names)) (drop_next lengths k 0 h) (drop_next offsets k 0 i)
      ∙ ap₂ (λ (name rest : List ℕ). record { name = name; offset = get_or offsets k 0 } ∷ groups_of rest (drop (k + 1) lengths) (drop (k + 1) offsets))
      (take_cut l (drop at names) ∙ ap (λ (n : ℕ). take n (drop at names)) far)
      (drop_cut l (drop at names) ∙ ap (λ (n : ℕ). drop n (drop at names)) far ∙ drop-drop len at names)

  left_none : (at k : ℕ) → min (length lengths) (length offsets) ≤ k → left at k ≡ []
  left_none at k h = elim (dec_le (length lengths) k) [
    | yes few ↦ ap (λ (ls : List ℕ). groups_of (drop at names) ls (drop k offsets)) (drop_of_length-le lengths few)
    | no many ↦ ap (groups_of (drop at names) (drop k lengths)) (drop_of_length-le offsets {i = k} (omega arith)) ∙ no_counts_law (drop at names) (drop k lengths)
  ]

-- ---- how far the search has come: the name in force lies at `start`, so far; k groups are passed, whose names end at `at`
pub record Found (names lengths offsets : List ℕ) (e start len at k : ℕ) : Type 0 where
  pub within : at ≤ length names
  pub whole : start + len ≤ length names
  pub name : name_in_force [] (groups_of names lengths offsets) e ≡ name_in_force (take len (drop start names)) (left names lengths offsets at k) e
  pub place : place_in_force 0 0 (groups_of names lengths offsets) e ≡ place_in_force start at (left names lengths offsets at k) e

module _ (names lengths offsets : List ℕ) (e : ℕ) where
  pub found_nothing : Found names lengths offsets e 0 0 0 0
  found_nothing = record { within = omega arith; whole = omega arith; name = refl; place = refl }

  module _ {start len at k : ℕ} (size : ℕ) (f : Found names lengths offsets e start len at k) (h : k < min (length lengths) (length offsets)) (cut : size ≡ min (get_or lengths k 0) (length names - at)) where
    abbrev group : Group
    group = record { name = take size (drop at names); offset = get_or offsets k 0 }

    abbrev rest : List Group
    rest = left names lengths offsets (at + size) (k + 1)

    next : left names lengths offsets at k ≡ group ∷ rest
    next = left_next names lengths offsets at k size (omega arith) (omega arith) cut

    long : length (take size (drop at names)) ≡ size
    long = length-take-le size (drop at names) (simp length-drop (omega arith))

    pub found_taken : get_or offsets k 0 ≤ e → Found names lengths offsets e at size (at + size) (k + 1)
    found_taken t = record {
      within = omega (arith, f.within);
      whole = omega (arith, f.within);
      name = f.name ∙ ap (λ (gs : List Group). name_in_force (take len (drop start names)) gs e) next ∙ name_taken group rest e (take len (drop start names)) t;
      place = f.place ∙ ap (λ (gs : List Group). place_in_force start at gs e) next ∙ place_taken group rest e start at t ∙ ap (λ (n : ℕ). place_in_force at (at + n) rest e) long;
    }

    pub found_passed : e < get_or offsets k 0 → Found names lengths offsets e start len (at + size) (k + 1)
    found_passed t = record {
      within = omega (arith, f.within);
      whole = f.whole;
      name = f.name ∙ ap (λ (gs : List Group). name_in_force (take len (drop start names)) gs e) next ∙ name_passed group rest e (take len (drop start names)) t;
      place = f.place ∙ ap (λ (gs : List Group). place_in_force start at gs e) next ∙ place_passed group rest e start at t ∙ ap (λ (n : ℕ). place_in_force start (at + n) rest e) long;
    }

  pub found_name : {start len at k : ℕ} → Found names lengths offsets e start len at k → min (length lengths) (length offsets) ≤ k → take len (drop start names) ≡ name_in_force [] (groups_of names lengths offsets) e
  found_name {start} {len} {at} {k} f h = sym (f.name ∙ ap (λ (gs : List Group). name_in_force (take len (drop start names)) gs e) (left_none names lengths offsets at k h))

  pub found_place : {start len at k : ℕ} → Found names lengths offsets e start len at k → min (length lengths) (length offsets) ≤ k → start ≡ place_in_force 0 0 (groups_of names lengths offsets) e
  found_place {start} {len} {at} {k} f h = sym (f.place ∙ ap (λ (gs : List Group). place_in_force start at gs e) (left_none names lengths offsets at k h))

-- ---- the name that an element bears, and its place
not_empty : (xs : List ℕ) → 0 < length xs → is_empty xs ≡ false
not_empty [] h = absurd (omega arith)
not_empty (x ∷ xs) h = refl

module _ (label : List ℕ) (at from : ℕ × ℕ) (gs : List Group) (e : ℕ) where
  abbrev name_by : Bool → List ℕ
  name_by b = elim b [ true ↦ label | false ↦ name_in_force [] gs e ]

  abbrev place_by : Bool → ℕ × ℕ
  place_by b = elim b [ true ↦ at | false ↦ (from.0, place_in_force 0 0 gs e + from.1) ]

  pub bears_label : name_in_force [] gs e ≡ [] → (name_of label gs e ≡ label) × (place_of at from gs e ≡ at)
  bears_label h = (ap (λ (name : List ℕ). name_by (is_empty name)) h, ap (λ (name : List ℕ). place_by (is_empty name)) h)

  pub bears_name : 0 < length (name_in_force [] gs e) → (name_of label gs e ≡ name_in_force [] gs e) × (place_of at from gs e ≡ (from.0, place_in_force 0 0 gs e + from.1))
  bears_name h = let full = not_empty (name_in_force [] gs e) h in (ap name_by full, ap place_by full)
