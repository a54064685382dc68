-- How many bytes a lot is written out as.
use Rattle.std.specs.Prelude.{◌≡◌, refl, true, List, [], ◌∷◌, map, ℕ, zero, suc, ◌+◌, ◌-◌, ◌*◌, ◌/◌, ◌%◌, ◌≤◌, length, take, drop, ℤ}
use Rattle.std.proofs.Common.{sym, ◌∙◌, ap, mul-suc, mul-zero, arith, length-append, length-drop, length-take-le}
use Rattle.std.proofs.lemmas.List.{length-map}
use Rattle.lot_format.specs.Numbers.{bits, number_bytes, unsigned_bytes, signed_bytes}
use Rattle.lot_format.specs.Format.{Group, Lot, Mark, ND, HX, LB, GR, EN, entry_bytes, entries, node_entries, element_entries, grouped_entries, written}
use Rattle.lot_format.specs.Runs.{Runs, names_of, offsets_of, groups_of, lot_from}
use Rattle.lot_format.specs.Groups.{rising}
use Rattle.lot_format.specs.RunLaws.{Fitting, names_back, lengths_back, offsets_back}
use Rattle.lot_format.specs.Lawful.{rising_low, rising_high, rising_rest}

-- ---- numbers
pub length_number_bytes : (n x : ℕ) → length (number_bytes n x) ≡ n
length_number_bytes zero x = refl
length_number_bytes (suc n) x = ap suc (length_number_bytes n _)

pub length_unsigned_bytes : (xs : List ℕ) → length (unsigned_bytes xs) ≡ 4 * length xs
length_unsigned_bytes [] = refl
length_unsigned_bytes (x ∷ xs) = omega (arith, length_unsigned_bytes xs)

pub length_signed_bytes : (zs : List ℤ) → length (signed_bytes zs) ≡ 4 * length zs
length_signed_bytes zs = length_unsigned_bytes (map bits zs) ∙ ap (λ (n : ℕ). 4 * n) (length-map zs bits)

-- ---- entries
pub length_entry_bytes : (m : Mark) (body : List ℕ) → length (entry_bytes m body) ≡ 4 + length body
length_entry_bytes LB body = omega arith
length_entry_bytes ND body = omega arith
length_entry_bytes HX body = omega arith
length_entry_bytes GR body = omega arith
length_entry_bytes EN body = omega arith

module _ {A : Type 0} (m : Mark) (k : ℕ) (bytes : List A → List ℕ) (four : (xs : List A) → length (bytes xs) ≡ 4 * length xs) where
  pub length_entries : (n : ℕ) (xs : List A) → length xs ≡ k * n → length (entries m k bytes n xs) ≡ (4 + 4 * k) * n
  length_entries zero xs e = sym (mul-zero (4 + 4 * k))
  length_entries (suc n) xs e =
      let more : k * n + k ≡ length xs = sym (e ∙ mul-suc k n) in
      let body : length (bytes (take k xs)) ≡ 4 * k = four (take k xs) ∙ ap (λ (j : ℕ). 4 * j) (length-take-le k xs (omega arith)) in
      let rest : length (entries m k bytes n (drop k xs)) ≡ (4 + 4 * k) * n = length_entries n (drop k xs) (length-drop k xs ∙ omega arith) in
      length-append (entry_bytes m (bytes (take k xs))) (entries m k bytes n (drop k xs))
      ∙ omega (arith, length_entry_bytes m (bytes (take k xs)), mul-suc (4 + 4 * k) n)

pub length_node_entries : (zs : List ℤ) → length zs % 3 ≡ 0 → length (node_entries zs) ≡ 16 * (length zs / 3)
length_node_entries zs e = length_entries ND 3 signed_bytes length_signed_bytes (length zs / 3) zs (omega arith)

pub length_element_entries : (xs : List ℕ) → length xs % 8 ≡ 0 → length (element_entries xs) ≡ 36 * (length xs / 8)
length_element_entries xs e = length_entries HX 8 unsigned_bytes length_unsigned_bytes (length xs / 8) xs (omega arith)

pub length_grouped_entries : (n high : ℕ) (gs : List Group) (xs : List ℕ) → length xs ≡ 8 * (high - n) → n ≤ high → rising n high (offsets_of gs) ≡ true
    → length (grouped_entries n gs xs) ≡ 36 * (high - n) + (4 * length gs + length (names_of gs))
length_grouped_entries n high [] xs e l r = length_element_entries xs (omega arith) ∙ omega arith
length_grouped_entries n high (g ∷ gs) xs e l r =
    let low = rising_low n high g.offset (offsets_of gs) r in
    let top = rising_high n high g.offset (offsets_of gs) r in
    let here = take (8 * (g.offset - n)) xs in
    let rest = drop (8 * (g.offset - n)) xs in
    let long : length here ≡ 8 * (g.offset - n) = length-take-le (8 * (g.offset - n)) xs (omega arith) in
    let left : length rest ≡ 8 * (high - g.offset) = length-drop (8 * (g.offset - n)) xs ∙ omega arith in
    let then = length_grouped_entries g.offset high gs rest left top (rising_rest n high g.offset (offsets_of gs) r) in
    simp length-append (omega (arith, length_element_entries here (omega arith), then))

-- ---- lots, by their counts
-- so many bytes of label, nodes, elements, groups and bytes of names
abbrev pub length_by : ℕ → ℕ → ℕ → ℕ → ℕ → ℕ
length_by label nodes elements groups names = 8 + label + 16 * nodes + 36 * elements + 4 * groups + names

abbrev pub written_length : Lot → ℕ
written_length lot = length_by (length lot.label) (length lot.nodes / 3) (length lot.elements / 8) (length lot.groups) (length (names_of lot.groups))

pub length_written : (lot : Lot) → length lot.nodes % 3 ≡ 0 → length lot.elements % 8 ≡ 0 → rising 0 (length lot.elements / 8) (offsets_of lot.groups) ≡ true → length (written lot) ≡ written_length lot
unfolding written
length_written lot threes eights rises =
    let grouped = length_grouped_entries 0 (length lot.elements / 8) lot.groups lot.elements (omega arith) (omega arith) rises in
    simp length-append (omega (arith, length_node_entries lot.nodes threes, grouped))

-- ---- runs that fit together
abbrev pub runs_length : Runs → ℕ
runs_length x = length_by (length x.label) (length x.nodes / 3) (length x.elements / 8) (length x.lengths) (length x.names)

pub length_runs : (x : Runs) → length x.nodes % 3 ≡ 0 → length x.elements % 8 ≡ 0 → Fitting x.names x.lengths x.offsets → rising 0 (length x.elements / 8) x.offsets ≡ true
    → length (written (lot_from x)) ≡ runs_length x
length_runs x threes eights fit rises =
    let gs = groups_of x.names x.lengths x.offsets in
    let count : length gs ≡ length x.lengths = sym (length-map gs _) ∙ ap length (lengths_back x.names x.lengths x.offsets fit) in
    let names = ap length (names_back x.names x.lengths x.offsets fit) in
    length_written (lot_from x) threes eights (rw (offsets_back x.names x.lengths x.offsets fit.0) rises) ∙ omega arith
