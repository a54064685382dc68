-- A lot with one entry more is written out as before, with the entry's bytes behind.
use Rattle.std.specs.Prelude.{◌≡◌, refl, true, List, [], ◌∷◌, ◌++◌, ℕ, zero, suc, ◌+◌, ◌-◌, ◌*◌, ◌/◌, ◌%◌, ◌≤◌, ◌<◌, length, take, drop}
use Rattle.std.proofs.Common.{sym, ◌∙◌, ap, ap₂, append_assoc, mul-suc, mul-zero, add-one, arith, length-append, length-drop, drop_of_length-le, take_all}
use Rattle.std.proofs.Math.Nat.{div-add-mod, add-div_right}
use Rattle.std.proofs.lemmas.List.{take-append-le, drop-append-le}
use Rattle.foundation.specs.Lists.{All, append_nil}
use Rattle.lot_format.specs.Numbers.{Byte, unsigneds, signeds, unsigned_bytes, signed_bytes}
use Rattle.lot_format.specs.Format.{Lot, Group, Mark, LB, ND, HX, GR, EN, entry_bytes, entries, node_entries, element_entries, grouped_entries}
use Rattle.lot_format.specs.Runs.{offsets_of}
use Rattle.lot_format.specs.Reading.{taken, no_lot}
use Rattle.lot_format.specs.Groups.{rising}
use Rattle.lot_format.specs.NumberLaws.{unsigned_bytes_unsigneds, signed_bytes_signeds}
use Rattle.lot_format.specs.Joined.{joined_none}
use Rattle.lot_format.specs.Lawful.{rising_low, rising_high, rising_rest}

-- ---- entries of k numbers each
module _ {A : Type 0} (m : Mark) (k : ℕ) (positive : 0 < k) (bytes : List A → List ℕ) where
  append_entry : (n : ℕ) (xs ys : List A) → length xs ≡ k * n → length ys ≡ k → entries m k bytes (suc n) (xs ++ ys) ≡ entries m k bytes n xs ++ entry_bytes m (bytes ys)
  append_entry zero [] ys l h = append_nil (entry_bytes m (bytes (take k ys))) ∙ ap (λ x. entry_bytes m (bytes x)) (take_all k ys (omega arith))
  append_entry zero (x ∷ xs) ys l h = absurd (omega (arith, mul-zero k))
  append_entry (suc n) xs ys l h =
      let more : k + k * n ≡ length xs = omega (arith, mul-suc k n) in
      let rest = append_entry n (drop k xs) ys (length-drop k xs ∙ omega arith) h in
      ap₂ (λ x y. entry_bytes m (bytes x) ++ y) (take-append-le k xs ys (omega arith)) (ap (entries m k bytes (suc n)) (drop-append-le k xs ys (omega arith)) ∙ rest)
      ∙ sym (append_assoc (entry_bytes m (bytes (take k xs))) (entries m k bytes n (drop k xs)) (entry_bytes m (bytes ys)))

  count : (xs ys : List A) → length ys ≡ k → length (xs ++ ys) / k ≡ suc (length xs / k)
  count xs ys h = ap (λ n. n / k) (length-append xs ys ∙ ap (λ n. length xs + n) h) ∙ add-div_right (length xs) positive ∙ add-one (length xs / k)

  one_more : (xs ys : List A) → length xs % k ≡ 0 → length ys ≡ k → entries m k bytes (length (xs ++ ys) / k) (xs ++ ys) ≡ entries m k bytes (length xs / k) xs ++ entry_bytes m (bytes ys)
  one_more xs ys e h = ap (λ n. entries m k bytes n (xs ++ ys)) (count xs ys h) ∙ append_entry (length xs / k) xs ys (omega (arith, div-add-mod (length xs) k)) h

-- ---- elements with groups among them; n elements stand before these
module _ (n b : ℕ) (xs : List ℕ) (eights : length xs % 8 ≡ 0) (low : n ≤ b) (high : b ≤ n + length xs / 8) where
  -- those before a group that has b before it
  in_run : 8 * (b - n) ≤ length xs
  in_run = omega arith

  rest_eights : length (drop (8 * (b - n)) xs) % 8 ≡ 0
  rest_eights = simp length-drop (omega arith)

  rest_count : b + length (drop (8 * (b - n)) xs) / 8 ≡ n + length xs / 8
  rest_count = simp length-drop (omega arith)

grouped_element : (n top : ℕ) (gs : List Group) (xs ys : List ℕ) → length xs % 8 ≡ 0 → length ys ≡ 8 → top ≡ n + length xs / 8 → rising n top (offsets_of gs) ≡ true
    → grouped_entries n gs (xs ++ ys) ≡ grouped_entries n gs xs ++ entry_bytes HX (unsigned_bytes ys)
grouped_element n top [] xs ys e h t r = one_more HX 8 (omega arith) unsigned_bytes xs ys e h
grouped_element n top (g ∷ gs) xs ys e h t r =
    let b = g.offset in
    let low : n ≤ b = rising_low n top b (offsets_of gs) r in
    let high : b ≤ n + length xs / 8 = omega (arith, rising_high n top b (offsets_of gs) r) in
    let k = 8 * (b - n) in
    let run = in_run n b xs e low high in
    let rest = grouped_element b top gs (drop k xs) ys (rest_eights n b xs e low high) h (t ∙ sym (rest_count n b xs e low high)) (rising_rest n top b (offsets_of gs) r) in
    ap₂ (λ x y. element_entries x ++ (entry_bytes GR g.name ++ y)) (take-append-le k xs ys run) (ap (grouped_entries b gs) (drop-append-le k xs ys run) ∙ rest)
    ∙ ap (λ l. element_entries (take k xs) ++ l) (sym (append_assoc (entry_bytes GR g.name) (grouped_entries b gs (drop k xs)) (entry_bytes HX (unsigned_bytes ys))))
    ∙ sym (append_assoc (element_entries (take k xs)) (entry_bytes GR g.name ++ grouped_entries b gs (drop k xs)) (entry_bytes HX (unsigned_bytes ys)))

grouped_group : (n top : ℕ) (gs : List Group) (xs name : List ℕ) → length xs % 8 ≡ 0 → top ≡ n + length xs / 8 → rising n top (offsets_of gs) ≡ true
    → grouped_entries n (gs ++ (record { name = name; offset = top } ∷ [])) xs ≡ grouped_entries n gs xs ++ entry_bytes GR name
grouped_group n top [] xs name e t r =
    let all : length xs ≤ 8 * (top - n) = omega arith in
    ap₂ (λ x y. element_entries x ++ (entry_bytes GR name ++ element_entries y)) (take_all (8 * (top - n)) xs all) (drop_of_length-le xs all) ∙ ap (λ l. element_entries xs ++ l) (append_nil (entry_bytes GR name))
grouped_group n top (g ∷ gs) xs name e t r =
    let b = g.offset in
    let low : n ≤ b = rising_low n top b (offsets_of gs) r in
    let high : b ≤ n + length xs / 8 = omega (arith, rising_high n top b (offsets_of gs) r) in
    let k = 8 * (b - n) in
    let rest = grouped_group b top gs (drop k xs) name (rest_eights n b xs e low high) (t ∙ sym (rest_count n b xs e low high)) (rising_rest n top b (offsets_of gs) r) in
    ap (λ y. element_entries (take k xs) ++ (entry_bytes GR g.name ++ y)) rest
    ∙ ap (λ l. element_entries (take k xs) ++ l) (sym (append_assoc (entry_bytes GR g.name) (grouped_entries b gs (drop k xs)) (entry_bytes GR name)))
    ∙ sym (append_assoc (element_entries (take k xs)) (entry_bytes GR g.name ++ grouped_entries b gs (drop k xs)) (entry_bytes GR name))

-- ---- the label, the nodes, the elements and groups of a lot, written out in front of other bytes
abbrev pub front : Lot → List ℕ → List ℕ
front lot rest = entry_bytes LB lot.label ++ (node_entries lot.nodes ++ (grouped_entries 0 lot.groups lot.elements ++ rest))

module _ (lot : Lot) (body rest : List ℕ) where
  pub front_label : lot ≡ no_lot → entry_bytes LB body ++ rest ≡ front (taken LB body lot) rest
  front_label e = ap (λ l. front (taken LB body l) rest) (sym e)

  pub front_node : All Byte body → length body ≡ 12 → length lot.nodes % 3 ≡ 0 → lot.elements ≡ [] → lot.groups ≡ [] → front lot (entry_bytes ND body ++ rest) ≡ front (taken ND body lot) rest
  front_node h l whole e g =
      let more = one_more ND 3 (omega arith) signed_bytes lot.nodes (signeds 3 body) whole refl ∙ ap (λ x. node_entries lot.nodes ++ entry_bytes ND x) (signed_bytes_signeds 3 body h l) in
      rw (e, g, append_nil lot.label) (ap (λ x. entry_bytes LB lot.label ++ x) (sym (ap (λ x. x ++ rest) more ∙ append_assoc (node_entries lot.nodes) (entry_bytes ND body) rest)))

  -- the elements and groups alone
  behind : (m : Mark) (gs : List Group) (xs : List ℕ) → grouped_entries 0 gs xs ≡ grouped_entries 0 lot.groups lot.elements ++ entry_bytes m body
      → front lot (entry_bytes m body ++ rest) ≡ front (record { label = lot.label; nodes = lot.nodes; elements = xs; groups = gs }) rest
  behind m gs xs e = ap (λ x. entry_bytes LB lot.label ++ (node_entries lot.nodes ++ x)) (sym (ap (λ x. x ++ rest) e ∙ append_assoc (grouped_entries 0 lot.groups lot.elements) (entry_bytes m body) rest))

  pub front_element : All Byte body → length body ≡ 32 → length lot.elements % 8 ≡ 0 → rising 0 (length lot.elements / 8) (offsets_of lot.groups) ≡ true
      → front lot (entry_bytes HX body ++ rest) ≡ front (taken HX body lot) rest
  front_element h l whole r =
      let top : length lot.elements / 8 ≡ 0 + length lot.elements / 8 = omega arith in
      let more = grouped_element 0 (length lot.elements / 8) lot.groups lot.elements (unsigneds 8 body) whole refl top r
      ∙ ap (λ x. grouped_entries 0 lot.groups lot.elements ++ entry_bytes HX x) (unsigned_bytes_unsigneds 8 body h l) in
      rw (append_nil lot.label, append_nil lot.nodes, append_nil lot.groups) (behind HX lot.groups (lot.elements ++ unsigneds 8 body) more)

  pub front_group : length lot.elements % 8 ≡ 0 → rising 0 (length lot.elements / 8) (offsets_of lot.groups) ≡ true → front lot (entry_bytes GR body ++ rest) ≡ front (taken GR body lot) rest
  front_group whole r =
      let top : length lot.elements / 8 ≡ 0 + length lot.elements / 8 = omega arith in
      let more = grouped_group 0 (length lot.elements / 8) lot.groups lot.elements body whole top r in
      rw (append_nil lot.label, append_nil lot.nodes, append_nil lot.elements) (behind GR (lot.groups ++ (record { name = body; offset = length lot.elements / 8 } ∷ [])) lot.elements more)

  pub front_end : length body ≡ 0 → front lot (entry_bytes EN body ++ rest) ≡ front (taken EN body lot) (entry_bytes EN [] ++ rest)
  front_end l = ap₂ (λ b l. front l (entry_bytes EN b ++ rest)) (empty body l) (sym (joined_none lot))
    where
      empty : (xs : List ℕ) → length xs ≡ 0 → xs ≡ []
      empty [] l = refl
      empty (x ∷ xs) l = absurd (omega arith)
