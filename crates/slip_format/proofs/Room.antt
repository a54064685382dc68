-- Document 02, No. 2: "The program never lacks room." How long the lines of a slip are, and that a slip has room in `slip_bytes`.
use Rattle.std.proofs.Common.{sym, subst, mul-suc, arith, length-append, length-take, take-append-drop}
use Rattle.std.specs.Prelude.{Bool, true, false, List, [], ◌∷◌, ◌++◌, map, ℕ, zero, suc, ◌+◌, ◌*◌, ◌^◌, ◌<◌, ◌≤◌, leb, length, take, drop, ℤ}
use Rattle.std.proofs.lemmas.List.{length-map}
use Rattle.std.specs.Int.Signed.{mag}
use Rattle.foundation.specs.Words.{signed_limit}
use Rattle.foundation.specs.Lists.{All, all_left, all_right, all_map, all_image, concat_map}
use Rattle.definitions.specs.Limits.{record_words}
use Rattle.definitions.specs.Mesh.{Counts, Stamp, sound, faulty, «open», stamp_of}
use Rattle.lot_format.specs.Format.{Group}
use Rattle.lot_format.specs.Naming.{name_in_force, is_empty, name_of}
use Rattle.slip_format.specs.Decimal.{decimal, signed_decimal}
use Rattle.slip_format.proofs.DecimalLaws.{decimal_short, decimal_32, signed_length}
use Rattle.slip_format.specs.Slip.{slip_limits, slip_bytes, line, word_lot, word_tally, word_stamp, word_refused, stamp_word, element_line, element_lines, tally_line, refused_line, inspected_slip}

-- a name of at most 32 bytes, and a word that 64 bits hold
abbrev pub Short : List ℕ → Type 0
Short name = length name ≤ 32

abbrev pub Held : ℤ → Type 0
Held z = mag z < signed_limit

-- ---- words behind spaces
words_length : (m : ℕ) (ws : List (List ℕ)) → All (λ w. length w ≤ m) ws → length (concat_map (λ (w : List ℕ). 32 ∷ w) ws) ≤ suc m * length ws
words_length m [] h = omega arith
words_length m (w ∷ ws) h = simp length-append (omega (arith, h.0, words_length m ws h.1, mul-suc (suc m) (length ws)))

line_length : (m : ℕ) (first : List ℕ) (ws : List (List ℕ)) → All (λ w. length w ≤ m) ws → length (line first ws) ≤ length first + suc m * length ws + 1
line_length m first ws h = simp length-append (omega (arith, words_length m ws h))

-- ---- the name that an element bears
name_in_force_short : (name : List ℕ) (gs : List Group) (e : ℕ) → Short name → All (λ g. Short g.name) gs → Short (name_in_force name gs e)
name_in_force_short name [] e h k = h
name_in_force_short name (g ∷ gs) e h k = go (leb g.offset e) (name_in_force_short g.name gs e k.0 k.1) (name_in_force_short name gs e h k.1)
  where
    go : (b : Bool) → Short (name_in_force g.name gs e) → Short (name_in_force name gs e) → Short (elim b [ true ↦ name_in_force g.name gs e | false ↦ name_in_force name gs e ])
    go true p q = p
    go false p q = q

pub name_short : (label : List ℕ) (gs : List Group) (e : ℕ) → Short label → All (λ g. Short g.name) gs → Short (name_of label gs e)
name_short label gs e h k = go (is_empty (name_in_force [] gs e)) (name_in_force_short [] gs e (omega arith) k)
  where
    go : (b : Bool) → Short (name_in_force [] gs e) → Short (elim b [ true ↦ label | false ↦ name_in_force [] gs e ])
    go true p = h
    go false p = p

-- ---- the lines
held_words : (ws : List ℤ) → All Held ws → All (λ w. length w ≤ 20) (map signed_decimal ws)
held_words ws h = all_image (λ w. length w ≤ 20) signed_decimal ws (all_map Held (λ z. length (signed_decimal z) ≤ 20) signed_length ws h)

module _ (label : List ℕ) (gs : List Group) (short : Short label) (shorts : All (λ g. Short g.name) gs) where
  pub element_line_length : (e : ℕ) (ws : List ℤ) → e < slip_limits.elements → length ws ≤ record_words → All Held ws → length (element_line label gs e ws) ≤ 227
  element_line_length e ws few nine h =
      let number = decimal_short (suc e) (omega arith) in
      let name = name_short label gs e short shorts in
      let words = words_length 20 (map signed_decimal ws) (held_words ws h) in
      simp length-append (omega (arith, length-map ws signed_decimal))

  pub element_lines_length : (e n : ℕ) (ws : List ℤ) → e + n ≤ slip_limits.elements → All Held ws → length (element_lines label gs record_words e n ws) ≤ 227 * n
  element_lines_length e zero ws few h = omega arith
  element_lines_length e (suc n) ws few h =
      let both : All Held (take record_words ws ++ drop record_words ws) = subst (All Held) (sym (take-append-drop record_words ws)) h in
      let one = element_line_length e (take record_words ws) (omega arith) (simp length-take (omega arith)) (all_left Held (take record_words ws) (drop record_words ws) both) in
      let rest = element_lines_length (suc e) n (drop record_words ws) (omega arith) (all_right Held (take record_words ws) (drop record_words ws) both) in
      rw length-append (omega arith)

-- the counts are numbers of 32 bits
pub record Counted (n : Counts) : Type 0 where
  pub valid : n.valid < 2 ^ 32
  pub invalid : n.invalid < 2 ^ 32
  pub undecided : n.undecided < 2 ^ 32
  pub refused : n.refused < 2 ^ 32

pub tally_length : (n : Counts) → Counted n → length (tally_line n) ≤ 50
tally_length n h = line_length 10 word_tally (map decimal (n.valid ∷ n.invalid ∷ n.undecided ∷ n.refused ∷ [])) (decimal_32 _ h.valid, (decimal_32 _ h.invalid, (decimal_32 _ h.undecided, (decimal_32 _ h.refused, tt))))

pub stamp_length : (s : Stamp) → length (line word_stamp (stamp_word s ∷ [])) ≤ 13
stamp_length sound = omega arith
stamp_length faulty = omega arith
stamp_length «open» = omega arith

pub refused_length : (n : ℕ) → n < 2 ^ 32 → length (refused_line n) ≤ 19
refused_length n h = line_length 10 word_refused (decimal n ∷ []) (decimal_32 n h, tt)

-- ---- the slip of an inspected lot
module _ (label : List ℕ) (gs : List Group) (n : ℕ) (ws : List ℤ) (counts : Counts) where
  pub record Printable : Type 0 where
    pub label_short : Short label
    pub names_short : All (λ g. Short g.name) gs
    pub elements_few : n ≤ slip_limits.elements
    pub words_held : All Held ws
    pub counts_held_law : Counted counts

  pub inspected_length : Printable → length (inspected_slip label gs record_words n ws counts) ≤ slip_bytes
  inspected_length h =
      let first = line_length 32 word_lot (label ∷ []) (h.label_short, tt) in
      let lines = element_lines_length label gs h.label_short h.names_short 0 n ws (omega (arith, h.elements_few)) h.words_held in
      let tally = tally_length counts h.counts_held_law in
      let stamp = stamp_length (stamp_of counts) in
      rw (length-append (line word_lot (label ∷ [])), length-append (element_lines label gs record_words 0 n ws), length-append (tally_line counts)) (omega (arith, h.elements_few))
