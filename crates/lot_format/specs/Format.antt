-- Document 02, No. 1 and No. 2: the records of a lot file, their order, and the file that a lot is written out as.
-- A record of a file is called an entry here: a record is what a report has for an element.
use Rattle.std.specs.Prelude.{Bool, true, false, ◌&&◌, List, [], ◌∷◌, ◌++◌, ℕ, zero, suc, ◌-◌, ◌*◌, ◌/◌, eqb, leb, get_or, length, take, drop, ℤ}
use Rattle.std.proofs.Math.Option.{Option, none, some}
use Rattle.definitions.specs.Limits.{base}
use Rattle.lot_format.specs.Numbers.{number_bytes, unsigned_bytes, signed_bytes}

-- "one file of at most 65,536 bytes"; 01, "A label or name is 0 to 32 bytes"; 01, "at most 1,000 elements"
pub record FileLimits : Type 0 where
  pub bytes : ℕ
  pub name : ℕ
  pub elements : ℕ

abbrev pub lot_file : FileLimits
lot_file = record { bytes = 65536; name = 32; elements = base.elements }

-- No. 2: "GR, a group name, allowed anywhere among the elements, in force until the next one". A group: its name and the count of elements before it.
pub record Group : Type 0 where
  pub name : List ℕ
  pub offset : ℕ

-- What a lot holds: its label, three coordinates a node, eight indices an element, and its groups.
pub record Lot : Type 0 where
  pub label : List ℕ
  pub nodes : List ℤ
  pub elements : List ℕ
  pub groups : List Group

-- "Each record has a two-byte mark, a two-byte length and a body: LB, the label; ND, a node, three signed 32-bit; HX, an element, eight unsigned 32-bit; EN, empty."
pub data Mark : Type 0 where
  LB : Mark
  ND : Mark
  HX : Mark
  GR : Mark
  EN : Mark

-- the two bytes of a mark
abbrev pub letters : Mark → List ℕ
letters LB = 76 ∷ 66 ∷ []
letters ND = 78 ∷ 68 ∷ []
letters HX = 72 ∷ 88 ∷ []
letters GR = 71 ∷ 82 ∷ []
letters EN = 69 ∷ 78 ∷ []

abbrev pub is_mark : Mark → ℕ → ℕ → Bool
is_mark m a b = eqb a (get_or (letters m) 0 0) && eqb b (get_or (letters m) 1 0)

unfoldable pub mark_of : ℕ → ℕ → Option Mark
mark_of a b =
    elim (is_mark LB a b) [
      | true ↦ some LB
      | false ↦
          elim (is_mark ND a b) [
            | true ↦ some ND
            | false ↦
                elim (is_mark HX a b) [
                  | true ↦ some HX
                  | false ↦ elim (is_mark GR a b) [ true ↦ some GR | false ↦ elim (is_mark EN a b) [ true ↦ some EN | false ↦ none ] ]
                ]
          ]
    ]

-- the length of a body
abbrev pub right_length : FileLimits → Mark → ℕ → Bool
right_length F LB n = leb n F.name
right_length F ND n = eqb n 12
right_length F HX n = eqb n 32
right_length F GR n = leb n F.name
right_length F EN n = eqb n 0

-- "Order: one LB, any ND, any HX, one EN, nothing more", and No. 2: "No. 1's order gains GR after the nodes".
-- A stage, by what was read last: nothing; the label or a node; an element or a group; the end.
pub data Stage : Type 0 where
  at_label : Stage
  at_nodes : Stage
  at_elements : Stage
  at_end : Stage

-- the marks that are in place at a stage, and the stage after a mark
abbrev pub in_place : Stage → Mark → Bool
in_place at_label LB = true
in_place at_label ND = false
in_place at_label HX = false
in_place at_label GR = false
in_place at_label EN = false
in_place at_nodes LB = false
in_place at_nodes ND = true
in_place at_nodes HX = true
in_place at_nodes GR = true
in_place at_nodes EN = true
in_place at_elements LB = false
in_place at_elements ND = false
in_place at_elements HX = true
in_place at_elements GR = true
in_place at_elements EN = true
in_place at_end m = false

abbrev pub stage_after : Mark → Stage
stage_after LB = at_nodes
stage_after ND = at_nodes
stage_after HX = at_elements
stage_after GR = at_elements
stage_after EN = at_end

-- "each 32..126"
abbrev pub name_byte : ℕ → Bool
name_byte b = leb 32 b && leb b 126

abbrev pub name_bytes : List ℕ → Bool
name_bytes [] = true
name_bytes (b ∷ bs) = elim (name_byte b) [ true ↦ name_bytes bs | false ↦ false ]

-- ---- writing out
abbrev pub entry_bytes : Mark → List ℕ → List ℕ
entry_bytes m body = letters m ++ (number_bytes 2 (length body) ++ body)

-- n entries of one mark, each with the bytes of the next k numbers
abbrev pub entries : {A : Type 0} → Mark → ℕ → (List A → List ℕ) → ℕ → List A → List ℕ
entries m k bytes zero xs = []
entries m k bytes (suc n) xs = entry_bytes m (bytes (take k xs)) ++ entries m k bytes n (drop k xs)

abbrev pub node_entries : List ℤ → List ℕ
node_entries xs = entries ND 3 signed_bytes (length xs / 3) xs

abbrev pub element_entries : List ℕ → List ℕ
element_entries xs = entries HX 8 unsigned_bytes (length xs / 8) xs

-- the elements with the groups among them, where n elements stand before these: before each group those that it counts, then its name
abbrev pub grouped_entries : ℕ → List Group → List ℕ → List ℕ
grouped_entries n [] xs = element_entries xs
grouped_entries n (g ∷ gs) xs = element_entries (take (8 * (g.offset - n)) xs) ++ (entry_bytes GR g.name ++ grouped_entries g.offset gs (drop (8 * (g.offset - n)) xs))

unfoldable pub written : Lot → List ℕ
written lot = entry_bytes LB lot.label ++ (node_entries lot.nodes ++ (grouped_entries 0 lot.groups lot.elements ++ entry_bytes EN []))
