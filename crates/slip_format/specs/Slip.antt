-- Document 02, No. 2 and No. 8: the printed slip of a lot.
use Rattle.std.specs.Prelude.{Bool, true, false, List, [], ◌∷◌, ◌++◌, map, ℕ, zero, suc, ◌*◌, ◌/◌, leb, length, take, drop, ℤ}
use Rattle.foundation.specs.Lists.{concat_map}
use Rattle.definitions.specs.Limits.{Limits, record_words}
use Rattle.definitions.specs.Mesh.{Counts, mesh_accepted, mesh_refused, inspection, report, Stamp, sound, faulty, «open», stamp_of, mesh_refusal_number}
use Rattle.lot_format.specs.Format.{FileLimits, Lot, Group}
use Rattle.lot_format.specs.Reading.{unreadable_number, too_many_elements, readable, unreadable, read_lot}
use Rattle.lot_format.specs.Naming.{name_of}
use Rattle.slip_format.specs.Decimal.{decimal, signed_decimal}

-- what a slip keeps to: the depth at which its mesh is inspected, and the most elements that it prints
pub record SlipLimits : Type 0 where
  pub depth : ℕ
  pub elements : ℕ

-- "inspects at depth 3 and prints"; No. 8: "a program holding a report keeps to 900 elements"
abbrev pub slip_limits : SlipLimits
slip_limits = record { depth = 3; elements = 900 }

-- the bytes in which every slip has room
abbrev pub slip_bytes : ℕ
slip_bytes = 262144

-- 01: "Every printed line, the last included, ends in one line feed." A word, and each other one behind a space, the empty one too.
abbrev pub line : List ℕ → List (List ℕ) → List ℕ
line first rest = first ++ (concat_map (λ (w : List ℕ). 32 ∷ w) rest ++ (10 ∷ []))

-- "lot", "tally", "stamp", "refused", and 02, No. 4: "sound", "faulty", "open"
abbrev pub word_lot : List ℕ
word_lot = 108 ∷ 111 ∷ 116 ∷ []

abbrev pub word_tally : List ℕ
word_tally = 116 ∷ 97 ∷ 108 ∷ 108 ∷ 121 ∷ []

abbrev pub word_stamp : List ℕ
word_stamp = 115 ∷ 116 ∷ 97 ∷ 109 ∷ 112 ∷ []

abbrev pub word_refused : List ℕ
word_refused = 114 ∷ 101 ∷ 102 ∷ 117 ∷ 115 ∷ 101 ∷ 100 ∷ []

abbrev pub stamp_word : Stamp → List ℕ
stamp_word sound = 115 ∷ 111 ∷ 117 ∷ 110 ∷ 100 ∷ []
stamp_word faulty = 102 ∷ 97 ∷ 117 ∷ 108 ∷ 116 ∷ 121 ∷ []
stamp_word «open» = 111 ∷ 112 ∷ 101 ∷ 110 ∷ []

-- "Elements count from 1; an empty name prints as nothing, its spaces kept." No. 8: "the slip prints all nine, each as a signed number"
abbrev pub element_line : List ℕ → List Group → ℕ → List ℤ → List ℕ
element_line label gs e words = line (decimal (suc e)) (name_of label gs e ∷ map signed_decimal words)

-- the lines of n elements, the first of them e, with the words of their records, w each
abbrev pub element_lines : List ℕ → List Group → ℕ → ℕ → ℕ → List ℤ → List ℕ
element_lines label gs w e zero words = []
element_lines label gs w e (suc n) words = element_line label gs e (take w words) ++ element_lines label gs w (suc e) n (drop w words)

abbrev pub tally_line : Counts → List ℕ
tally_line n = line word_tally (map decimal (n.valid ∷ n.invalid ∷ n.undecided ∷ n.refused ∷ []))

-- "A refused lot prints the single line "refused" with a space and its number."
abbrev pub refused_line : ℕ → List ℕ
refused_line n = line word_refused (decimal n ∷ [])

-- the slip of a lot whose mesh was inspected, with the counts, and with w words of the report for each of n elements
abbrev pub inspected_slip : List ℕ → List Group → ℕ → ℕ → List ℤ → Counts → List ℕ
inspected_slip label gs w n words counts =
    line word_lot (label ∷ [])
    ++ (element_lines label gs w 0 n words
    ++ (tally_line counts ++ line word_stamp (stamp_word (stamp_of counts) ∷ [])))

-- the slip of a lot whose elements are few enough; its mesh is inspected with report space of just the right length
unfoldable pub mesh_slip : Limits → ℕ → Lot → List ℕ
mesh_slip L D lot = elim (inspection L lot.nodes lot.elements (record_words * (length lot.elements / 8)) D) [
  | mesh_refused r ↦ refused_line (mesh_refusal_number r)
  | mesh_accepted n ↦ inspected_slip lot.label lot.groups record_words (length lot.elements / 8) (report L lot.nodes lot.elements D) n
]

-- the slip of a lot, by whether its elements are few enough. No. 8: "the slip answers 26 to a longer lot without fault"
abbrev pub slip_if : Bool → List ℕ → List ℕ
slip_if true slip = slip
slip_if false slip = refused_line (unreadable_number too_many_elements)

-- the slip of a lot that was read without fault
unfoldable pub lot_slip : Limits → SlipLimits → Lot → List ℕ
lot_slip L S lot = slip_if (leb (length lot.elements / 8) S.elements) (mesh_slip L S.depth lot)

-- "A small program reads a lot from standard input, inspects at depth 3 and prints." The slip of any run of bytes.
unfoldable pub slip_of : Limits → FileLimits → SlipLimits → List ℕ → List ℕ
slip_of L F S bytes = elim (read_lot F bytes) [ unreadable r ↦ refused_line (unreadable_number r) | readable lot ↦ lot_slip L S lot ]
