-- A small lot file without groups and one with, and what is done to them to meet each refusal, as a single list under one claim.
use Rattle.std.specs.Prelude.{◌≡◌, refl, List, [], ◌∷◌, ◌++◌, ℕ, length, take, drop, pos, negsuc}
use Rattle.foundation.specs.Lists.{All}
use Rattle.lot_format.specs.Numbers.{signed}
use Rattle.lot_format.specs.Format.{FileLimits, lot_file, Lot, mark_of, written}
use Rattle.lot_format.specs.Reading.{too_long, cut_short, unknown_mark, wrong_length, out_of_place, bad_byte, too_many_elements, no_room, body_of, known_of, entry_of, Reading, readable, unreadable, read_from, read_lot, Room, reading}

-- "CUBE", the node (1, −1, −2,147,483,648), and an element; its last two indices are 256 and 4,294,967,295
abbrev pub label_entry : List ℕ
label_entry = 76 ∷ 66 ∷ 4 ∷ 0 ∷ 67 ∷ 85 ∷ 66 ∷ 69 ∷ []

abbrev pub node_entry : List ℕ
node_entry = 78 ∷ 68 ∷ 12 ∷ 0 ∷ 1 ∷ 0 ∷ 0 ∷ 0 ∷ 255 ∷ 255 ∷ 255 ∷ 255 ∷ 0 ∷ 0 ∷ 0 ∷ 128 ∷ []

abbrev pub element_entry : List ℕ
element_entry = 72 ∷ 88 ∷ 32 ∷ 0 ∷ 0 ∷ 0 ∷ 0 ∷ 0 ∷ 1 ∷ 0 ∷ 0 ∷ 0 ∷ 2 ∷ 0 ∷ 0 ∷ 0 ∷ 3 ∷ 0 ∷ 0 ∷ 0 ∷ 4 ∷ 0 ∷ 0 ∷ 0 ∷ 5 ∷ 0 ∷ 0 ∷ 0 ∷ 0 ∷ 1 ∷ 0 ∷ 0 ∷ 255 ∷ 255 ∷ 255 ∷ 255 ∷ []

abbrev pub end_entry : List ℕ
end_entry = 69 ∷ 78 ∷ 0 ∷ 0 ∷ []

abbrev pub sample : Lot
sample = record { label = 67 ∷ 85 ∷ 66 ∷ 69 ∷ []; nodes = pos 1 ∷ negsuc 0 ∷ negsuc 2147483647 ∷ []; elements = 0 ∷ 1 ∷ 2 ∷ 3 ∷ 4 ∷ 5 ∷ 256 ∷ 4294967295 ∷ []; groups = [] }

abbrev pub sample_file : List ℕ
sample_file = label_entry ++ (node_entry ++ (element_entry ++ end_entry))

-- the element twice, with groups before it, between the two (two of them) and behind; the first and the third have an empty name
abbrev pub group_entry : List ℕ → List ℕ
group_entry name = 71 ∷ 82 ∷ length name ∷ 0 ∷ name

abbrev pub grouped : Lot
grouped = record {
  label = sample.label;
  nodes = sample.nodes;
  elements = sample.elements ++ sample.elements;
  groups = record { name = []; offset = 0 } ∷ record { name = 65 ∷ []; offset = 1 } ∷ record { name = []; offset = 1 } ∷ record { name = 90 ∷ 122 ∷ []; offset = 2 } ∷ [];
}

abbrev pub grouped_file : List ℕ
grouped_file = label_entry ++ (node_entry ++ (group_entry [] ++ (element_entry ++ (group_entry (65 ∷ []) ++ (group_entry [] ++ (element_entry ++ (group_entry (90 ∷ 122 ∷ []) ++ end_entry)))))))

pub sample_written : written sample ≡ sample_file
unfolding written
sample_written = refl

pub grouped_written : written grouped ≡ grouped_file
unfolding written
grouped_written = refl

-- a file, the limits, the lengths of the lent runs, and the answer
pub record Example : Type 0 where
  pub limits : FileLimits
  pub file : List ℕ
  pub room : Room
  pub answer : Reading

abbrev space : ℕ → ℕ → ℕ → ℕ → ℕ → Room
space nodes elements names lengths offsets = record { nodes = nodes; elements = elements; names = names; lengths = lengths; offsets = offsets }

abbrev read : List ℕ → Reading → Example
read file answer = record { limits = lot_file; file = file; room = space 3 8 0 0 0; answer = answer }

-- with room for so much, and with other limits
abbrev roomy : List ℕ → Room → Reading → Example
roomy file room answer = record { limits = lot_file; file = file; room = room; answer = answer }

abbrev limited : ℕ → ℕ → ℕ → Reading → Example
limited bytes name elements answer = record { limits = record { bytes = bytes; name = name; elements = elements }; file = sample_file; room = space 3 8 0 0 0; answer = answer }

abbrev pub examples : List Example
examples =
    read sample_file (readable sample) ∷
    read ([]) (unreadable cut_short) ∷
    read (take 3 sample_file) (unreadable cut_short) ∷
    read (take 6 sample_file) (unreadable cut_short) ∷
    read (take 60 sample_file) (unreadable cut_short) ∷
    read (88 ∷ drop 1 sample_file) (unreadable unknown_mark) ∷
    read (label_entry ++ (78 ∷ 67 ∷ 11 ∷ 0 ∷ [])) (unreadable unknown_mark) ∷
    read (node_entry ++ (label_entry ++ end_entry)) (unreadable out_of_place) ∷
    read (label_entry ++ label_entry) (unreadable out_of_place) ∷
    read (label_entry ++ (element_entry ++ (node_entry ++ end_entry))) (unreadable out_of_place) ∷
    read (78 ∷ 68 ∷ 11 ∷ 0 ∷ []) (unreadable out_of_place) ∷
    read (end_entry) (unreadable out_of_place) ∷
    read (sample_file ++ (0 ∷ [])) (unreadable out_of_place) ∷
    read (76 ∷ 66 ∷ 33 ∷ 0 ∷ []) (unreadable wrong_length) ∷
    read (76 ∷ 66 ∷ 0 ∷ 1 ∷ []) (unreadable wrong_length) ∷
    read (label_entry ++ (78 ∷ 68 ∷ 11 ∷ 0 ∷ [])) (unreadable wrong_length) ∷
    read (label_entry ++ (72 ∷ 88 ∷ 12 ∷ 0 ∷ [])) (unreadable wrong_length) ∷
    read (label_entry ++ (69 ∷ 78 ∷ 1 ∷ 0 ∷ 0 ∷ [])) (unreadable wrong_length) ∷
    read (76 ∷ 66 ∷ 1 ∷ 0 ∷ 31 ∷ []) (unreadable bad_byte) ∷
    read (76 ∷ 66 ∷ 1 ∷ 0 ∷ 127 ∷ []) (unreadable bad_byte) ∷
    read (76 ∷ 66 ∷ 2 ∷ 0 ∷ 32 ∷ 126 ∷ end_entry) (readable (record { label = 32 ∷ 126 ∷ []; nodes = []; elements = []; groups = [] })) ∷
    read (76 ∷ 66 ∷ 2 ∷ 0 ∷ 31 ∷ []) (unreadable cut_short) ∷
    read (node_entry ++ (1 ∷ [])) (unreadable out_of_place) ∷
    read (label_entry ++ (end_entry ++ (0 ∷ []))) (unreadable out_of_place) ∷
    limited 64 4 1 (readable sample) ∷
    limited 63 4 1 (unreadable too_long) ∷
    limited 64 3 1 (unreadable wrong_length) ∷
    limited 64 4 0 (unreadable too_many_elements) ∷
    record { limits = record { bytes = 3; name = 4; elements = 1 }; file = 0 ∷ 0 ∷ 0 ∷ 0 ∷ []; room = space 3 8 0 0 0; answer = unreadable too_long } ∷
    record { limits = record { bytes = 64; name = 4; elements = 0 }; file = take 59 sample_file; room = space 0 0 0 0 0; answer = unreadable cut_short } ∷
    roomy (sample_file ++ (0 ∷ [])) (space 0 0 0 0 0) (unreadable out_of_place) ∷
    roomy sample_file (space 2 8 0 0 0) (unreadable no_room) ∷
    roomy sample_file (space 3 7 0 0 0) (unreadable no_room) ∷
    roomy sample_file (space 5000 9 1 1 1) (readable sample) ∷
    roomy grouped_file (space 3 16 3 4 4) (readable grouped) ∷
    roomy grouped_file (space 3 16 2 4 4) (unreadable no_room) ∷
    roomy grouped_file (space 3 16 3 3 4) (unreadable no_room) ∷
    roomy grouped_file (space 3 16 3 4 3) (unreadable no_room) ∷
    read (group_entry [] ++ label_entry) (unreadable out_of_place) ∷
    read (label_entry ++ (group_entry [] ++ (node_entry ++ end_entry))) (unreadable out_of_place) ∷
    read (label_entry ++ (71 ∷ 82 ∷ 33 ∷ 0 ∷ [])) (unreadable wrong_length) ∷
    read (label_entry ++ (71 ∷ 82 ∷ 2 ∷ 0 ∷ 31 ∷ [])) (unreadable cut_short) ∷
    read (label_entry ++ group_entry (127 ∷ [])) (unreadable bad_byte) ∷
    read (label_entry ++ (71 ∷ 83 ∷ 0 ∷ 0 ∷ [])) (unreadable unknown_mark) ∷ []

-- The one claim.
abbrev pub Holds : Example → Type 0
Holds e = reading e.limits e.file e.room ≡ e.answer

pub examples_hold : All Holds examples
unfolding signed mark_of body_of known_of entry_of read_from read_lot reading
examples_hold = (refl, (refl, (refl, (refl, (refl, (refl, (refl, (refl, (refl, (refl, (refl, (refl, (refl, (refl, (refl, (refl, (refl, (refl, (refl, (refl, (refl, (refl, (refl, (refl, (refl, (refl, (refl, (refl, (refl, (refl, (refl, (refl, (refl, (refl, (refl, (refl, (refl, (refl, (refl, (refl, (refl, (refl, (refl, (refl, tt))))))))))))))))))))))))))))))))))))))))))))
