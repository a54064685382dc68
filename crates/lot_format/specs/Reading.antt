-- Document 02, No. 1 and No. 2: what reading a lot file finds. Every list of bytes has exactly one answer.
use Rattle.std.specs.Prelude.{Bool, true, false, ◌&&◌, List, [], ◌∷◌, ◌++◌, ℕ, zero, suc, ◌+◌, ◌/◌, leb, ltb, get_or, length, take, drop, ℤ}
use Rattle.std.proofs.Math.Option.{Option, none, some}
use Rattle.lot_format.specs.Numbers.{number, unsigneds, signeds}
use Rattle.lot_format.specs.Runs.{Runs, runs_of}
use Rattle.lot_format.specs.Format.{FileLimits, Lot, Mark, LB, ND, HX, GR, EN, mark_of, right_length, Stage, at_label, at_nodes, at_elements, at_end, in_place, stage_after, name_bytes}

pub data Unreadable : Type 0 where
  too_long : Unreadable
  cut_short : Unreadable
  unknown_mark : Unreadable
  wrong_length : Unreadable
  out_of_place : Unreadable
  bad_byte : Unreadable
  too_many_elements : Unreadable
  no_room : Unreadable

abbrev pub unreadable_number : Unreadable → ℕ
unreadable_number too_long = 20
unreadable_number cut_short = 21
unreadable_number unknown_mark = 22
unreadable_number wrong_length = 23
unreadable_number out_of_place = 24
unreadable_number bad_byte = 25
unreadable_number too_many_elements = 26
unreadable_number no_room = 27

-- 01: "A label or name is 0 to 32 bytes, each 32..126": a wrong byte
abbrev pub name_fault : List ℕ → Option Unreadable
name_fault name = elim (name_bytes name) [ true ↦ none | false ↦ some bad_byte ]

-- "label byte 25; a 1,001st element 26": the fault of a whole entry, where so many elements stand before it
abbrev pub body_fault : FileLimits → Mark → ℕ → List ℕ → Option Unreadable
body_fault F LB n body = name_fault body
body_fault F ND n body = none
body_fault F HX n body = elim (ltb n F.elements) [ true ↦ none | false ↦ some too_many_elements ]
body_fault F GR n body = name_fault body
body_fault F EN n body = none

-- What stands first in the bytes that are left: a fault, or a whole entry, by its mark and its body.
pub data Entry : Type 0 where
  faulty_entry : Unreadable → Entry
  whole_entry : Mark → List ℕ → Entry

-- "body cut short 21; label byte 25; a 1,001st element 26": an entry whose mark and length are right
unfoldable pub body_of : FileLimits → Mark → ℕ → ℕ → List ℕ → Entry
body_of F m n len rest =
    elim (ltb (length rest) len) [
      | true ↦ faulty_entry cut_short
      | false ↦ elim (body_fault F m n (take len rest)) [ some r ↦ faulty_entry r | none ↦ whole_entry m (take len rest) ]
    ]

-- "mark out of place 24; wrong length 23": an entry whose mark is known
unfoldable pub known_of : FileLimits → Stage → Mark → ℕ → List ℕ → Entry
known_of F stage m n bytes =
    elim (in_place stage m) [
      | false ↦ faulty_entry out_of_place
      | true ↦
          elim (right_length F m (number (take 2 (drop 2 bytes)))) [ false ↦ faulty_entry wrong_length | true ↦ body_of F m n (number (take 2 (drop 2 bytes))) (drop 4 bytes) ]
    ]

-- "fewer than four bytes left 21; unknown mark 22"
unfoldable pub entry_of : FileLimits → Stage → ℕ → List ℕ → Entry
entry_of F stage n bytes =
    elim (ltb (length bytes) 4) [
      | true ↦ faulty_entry cut_short
      | false ↦ elim (mark_of (get_or bytes 0 0) (get_or bytes 1 0)) [ none ↦ faulty_entry unknown_mark | some m ↦ known_of F stage m n bytes ]
    ]

abbrev pub no_lot : Lot
no_lot = record { label = []; nodes = []; elements = []; groups = [] }

-- what one entry holds, where so many elements stand before it
abbrev pub contents : Mark → List ℕ → ℕ → Lot
contents LB body n = record { label = body; nodes = []; elements = []; groups = [] }
contents ND body n = record { label = []; nodes = signeds 3 body; elements = []; groups = [] }
contents HX body n = record { label = []; nodes = []; elements = unsigneds 8 body; groups = [] }
contents GR body n = record { label = []; nodes = []; elements = []; groups = record { name = body; offset = n } ∷ [] }
contents EN body n = no_lot

-- a lot with what another holds behind it, and so a lot with one entry more
abbrev pub joined : Lot → Lot → Lot
joined a b = record { label = a.label ++ b.label; nodes = a.nodes ++ b.nodes; elements = a.elements ++ b.elements; groups = a.groups ++ b.groups }

abbrev pub taken : Mark → List ℕ → Lot → Lot
taken m body lot = joined lot (contents m body (length lot.elements / 8))

-- The answer: the lot, or why it is refused.
pub data Reading : Type 0 where
  readable : Lot → Reading
  unreadable : Unreadable → Reading

-- "Bytes after EN, whatever they are, are 24."
abbrev pub ending : Lot → List ℕ → Reading
ending lot [] = readable lot
ending lot (b ∷ bs) = unreadable out_of_place

abbrev pub has_ended : Stage → Bool
has_ended at_label = false
has_ended at_nodes = false
has_ended at_elements = false
has_ended at_end = true

-- Entry by entry, "the first fault decides", from a stage on, with the lot so far and the bytes that are left.
-- The number falls at each entry; each takes four bytes at least, so one more than there are bytes is enough.
unfoldable pub read_from : FileLimits → ℕ → Stage → Lot → List ℕ → Reading
read_from F zero stage lot bytes = unreadable cut_short
read_from F (suc k) stage lot bytes =
    elim (has_ended stage) [
      | true ↦ ending lot bytes
      | false ↦
          elim (entry_of F stage (length lot.elements / 8) bytes) [
            | faulty_entry r ↦ unreadable r
            | whole_entry m body ↦ read_from F k (stage_after m) (taken m body lot) (drop (4 + length body) bytes)
          ]
    ]

-- "20 file too long, tested first."
unfoldable pub read_lot : FileLimits → List ℕ → Reading
read_lot F file = elim (ltb F.bytes (length file)) [ true ↦ unreadable too_long | false ↦ read_from F (suc (length file)) at_label no_lot file ]

-- "A lot without fault whose nodes or elements don't fit the lent space is 27", and No. 2: "its 27 counts groups too". The lengths of the lent runs.
pub record Room : Type 0 where
  pub nodes : ℕ
  pub elements : ℕ
  pub names : ℕ
  pub lengths : ℕ
  pub offsets : ℕ

abbrev pub room_for : Runs → Room → Bool
room_for x room =
    leb (length x.nodes) room.nodes
    && (leb (length x.elements) room.elements
    && (leb (length x.names) room.names && (leb (length x.lengths) room.lengths && leb (length x.offsets) room.offsets)))

unfoldable pub reading : FileLimits → List ℕ → Room → Reading
reading F file room = elim (read_lot F file) [
  | unreadable r ↦ unreadable r
  | readable lot ↦ elim (room_for (runs_of lot) room) [ true ↦ readable lot | false ↦ unreadable no_room ]
]

-- the same by the lent runs themselves
abbrev pub read_into : FileLimits → List ℕ → List ℤ → List ℕ → List ℕ → List ℕ → List ℕ → Reading
read_into F file nodes elements names lengths offsets =
    reading F file (record { nodes = length nodes; elements = length elements; names = length names; lengths = length lengths; offsets = length offsets })

-- ---- what is handed out: "Nothing of a refused lot is handed out"
abbrev pub lot_of : Reading → Lot
lot_of (readable lot) = lot
lot_of (unreadable r) = no_lot

abbrev pub handed_out : Reading → Runs
handed_out r = runs_of (lot_of r)

-- where in the file the label starts: behind the four bytes of its mark and length
abbrev pub label_place : Reading → ℕ
label_place (readable lot) = 4
label_place (unreadable r) = 0

-- the number 0 with the counts of nodes, elements, groups and bytes of their names, or the refusal's number with counts 0
abbrev pub reading_number : Reading → ℕ
reading_number (readable lot) = 0
reading_number (unreadable r) = unreadable_number r

unfoldable pub reading_numbers : Reading → List ℕ
reading_numbers r =
    reading_number r ∷
    length (handed_out r).nodes / 3 ∷
    length (handed_out r).elements / 8 ∷
    length (handed_out r).lengths ∷
    length (handed_out r).names ∷ []
