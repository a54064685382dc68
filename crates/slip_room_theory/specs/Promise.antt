-- Document 02, No. 2: "The program never lacks room." The slip of any bytes has room in `slip_bytes`.
use Rattle.std.specs.Prelude.{◌≡◌, Bool, List, ℕ, ◌*◌, ◌/◌, ◌^◌, ◌<◌, ◌≤◌}
use Rattle.std.proofs.Math.Path.{refl}
use Rattle.std.proofs.Math.Bool.{true, false}
use Rattle.std.proofs.Math.Option.{Option, none, some}
use Rattle.std.proofs.Common.{arith, leb-true}
use Rattle.std.proofs.Math.Dec.{leb}
use Rattle.std.proofs.Math.ListN.{length}
use Rattle.foundation.specs.Lists.{All, all_map}
use Rattle.definitions.specs.Limits.{record_words, base}
use Rattle.definitions.specs.Mesh.{MeshRefusal, mesh_refusal_number, depth_too_great, bad_coordinates, bad_indices, bad_space, refusal, counts_of, records, report, Inspection, mesh_accepted, mesh_refused, inspection}
use Rattle.verdict_theory.specs.Elements.{mesh_total}
use Rattle.lot_format.specs.Numbers.{Byte}
use Rattle.lot_format.specs.Format.{lot_file, Group, Lot}
use Rattle.lot_format.specs.Reading.{Unreadable, unreadable_number, too_long, cut_short, unknown_mark, wrong_length, out_of_place, bad_byte, too_many_elements, no_room, Reading, readable, unreadable, read_lot}
use Rattle.lot_format.specs.Lawful.{Lawful, LawfulName}
use Rattle.lot_format.proofs.Accepted.{accepted_lawful}
use Rattle.slip_format.specs.Slip.{slip_limits, slip_bytes, refused_line, inspected_slip, mesh_slip, slip_if, lot_slip, slip_of}
use Rattle.slip_format.proofs.Room.{Short, Counted, refused_length, inspected_length}
use Rattle.slip_room_theory.specs.Words.{report_held}

mesh_number : (r : MeshRefusal) → mesh_refusal_number r < 2 ^ 32
mesh_number depth_too_great = omega arith
mesh_number bad_coordinates = omega arith
mesh_number bad_indices = omega arith
mesh_number bad_space = omega arith

lot_number : (r : Unreadable) → unreadable_number r < 2 ^ 32
lot_number too_long = omega arith
lot_number cut_short = omega arith
lot_number unknown_mark = omega arith
lot_number wrong_length = omega arith
lot_number out_of_place = omega arith
lot_number bad_byte = omega arith
lot_number too_many_elements = omega arith
lot_number no_room = omega arith

refused_room : (n : ℕ) → n < 2 ^ 32 → length (refused_line n) ≤ slip_bytes
refused_room n h = let l = refused_length n h in omega arith

module _ (lot : Lot) (lawful : Lawful lot_file lot) where
  abbrev number : ℕ
  number = length lot.elements / 8

  few_counted : Counted (counts_of (records base lot.nodes lot.elements slip_limits.depth))
  few_counted =
      let total = mesh_total base lot.nodes lot.elements slip_limits.depth in
      let few = lawful.elements.few in
      record { valid = omega arith; invalid = omega arith; undecided = omega arith; refused = omega arith }

  abbrev slip_by : Inspection → List ℕ
  slip_by x = elim x [ mesh_refused r ↦ refused_line (mesh_refusal_number r) | mesh_accepted n ↦ inspected_slip lot.label lot.groups record_words number (report base lot.nodes lot.elements slip_limits.depth) n ]

  mesh_room : number ≤ slip_limits.elements → length (mesh_slip base slip_limits.depth lot) ≤ slip_bytes
  unfolding mesh_slip inspection
  mesh_room few = go (refusal base (length lot.nodes) (length lot.elements) (record_words * number) slip_limits.depth)
    where
      go : (o : Option MeshRefusal) → length (slip_by (elim o [ some r ↦ mesh_refused r | none ↦ mesh_accepted (counts_of (records base lot.nodes lot.elements slip_limits.depth)) ])) ≤ slip_bytes
      go (some r) = refused_room (mesh_refusal_number r) (mesh_number r)
      go none = inspected_length lot.label lot.groups number (report base lot.nodes lot.elements slip_limits.depth) (counts_of (records base lot.nodes lot.elements slip_limits.depth)) (record {
        label_short = lawful.label.short;
        names_short = all_map (λ (g : Group). LawfulName lot_file g.name) (λ g. Short g.name) (λ g h. h.short) lot.groups lawful.groups.names;
        elements_few = few;
        words_held = report_held lot.nodes lot.elements lawful.elements.unsigned32 slip_limits.depth (omega arith);
        counts_held_law = few_counted;
      })

  lot_room : length (lot_slip base slip_limits lot) ≤ slip_bytes
  unfolding lot_slip
  lot_room = go (leb number slip_limits.elements) refl
    where
      go : (b : Bool) → leb number slip_limits.elements ≡ b → length (slip_if b (mesh_slip base slip_limits.depth lot)) ≤ slip_bytes
      go false e = refused_room (unreadable_number too_many_elements) (lot_number too_many_elements)
      go true e = mesh_room (leb-true number slip_limits.elements e)

pub slip_room : (file : List ℕ) → All Byte file → length (slip_of base lot_file slip_limits file) ≤ slip_bytes
unfolding slip_of
slip_room file h = go (read_lot lot_file file) refl
  where
    go : (r : Reading) → read_lot lot_file file ≡ r → length {A = ℕ} (elim r [ unreadable w ↦ refused_line (unreadable_number w) | readable lot ↦ lot_slip base slip_limits lot ]) ≤ slip_bytes
    go (unreadable w) e = refused_room (unreadable_number w) (lot_number w)
    go (readable lot) e = lot_room lot (accepted_lawful lot_file file lot h e)
