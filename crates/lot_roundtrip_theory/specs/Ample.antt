-- Lent runs that are large enough for any lot.
use Rattle.std.specs.Prelude.{◌≡◌, refl, true, List, ℕ, ◌*◌, ◌≤◌, length}
use Rattle.std.proofs.Common.{sym, ◌∙◌, subst, arith, le-leb}
use Rattle.std.proofs.lemmas.List.{length-map}
use Rattle.foundation.specs.Lists.{All}
use Rattle.lot_format.specs.Numbers.{Byte}
use Rattle.lot_format.specs.Format.{FileLimits, lot_file, Group, Lot, written}
use Rattle.lot_format.specs.Runs.{names_of, lengths_of, offsets_of, runs_of}
use Rattle.lot_format.specs.Reading.{Reading, readable, unreadable, read_lot, Room, room_for, reading}
use Rattle.lot_format.specs.Steps.{reading_refused, reading_fits}
use Rattle.lot_format.specs.Lawful.{Lawful}
use Rattle.lot_format.proofs.Accepted.{accepted_short, accepted_lawful, accepted_written}
use Rattle.lot_roundtrip_theory.specs.Lengths.{written_length, length_written}

abbrev pub ample : Room
ample = record { nodes = 12288; elements = 8 * lot_file.elements; names = lot_file.bytes; lengths = 16384; offsets = 16384 }

-- what an accepted file holds takes no more bytes than the file may have
pub accepted_size : (F : FileLimits) (file : List ℕ) (lot : Lot) → All Byte file → read_lot F file ≡ readable lot → written_length lot ≤ F.bytes
accepted_size F file lot h e =
    let l = accepted_lawful F file lot h e in
    let long : length (written lot) ≤ F.bytes = subst (λ (x : List ℕ). length x ≤ F.bytes) (accepted_written F file lot h e) (accepted_short F file lot e) in
    omega (arith, length_written lot l.nodes.threes l.elements.eights l.groups.rises)

module _ (lot : Lot) (l : Lawful lot_file lot) (size : written_length lot ≤ lot_file.bytes) where
  ample_for : room_for (runs_of lot) ample ≡ true
  ample_for =
      let nodes : length lot.nodes ≤ ample.nodes = omega (arith, l.nodes.threes) in
      let elements : length lot.elements ≤ ample.elements = omega (arith, l.elements.eights, l.elements.few) in
      let names : length (names_of lot.groups) ≤ ample.names = omega arith in
      let lengths : length (lengths_of lot.groups) ≤ ample.lengths = omega (arith, length-map lot.groups (λ (g : Group). length g.name)) in
      let offsets : length (offsets_of lot.groups) ≤ ample.offsets = omega (arith, length-map lot.groups (λ (g : Group). g.offset)) in
      rw (le-leb _ ample.nodes nodes, le-leb _ ample.elements elements, le-leb _ ample.names names, le-leb _ ample.lengths lengths, le-leb _ ample.offsets offsets)

pub ample_room : (file : List ℕ) → All Byte file → reading lot_file file ample ≡ read_lot lot_file file
ample_room file h = go (read_lot lot_file file) refl
  where
    go : (r : Reading) → read_lot lot_file file ≡ r → reading lot_file file ample ≡ read_lot lot_file file
    go (unreadable r) e = reading_refused lot_file file ample e ∙ sym e
    go (readable lot) e = reading_fits lot_file file ample e (ample_for lot (accepted_lawful lot_file file lot h e) (accepted_size lot_file file lot h e)) ∙ sym e
