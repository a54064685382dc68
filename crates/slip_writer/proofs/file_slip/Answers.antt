-- `file_slip` meets its contract: by what the reading of the file hands out. Assumes nothing.
use Rattle.std.proofs.Common.{◌≡◌, ap, List, ℕ, length, arith}
use Rattle.foundation.specs.Lists.{All}
use Rattle.definitions.specs.Limits.{base}
use Rattle.lot_format.specs.Numbers.{Byte}
use Rattle.lot_format.specs.Format.{lot_file}
use Rattle.lot_format.specs.NumberLaws.{bytes_by_place}
use Rattle.lot_format.specs.Runs.{Runs}
use Rattle.lot_format.specs.Reading.{handed_out, reading_numbers}
use Rattle.lot_runs.specs.Meaning.{space_held, Over}
use Rattle.lot_reader.specs.Promise.{read_over, Read}
use Rattle.lot_reader.specs.Meaning.{label_told, numbers_told}
use Rattle.bytes_output.specs.Behind.{laid_as}
use Rattle.slip_format.specs.Slip.{slip_limits, slip_of}
use Rattle.slip_room_theory.specs.Promise.{slip_room}
use Rattle.slip_meshes.specs.Counted.{lent}
use Rattle.slip_writer.proofs.Files.{answered_slip_law, read_counted}
use Rattle.slip_writer.proofs.file_slip.Goals as goal

-- what the reading hands out, by its clauses
handed : (file : List ℕ) (before now : Runs) (label numbers : List ℕ) → label ≡ (handed_out (read_over file before)).label → numbers ≡ reading_numbers (read_over file before) → Over (handed_out (read_over file before)) before now
    → Read file before (lent label now) numbers
handed file before now label numbers l n o =
    record { label_is = l; nodes_are = o.nodes_after; elements_are = o.elements_after; names_are = o.names_after; lengths_are = o.lengths_after; offsets_are = o.offsets_after; answer_is = n }

pub answered_slip-requires : goal.answered_slip-requires
answered_slip-requires c =
    let file = c.args.file.now in
    let bytes : All Byte file = bytes_by_place file (λ i. omega (arith, c.type_inv.file i)) in
    let before = space_held c.args.space.now in
    let answer = c.read-answer.result in
    let e = c.read-answer.ensures in
    let read = handed file before (space_held c.read-answer.new.space) (label_told answer) (numbers_told answer) e.label e.numbers e.lent in
    let p = c.requires.nodes_len in
    let same = ap length (answered_slip_law file before _ (numbers_told answer) bytes read (record { nodes = p.0; elements = p.1; names = p.2; lengths = p.3; offsets = p.4 })) in
    record { counted = (read_counted file before _ (numbers_told answer) bytes read, p.5); answer_in_bounds = omega (arith, same, c.requires.slip_bytes_in_bounds, slip_room file bytes) }

pub returns : goal.returns
returns c =
    let file = c.args.file.now in
    let bytes : All Byte file = bytes_by_place file (λ i. omega (arith, c.type_inv.file i)) in
    let before = space_held c.args.space.now in
    let answer = c.read-answer.result in
    let e = c.read-answer.ensures in
    let read = handed file before (space_held c.read-answer.new.space) (label_told answer) (numbers_told answer) e.label e.numbers e.lent in
    let p = c.requires.nodes_len in
    laid_as (answered_slip_law file before _ (numbers_told answer) bytes read (record { nodes = p.0; elements = p.1; names = p.2; lengths = p.3; offsets = p.4 })) c.answered_slip.ensures
