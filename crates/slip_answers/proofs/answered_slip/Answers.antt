-- `answered_slip` meets its contract: by the answer, and by how many elements there are. Assumes nothing.
use Rattle.std.proofs.Common.{◌≡◌, refl, sym, ◌∙◌, ap, List, ℕ, ◌<◌, ◌≤◌, length, arith, Result, Ok, Err}
use Rattle.definitions.specs.Limits.{base}
use Rattle.lot_format.specs.Runs.{Runs, lot_from}
use Rattle.lot_format.specs.Reading.{unreadable_number, too_many_elements}
use Rattle.lot_format.specs.Numbered.{not_zero}
use Rattle.lot_runs.specs.Meaning.{space_held}
use Rattle.lot_entry_reader.specs.declared.Unreadable.{Unreadable}
use Rattle.lot_entry_reader.specs.Meaning.{unreadable_held}
use Rattle.lot_reader.specs.declared.Contents.{Contents}
use Rattle.lot_reader.specs.Meaning.{label_told, numbers_told}
use Rattle.lot_reader.specs.Promise.{as_read}
use Rattle.slip_format.specs.Slip.{slip_limits, refused_line, mesh_slip}
use Rattle.bytes_output.specs.Behind.{laid_as}
use Rattle.slip_meshes.specs.Counted.{lent, told}
use Rattle.slip_answers.specs.Answered.{answered_slip, refused_by, many_by, few_by}
use Rattle.slip_answers.proofs.answered_slip.Goals as goal

-- the slip of an answer
abbrev slip_by : Runs → Result Contents Unreadable → List ℕ
slip_by space answer = answered_slip (lent (label_told answer) space) (numbers_told answer)

refused_slip : (space : Runs) (answer : Result Contents Unreadable) (r : Unreadable) (n : ℕ) → answer ≡ Err r → n ≡ unreadable_number (unreadable_held r) → refused_line n ≡ slip_by space answer
refused_slip space answer r n e same =
    ap refused_line same ∙ refused_by (lent (label_told (Err r)) space) (numbers_told (Err r)) (not_zero (unreadable_held r)) ∙ ap (slip_by space) (sym e)

many_slip : (space : Runs) (answer : Result Contents Unreadable) (x : Contents) (n : ℕ) → answer ≡ Ok x → slip_limits.elements < x.elements → n ≡ unreadable_number too_many_elements → refused_line n ≡ slip_by space answer
many_slip space answer x n e h same =
    ap refused_line same ∙ many_by (lent (label_told (Ok x)) space) (numbers_told (Ok x)) refl h ∙ ap (slip_by space) (sym e)

few_slip : (space : Runs) (answer : Result Contents Unreadable) (x : Contents) → answer ≡ Ok x → x.elements ≤ slip_limits.elements → mesh_slip base slip_limits.depth (lot_from (as_read (lent x.label.now space) (told x))) ≡ slip_by space answer
few_slip space answer x e h = few_by (lent (label_told (Ok x)) space) (numbers_told (Ok x)) refl h ∙ ap (slip_by space) (sym e)

pub refused_line-requires : goal.refused_line-requires
refused_line-requires c =
    let e = ap length (refused_slip (space_held c.args.space.now) c.args.answer c.in-Err.refusal c.from.result c.in-Err.is c.from.ensures) in
    omega (arith, c.requires.answer_in_bounds)

pub returns-in-Err : goal.returns-in-Err
returns-in-Err c = laid_as (refused_slip (space_held c.args.space.now) c.args.answer c.in-Err.refusal c.from.result c.in-Err.is c.from.ensures) c.refused_line.ensures

pub refused_line-requires-then-contents-gt-SLIP_ELEMENTS : goal.refused_line-requires-then-contents-gt-SLIP_ELEMENTS
refused_line-requires-then-contents-gt-SLIP_ELEMENTS c =
    let e = ap length (many_slip (space_held c.args.space.now) c.args.answer c.in-Ok.contents c.from-then-contents-gt-SLIP_ELEMENTS.result c.in-Ok.is c.if-contents-gt-SLIP_ELEMENTS.true c.from-then-contents-gt-SLIP_ELEMENTS.ensures) in
    omega (arith, c.requires.answer_in_bounds)

pub returns-then-contents-gt-SLIP_ELEMENTS : goal.returns-then-contents-gt-SLIP_ELEMENTS
returns-then-contents-gt-SLIP_ELEMENTS c =
    laid_as (many_slip (space_held c.args.space.now) c.args.answer c.in-Ok.contents c.from-then-contents-gt-SLIP_ELEMENTS.result c.in-Ok.is c.if-contents-gt-SLIP_ELEMENTS.true c.from-then-contents-gt-SLIP_ELEMENTS.ensures) c.refused_line-then-contents-gt-SLIP_ELEMENTS.ensures

pub read_slip-requires-clause-answer_in_bounds : goal.read_slip-requires-clause-answer_in_bounds
read_slip-requires-clause-answer_in_bounds c =
    let e = ap length (few_slip (space_held c.args.space.now) c.args.answer c.in-Ok.contents c.in-Ok.is c.if-contents-gt-SLIP_ELEMENTS.false) in
    omega (arith, c.requires.answer_in_bounds)

pub returns-else-contents-gt-SLIP_ELEMENTS : goal.returns-else-contents-gt-SLIP_ELEMENTS
returns-else-contents-gt-SLIP_ELEMENTS c = laid_as (few_slip (space_held c.args.space.now) c.args.answer c.in-Ok.contents c.in-Ok.is c.if-contents-gt-SLIP_ELEMENTS.false) c.read_slip.ensures
