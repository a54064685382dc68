-- `brundhal_read_lot` meets its contract: the answer of the reader, and where its label stands. Assumes nothing.
use Rattle.std.proofs.Common.{rules, sym, ◌∙◌, ap, arith, ◌≤◌, length, [], Ok, Err}
use Rattle.lot_format.specs.NumberLaws.{bytes_by_place}
use Rattle.lot_reader.specs.Meaning.{label_told, numbers_told}
use Rattle.brundhal.proofs.Label.{label_short, lot_answered}
use Rattle.brundhal.proofs.brundhal_read_lot.Goals as goal

pub overflow_cast-contents : goal.overflow_cast-contents
overflow_cast-contents c =
    let a = c.args in
    let label = c.in-Ok.contents.label.now in
    let same = sym (ap label_told c.in-Ok.is) ∙ c.read.ensures.label in
    let short : length label ≤ 32 = label_short a.file.now a.nodes.now a.elements.now a.names.now a.lengths.now a.offsets.now (bytes_by_place a.file.now (λ i. omega (arith, c.type_inv.file i))) label same in
    omega (arith, short)

pub returns-in-Ok : goal.returns-in-Ok
returns-in-Ok c =
    let a = c.args in
    let e = c.read.ensures in
    let is = c.in-Ok.is in
    let told = lot_answered a.file.now a.nodes.now a.elements.now a.names.now a.lengths.now a.offsets.now (bytes_by_place a.file.now (λ i. omega (arith, c.type_inv.file i)))
    c.in-Ok.contents.label.now (sym (ap label_told is) ∙ e.label) (numbers_told (Ok c.in-Ok.contents)) (sym (ap numbers_told is) ∙ e.numbers) c.accepted.result c.accepted.ensures in
    record { result_value = told.0; file_value = told.1; nodes_after = (search (rules, sym e.kept.nodes)) ∙ e.lent.nodes_after; elements_after = (search (rules, sym e.kept.elements)) ∙ e.lent.elements_after; names_after = (search (rules, sym e.kept.names)) ∙ e.lent.names_after; lengths_after = (search (rules, sym e.kept.lengths)) ∙ e.lent.lengths_after; offsets_after = (search (rules, sym e.kept.offsets)) ∙ e.lent.offsets_after }

pub returns-in-Err : goal.returns-in-Err
returns-in-Err c =
    let a = c.args in
    let e = c.read.ensures in
    let is = c.in-Err.is in
    let told = lot_answered a.file.now a.nodes.now a.elements.now a.names.now a.lengths.now a.offsets.now (bytes_by_place a.file.now (λ i. omega (arith, c.type_inv.file i)))
    [] (sym (ap label_told is) ∙ e.label) (numbers_told (Err c.in-Err.r)) (sym (ap numbers_told is) ∙ e.numbers) c.refused.result c.refused.ensures in
    record { result_value = told.0; file_value = told.1; nodes_after = (search (rules, sym e.kept.nodes)) ∙ e.lent.nodes_after; elements_after = (search (rules, sym e.kept.elements)) ∙ e.lent.elements_after; names_after = (search (rules, sym e.kept.names)) ∙ e.lent.names_after; lengths_after = (search (rules, sym e.kept.lengths)) ∙ e.lent.lengths_after; offsets_after = (search (rules, sym e.kept.offsets)) ∙ e.lent.offsets_after }
