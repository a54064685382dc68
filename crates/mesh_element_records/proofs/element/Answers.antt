-- `mesh_element_records::element` meets its contract: by the element's fault, or its points. Assumes nothing.
use mathlib.Core.Path.{◌∙◌}
use borrow.Author.Rules.{rules}
use Rattle.mesh_elements.specs.Records.{whole_sized, whole_within, whole_record, refused_record}
use Rattle.mesh_element_records.proofs.element.Goals as goal

pub record-requires : goal.record-requires
record-requires c =
    let small = whole_within c.args.coordinates.now c.args.ix.now c.points.result c.points.ensures.result_value c.points.new.p c.points.ensures.points c.in-Ok.is in
    let sized = whole_sized c.args.coordinates.now c.args.ix.now c.points.result c.points.ensures.result_value c.points.new.p c.points.ensures.points c.in-Ok.is in
    search rules

pub returns-in-Ok : goal.returns-in-Ok
returns-in-Ok c = c.«record».ensures ∙ whole_record c.args.coordinates.now c.args.ix.now c.points.result c.points.ensures.result_value c.points.new.p c.points.ensures.points c.in-Ok.is c.args.depth

pub returns-in-Err : goal.returns-in-Err
returns-in-Err c = c.fault_words.ensures ∙ refused_record c.args.coordinates.now c.args.ix.now c.points.result c.points.ensures.result_value c.in-Err.is c.args.depth
