-- `named_points` meets its contract: what the two other searches find, put together. Assumes nothing.
use mathlib.Core.Path.{sym, ◌∙◌, ap}
use Rattle.definitions.specs.Limits.{base}
use Rattle.definitions.specs.Mesh.{out_of_range}
use Rattle.mesh_points.specs.Meaning.{first_of}
use Rattle.mesh_indices.specs.Missing.{missing_none}
use Rattle.mesh_elements.specs.Elements.{fault_twice, fault_outside, fault_none, left_twice, left_given}
use Rattle.mesh_elements.proofs.named_points.Goals as goal

pub gather-requires : goal.gather-requires
gather-requires c = missing_none _ _ c.requires

pub returns-in-Some-clause-result_value : goal.returns-in-Some-clause-result_value
returns-in-Some-clause-result_value c = sym (fault_twice base c.args.coordinates.now c.args.ix.now _ c.requires (sym c.named_twice.ensures.first ∙ ap first_of c.in-Some.is))

pub returns-in-Some-clause-lent : goal.returns-in-Some-clause-lent
returns-in-Some-clause-lent c = left_twice c.args.coordinates.now c.args.ix.now _ _ c.requires (sym c.named_twice.ensures.first ∙ ap first_of c.in-Some.is)

pub returns-in-Some-out_of_range-clause-result_value : goal.returns-in-Some-out_of_range-clause-result_value
returns-in-Some-out_of_range-clause-result_value c =
    let once = sym c.named_twice.ensures.first ∙ ap first_of c.in_default.is in
    let coordinate_found = ap (out_of_range base) (sym c.gather.ensures) ∙ sym c.out_of_range.ensures.first ∙ ap first_of c.in-Some-out_of_range.is in
    sym (fault_outside base c.args.coordinates.now c.args.ix.now _ c.requires once coordinate_found)

pub returns-in-Some-out_of_range-clause-lent : goal.returns-in-Some-out_of_range-clause-lent
returns-in-Some-out_of_range-clause-lent c =
    let once = sym c.named_twice.ensures.first ∙ ap first_of c.in_default.is in
    c.gather.ensures ∙ left_given c.args.coordinates.now c.args.ix.now _ c.requires once

-- ---- nothing
pub returns-clause-result_value : goal.returns-clause-result_value
returns-clause-result_value c =
    let once = sym c.named_twice.ensures.first ∙ ap first_of c.in_default.is in
    let in_range = ap (out_of_range base) (sym c.gather.ensures) ∙ sym c.out_of_range.ensures.first ∙ ap first_of c.in_default-out_of_range.is in
    sym (fault_none base c.args.coordinates.now c.args.ix.now c.requires once in_range)

pub returns-clause-lent : goal.returns-clause-lent
returns-clause-lent c =
    let once = sym c.named_twice.ensures.first ∙ ap first_of c.in_default.is in
    c.gather.ensures ∙ left_given c.args.coordinates.now c.args.ix.now _ c.requires once
