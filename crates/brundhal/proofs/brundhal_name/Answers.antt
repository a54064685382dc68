-- `brundhal_name` meets its contract: whether a test failed and the part in force tell the name. Assumes nothing.
use Rattle.lot_format.specs.Format.{lot_file}
use Rattle.lot_format.specs.Runs.{groups_of}
use Rattle.lot_format.specs.Naming.{naming}
use Rattle.lot_naming.specs.Meaning.{number_told}
use Rattle.lot_naming.specs.Answers.{zero_named, number_is}
use Rattle.brundhal_name_answers.specs.Names.{name_answered}
use Rattle.brundhal.proofs.brundhal_name.Goals as goal

pub returns-clause-names_value : goal.returns-clause-names_value
returns-clause-names_value c =
    let s = c.args in
    let p = c.part_in_force-part in
    let refusal = c.refusal_of-refusal in
    let given = name_answered s.label.now s.names.now (groups_of s.names.now s.lengths.now s.offsets.now) s.element p.result.start p.result.len p.ensures.len_in_bounds p.ensures.names_value p.ensures.start_value
    (naming lot_file s.label.now s.names.now s.lengths.now s.offsets.now s.elements s.element)
    (zero_named lot_file s.label.now s.names.now s.lengths.now s.offsets.now s.elements s.element)
    (number_told refusal.result) (number_is _ _ refusal.ensures) c.name.result c.name.ensures in
    given.1
