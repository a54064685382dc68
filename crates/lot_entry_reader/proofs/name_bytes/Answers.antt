-- `name_bytes` meets its contract: all bytes are tested. Assumes nothing.
use Rattle.std.proofs.Common.{rules, tests, ◌∙◌}
use Rattle.std.proofs.lemmas.Iterator.{YieldsList-from_slice}
use Rattle.std.proofs.lemmas.Iterator.Search.{all_from_yields_List}
use Rattle.lot_format.specs.Format.{name_byte}
use Rattle.lot_entry_reader.proofs.Laws.{name_bytes_all}
use Rattle.lot_entry_reader.proofs.name_bytes.Goals as goal

pub returns : goal.returns
returns c = all_from_yields_List name_byte _ _ _ c.all.ensures.ran (YieldsList-from_slice c.args.name.now cc) (λ x b q k. search (rules, tests)) ∙ name_bytes_all c.args.name.now
