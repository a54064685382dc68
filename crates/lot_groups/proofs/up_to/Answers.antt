-- `up_to` meets its contract: all lengths are tested. Assumes nothing.
use Rattle.std.proofs.Common.{rules, tests, ◌∙◌, leb}
use Rattle.std.proofs.lemmas.Iterator.{YieldsList-from_slice}
use Rattle.std.proofs.lemmas.Iterator.Search.{all_from_yields_List}
use Rattle.lot_groups.proofs.Tests.{all_tested}
use Rattle.lot_groups.proofs.up_to.Goals as goal

pub returns : goal.returns
returns c = all_from_yields_List (λ x. leb x c.args.n) _ _ _ c.all.ensures.ran (YieldsList-from_slice c.args.lengths.now cc) (λ x b q k. search (rules, tests)) ∙ all_tested c.args.n c.args.lengths.now
