-- `same_after` meets its contract: the library's search of the indices behind the first place is that of the pairs. Assumes nothing.
use Rattle.std.proofs.Common.{◌+◌, ◌*◌, drop, get_or, sym, ◌∙◌, ap, eqb, take_all, length-drop, arith, rules, tests}
use Rattle.std.specs.Option.{option_map}
use Rattle.std.proofs.lemmas.Iterator.{YieldsList-from_slice}
use Rattle.std.proofs.lemmas.Iterator.Search.{position_from_yields_List}
use Rattle.mesh_points.specs.Meaning.{first_of}
use Rattle.mesh_indices.specs.Pairs.{later_found}
use Rattle.mesh_indices.proofs.same_after.Goals as goal

pub returns-in_err-later-clause-first : goal.returns-in_err-later-clause-first
returns-in_err-later-clause-first c =
    let found = position_from_yields_List (eqb (get_or c.args.ix.now c.args.first 0)) _ _ c.position.result c.position.ensures.ran (YieldsList-from_slice (drop (c.args.first + 1) c.args.ix.now) (c.iter.ensures.rest ∙ take_all _ _ (simp length-drop (omega arith)))) (λ x b q k. search (rules, tests)) in
    ap first_of (c.from_residual.ensures ∙ sym (ap (option_map (λ k. 8 * c.args.first + (c.args.first + 1) + k)) c.in_err-later.was))
    ∙ later_found c.args.ix.now c.args.first (omega arith) c.told-ix found

pub returns-clause-first : goal.returns-clause-first
returns-clause-first c =
    let found = position_from_yields_List (eqb (get_or c.args.ix.now c.args.first 0)) _ _ c.position.result c.position.ensures.ran (YieldsList-from_slice (drop (c.args.first + 1) c.args.ix.now) (c.iter.ensures.rest ∙ take_all _ _ (simp length-drop (omega arith)))) (λ x b q k. search (rules, tests)) in
    sym (ap (λ r. first_of (option_map (λ k. 8 * c.args.first + (c.args.first + 1) + k) r)) c.in_ok-later.was)
    ∙ later_found c.args.ix.now c.args.first (omega arith) c.told-ix found
