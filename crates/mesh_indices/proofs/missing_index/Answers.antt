-- `missing_index` meets its contract: the library's search is the definition's. Assumes nothing.
use Rattle.std.proofs.Common.{refl, ◌∙◌, ap, leb, get_or, rules, tests}
use Rattle.std.proofs.lemmas.Iterator.{YieldsList-from_slice}
use Rattle.std.proofs.lemmas.Iterator.Search.{position_from_yields_List}
use Rattle.definitions.specs.Mesh.{missing_index}
use Rattle.mesh_points.specs.Meaning.{first_of}
use Rattle.mesh_points.specs.Search.{position_found}
use Rattle.mesh_indices.proofs.missing_index.Goals as goal

pub returns-clause-first : goal.returns-clause-first
unfolding missing_index
returns-clause-first c =
    ap first_of (position_from_yields_List (leb c.args.nodes) _ _ c.position.result c.position.ensures.ran (YieldsList-from_slice c.args.ix.now cc) (λ x b q k. search (rules, tests)))
    ∙ position_found _ _ 0 c.args.ix.now 8 c.told-ix (λ k h. refl)
