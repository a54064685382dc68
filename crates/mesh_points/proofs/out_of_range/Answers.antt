-- `out_of_range` meets its contract: the library's search is the definition's. Assumes nothing.
use Rattle.std.proofs.Common.{refl, ◌∙◌, ap, pos, rules, tests}
use Rattle.std.proofs.Math.Bool.{not}
use Rattle.std.proofs.lemmas.Iterator.{YieldsList-from_slice}
use Rattle.std.proofs.lemmas.Iterator.Search.{position_from_yields_List}
use Rattle.definitions.specs.Limits.{base}
use Rattle.definitions.specs.Mesh.{usable, out_of_range}
use Rattle.mesh_points.specs.Meaning.{first_of}
use Rattle.mesh_points.specs.Search.{position_found}
use Rattle.mesh_points.proofs.out_of_range.Goals as goal

pub returns-clause-first : goal.returns-clause-first
unfolding out_of_range
returns-clause-first c =
    ap first_of (position_from_yields_List (λ x. not (usable base x)) _ _ c.position.result c.position.ensures.ran (YieldsList-from_slice c.args.p.now cc) (λ x b q k. search (rules, tests)))
    ∙ position_found _ _ (pos 0) c.args.p.now 24 c.told-p (λ k h. refl)
