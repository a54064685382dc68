-- `inner_narrow_eighth` meets its contract: the least and its number are those of the child. Assumes nothing.
use Rattle.std.proofs.Common.{◌∙◌, ap, ℤ, pos, List, [], ◌∷◌, w64, arith, rules, to_z-of_z}
use Rattle.std.proofs.lemmas.List.{map-id}
use mir.ValLaws.{to_z_pos}
use Rattle.definitions.specs.Eighths.{Eighth, eighth_of}
use Rattle.verdict_theory.specs.Clear.{child_control}
use Rattle.search_theory.specs.Children.{child_length}
use Rattle.search_theory.specs.Eighths.{least_held}
use Rattle.inner_exports.proofs.inner_narrow_eighth.Goals as goal

pub overflow_cast-told : goal.overflow_cast-told
overflow_cast-told c =
    let answer = c.eighth-r.ensures ∙ ap (λ (g : List ℤ). eighth_of (child_control g c.args.k)) (map-id c.args.g.now) in
    let few = (least_held (child_control c.args.g.now c.args.k) (child_length c.args.g.now c.args.k)).to_27 in
    record { sfits = omega (arith, few, ap (λ (e : Eighth). e.number) answer) }

pub returns-clause-told_after : goal.returns-clause-told_after
returns-clause-told_after c =
    let answer = c.eighth-r.ensures ∙ ap (λ (g : List ℤ). eighth_of (child_control g c.args.k)) (map-id c.args.g.now) in
    let few = (least_held (child_control c.args.g.now c.args.k) (child_length c.args.g.now c.args.k)).to_27 in
    let least = to_z-of_z {w = w64} (search rules) ∙ ap (λ (e : Eighth). e.least) answer in
    let number = to_z_pos w64 c.eighth-r.result.number (omega (arith, few, ap (λ (e : Eighth). e.number) answer)) ∙ ap (λ (e : Eighth). pos e.number) answer in
    λ i. least i ∷ number i ∷ []
