-- `inner_wide_eighth` meets its contract: the words of the least are those of the child's. Assumes nothing.
use Rattle.std.proofs.Common.{sym, ◌∙◌, ap, ℤ, List, [], ◌∷◌, arith, rules, to_z-of_z}
use Rattle.std.proofs.lemmas.List.{map-id}
use mir.Syntax.{w128}
use Rattle.definitions.specs.TwoWords.{low_word, high_word}
use Rattle.definitions.specs.Eighths.{Eighth, eighth_of}
use Rattle.verdict_theory.specs.Clear.{child_control}
use Rattle.wrapping_theory.specs.Words.{AreWords, low_word_is, high_word_is}
use Rattle.inner_exports.proofs.inner_wide_eighth.Goals as goal

pub returns-clause-told_after : goal.returns-clause-told_after
returns-clause-told_after c =
    let words = c.from-least.result in
    let are : AreWords words.low words.high = record { low_word_fits = omega arith; high_word_fits = omega arith } in
    let answer = c.eighth-r.ensures ∙ ap (λ (g : List ℤ). eighth_of (child_control g c.args.k)) (map-id c.numbers.result ∙ c.numbers.ensures) in
    let least = c.from-least.ensures ∙ to_z-of_z {w = w128} (search rules) ∙ ap (λ (e : Eighth). e.least) answer in
    let low = sym (low_word_is words.low words.high are) ∙ ap low_word least in
    let high = sym (high_word_is words.low words.high are) ∙ ap high_word least in
    λ i. low i ∷ high i ∷ ap (λ (e : Eighth). e.number) answer i ∷ []
