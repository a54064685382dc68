-- `named_twice` meets its contract. The loop's invariant: what is left of the search is the search from the first place `first` on. Assumes nothing.
use mathlib.Core.Path.{sym, ◌∙◌, ap}
use native.Mathlib.Omega.{arith}
use Rattle.mesh_points.specs.Meaning.{first_of}
use Rattle.mesh_indices.specs.Pairs.{all_pairs, this_place, next_place, no_place}
use Rattle.mesh_indices.proofs.named_twice.Goals as goal

pub loop-first-init : goal.loop-first-init
loop-first-init c = all_pairs c.args.ix.now

pub returns-in-Some-clause-first : goal.returns-in-Some-clause-first
returns-in-Some-clause-first c = sym (c.loop-first.invariant ∙ this_place c.args.ix.now c.loop-first.first _ (omega arith) (sym c.same_after.ensures.first ∙ ap first_of c.in-Some.is))

pub loop-first-preserved : goal.loop-first-preserved
loop-first-preserved c = c.loop-first.invariant ∙ next_place c.args.ix.now c.loop-first.first (omega arith) (sym c.same_after.ensures.first ∙ ap first_of c.in_default.is)
