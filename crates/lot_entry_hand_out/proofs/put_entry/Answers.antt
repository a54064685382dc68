-- `put_entry` meets its contract: by the cases of the mark. Assumes nothing.
use Rattle.std.proofs.Common.{◌≡◌, ◌∙◌, ap, arith, ℕ, List, ◌+◌, ◌-◌, ◌*◌, take, drop}
use Rattle.std.proofs.lemmas.List.{map-id}
use Rattle.foundation.specs.Laid.{put, put_one}
use Rattle.lot_format.specs.Numbers.{unsigneds}
use Rattle.lot_runs.specs.Meaning.{space_held}
use Rattle.lot_entry_hand_out.specs.EntryRuns.{fit_by, laid_element, laid_group}
use Rattle.lot_entry_hand_out.proofs.put_entry.Goals as goal

pub returns-in-HX-clause-laid : goal.returns-in-HX-clause-laid
returns-in-HX-clause-laid c = rw c.in-HX.is (laid_element c.args.file.now c.args.at c.args.entry.len c.args.n (space_held c.args.space.now) (fit_by c.in-HX.is c.requires)
    (c.put_words-in-HX.ensures ∙ ap (λ (l : List ℕ). put (8 * c.args.n.elements) l c.args.space.now.elements.now) (map-id (unsigneds 8 (drop c.args.at c.args.file.now)))))

pub returns-in-GR-clause-laid : goal.returns-in-GR-clause-laid
returns-in-GR-clause-laid c =
    let file = c.args.file.now in
    let at = c.args.at in
    let len = c.args.entry.len in
    let n = c.args.n in
    let space = c.args.space.now in
    let fit = fit_by c.in-GR.is c.requires in
    let whole : at + len - at ≡ len = omega arith in
    rw c.in-GR.is (laid_group file at len n (space_held space) fit (c.put_name.ensures ∙ ap (λ (k : ℕ). put n.names (take k (drop at file)) space.names.now) whole)
    (put_one n.groups len space.lengths.now (omega (arith, fit.lengths_fit)))
    (put_one n.groups n.elements space.offsets.now (omega (arith, fit.offsets_fit))))
