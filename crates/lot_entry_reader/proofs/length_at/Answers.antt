-- `length_at` meets its contract. Assumes nothing.
use Rattle.std.proofs.Common.{rules, ◌≡◌, sym, ◌∙◌, ap, List, ℕ, take}
use Rattle.std.proofs.Common.{drop-drop}
use Rattle.lot_format.specs.Numbers.{number}
use Rattle.lot_entry_reader.proofs.length_at.Goals as goal

pub returns : goal.returns
returns c =
    let same : c.from.result ≡ c.short_at.result = search rules in
    (same ∙ c.short_at.ensures ∙ ap (λ (l : List ℕ). number (take 2 l)) (sym (drop-drop 2 c.args.at c.args.file.now)), search rules)
