-- An entry from its head and its body. Assumes nothing.
use Rattle.std.proofs.Common.{◌≡◌, sym, ◌∙◌, ap, List, ◌++◌, append_assoc, ℕ, ◌≤◌, length}
use Rattle.lot_format.specs.Numbers.{number_bytes}
use Rattle.lot_format.specs.Format.{Mark, letters, entry_bytes}
use Rattle.bytes_output.specs.declared.Output.{Output}
use Rattle.bytes_output.specs.Behind.{Laid, laid_as, laid_then}

pub entry_laid : {before mid after : Output} (m : Mark) (body : List ℕ) (n : ℕ) → length body ≡ n → before.at ≤ length before.space.now
    → Laid before (letters m ++ number_bytes 2 n) mid → Laid mid body after → Laid before (entry_bytes m body) after
entry_laid m body n e h head rest =
    laid_as (append_assoc (letters m) (number_bytes 2 n) body ∙ ap (λ (k : ℕ). letters m ++ (number_bytes 2 k ++ body)) (sym e)) (laid_then (letters m ++ number_bytes 2 n) body h head rest)
