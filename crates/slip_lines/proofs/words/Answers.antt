-- `words` meets its contract: the next word is laid, and those behind it are left. Assumes nothing.
use Rattle.std.proofs.Common.{sym, ◌∙◌, ap, List, ◌∷◌, map, ℕ, ◌+◌, ◌<◌, rules, get_or, length, drop, ℤ, pos, w64, to_z, of_z, arith}
use mir.Val.{SFits}
use mir.ValLaws.{to_z-of_z}
use Rattle.foundation.specs.Lists.{drop_next}
use Rattle.bytes_output.specs.Progress.{Next, laid_more}
use Rattle.slip_format.specs.Decimal.{signed_decimal}
use Rattle.slip_lines.specs.Spaced.{spaced}
use Rattle.slip_lines.proofs.words.Goals as goal

-- the text of the words
abbrev text_of : List ℤ → List ℕ
text_of ws = spaced (map signed_decimal ws)

-- the word at `k` is due, and then the words behind it
due : (ws : List ℤ) (k : ℕ) → k < length ws → SFits w64 (get_or ws k (pos 0)) → Next (text_of (drop k ws)) (32 ∷ signed_decimal (to_z w64 (of_z w64 (get_or ws k (pos 0))))) (text_of (drop (k + 1) ws))
due ws k h f =
    let same = sym (to_z-of_z w64 (get_or ws k (pos 0)) f) in
    record { parts = ap text_of (drop_next ws k (pos 0) h ∙ ap (λ (z : ℤ). z ∷ drop (k + 1) ws) same) }

pub loop-w-preserved : goal.loop-w-preserved
loop-w-preserved c = laid_more c.loop-w.invariant (due c.args.ws.now c.loop-w.w-index c.loop-w-test.true (record { sfits = search rules })) c.signed_number.ensures
