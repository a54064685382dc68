-- A record put into the report space. Assumes nothing.
use Rattle.std.specs.Prelude.{◌≡◌, List, ◌++◌, ℕ, ◌+◌, ◌*◌, length, take, drop, ℤ}
use Rattle.std.proofs.Common.{sym, ◌∙◌, ap, ap₂, arith, take_at, drop_at, drop-drop}
use Rattle.definitions.specs.Limits.{record_words}

-- record e is put after the records before it, which are written
pub put_next : (written space words : List ℤ) (e : ℕ) → length written ≡ record_words * e
    → take (record_words * e) (written ++ drop (record_words * e) space) ++ words ++ drop (record_words * e + record_words) (written ++ drop (record_words * e) space) ≡ written ++ words ++ drop (record_words * (e + 1)) space
put_next written space words e h =
    let next : record_words * e + record_words ≡ record_words * (e + 1) = omega arith in
    let rest : List ℤ = drop (record_words * e) space in
    ap₂ (λ (a b : List ℤ). a ++ words ++ b) (take_at written rest (record_words * e) h)
    (sym (drop-drop record_words (record_words * e) (written ++ rest)) ∙ ap (drop record_words) (drop_at written rest (record_words * e) h) ∙ drop-drop record_words (record_words * e) space ∙ ap (λ (n : ℕ). drop n space) next)
