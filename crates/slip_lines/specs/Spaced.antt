-- Words, each behind a space; and so the words behind the first of a line, and its end.
use Rattle.std.specs.Prelude.{List, [], ◌∷◌, ◌++◌, ℕ}
use Rattle.std.proofs.Common.{append_assoc}
use Rattle.foundation.specs.Lists.{concat_map}
use Rattle.bytes_output.specs.Progress.{Next}

abbrev pub spaced : List (List ℕ) → List ℕ
spaced ws = concat_map (λ (w : List ℕ). 32 ∷ w) ws

abbrev pub ending : List (List ℕ) → List ℕ
ending ws = spaced ws ++ (10 ∷ [])

pub next_word : (w : List ℕ) (ws : List (List ℕ)) → Next (ending (w ∷ ws)) (32 ∷ w) (ending ws)
next_word w ws = record { parts = append_assoc (32 ∷ w) (spaced ws) (10 ∷ []) }
