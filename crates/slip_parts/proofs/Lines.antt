-- The lines of elements, one by one. Assumes nothing.
use mathlib.Core.Path.{◌≡◌, ◌∙◌, ap, ap₂}
use mathlib.Core.List.{List, [], ◌++◌}
use Prim.Native.Nat.{ℕ, suc, ◌+◌, ◌-◌, ◌*◌, ◌<◌, ◌≤◌}
use native.Mathlib.Omega.{arith}
use lib.ListN.{take, drop}
use lib.Seq.{drop-drop}
use lib.IntN.{ℤ}
use Rattle.definitions.specs.Limits.{record_words}
use Rattle.lot_format.specs.Format.{Group}
use Rattle.slip_format.specs.Slip.{element_line, element_lines}

module _ (label : List ℕ) (gs : List Group) (n : ℕ) (ws : List ℤ) where
  -- the lines from element e on
  abbrev pub lines_from : ℕ → List ℕ
  lines_from e = element_lines label gs record_words e (n - e) (drop (record_words * e) ws)

  pub lines_next : (e : ℕ) → e < n → lines_from e ≡ element_line label gs e (take record_words (drop (record_words * e) ws)) ++ lines_from (e + 1)
  lines_next e h =
      let more : n - e ≡ suc (n - (e + 1)) = omega arith in
      let place : record_words * e + record_words ≡ record_words * (e + 1) = omega arith in
      let one : suc e ≡ e + 1 = omega arith in
      ap (λ (k : ℕ). element_lines label gs record_words e k (drop (record_words * e) ws)) more
      ∙ ap₂ (λ (k : ℕ) (l : List ℤ). element_line label gs e (take record_words (drop (record_words * e) ws)) ++ element_lines label gs record_words k (n - (e + 1)) l) one (drop-drop record_words (record_words * e) ws ∙ ap (λ (k : ℕ). drop k ws) place)

  pub lines_none : (e : ℕ) → n ≤ e → lines_from e ≡ []
  lines_none e h = let none : n - e ≡ 0 = omega arith in ap (λ (k : ℕ). element_lines label gs record_words e k (drop (record_words * e) ws)) none

  pub lines_all : element_lines label gs record_words 0 n ws ≡ lines_from 0
  lines_all = let all : n ≡ n - 0 = omega arith in ap (λ (k : ℕ). element_lines label gs record_words 0 k ws) all
