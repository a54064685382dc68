-- Runs that are laid over lent space one behind the other.
use Rattle.std.specs.Prelude.{◌≡◌, List, ◌++◌, ℕ, ◌+◌, ◌*◌, ◌/◌, ◌%◌, ◌≤◌, length}
use Rattle.std.proofs.Common.{◌∙◌, ap₂, subst, arith, length-append}
use Rattle.foundation.specs.Laid.{put, put_put}
use Rattle.lot_format.specs.Numbers.{number_bytes}
use Rattle.bytes_output.specs.declared.Output.{Output}

-- there is room for a run behind what is written
abbrev pub Room : Output → List ℕ → Type 0
Room out text = out.at + length text ≤ length out.space.now

-- a run laid over the space behind what was written: the space is the same lent one, and the place is behind the run
pub record Laid (before : Output) (text : List ℕ) (after : Output) : Type 0 where
  pub lent : after.space.ghost_name ≡ before.space.ghost_name
  pub place : after.at ≡ before.at + length text
  pub space : after.space.now ≡ put before.at text before.space.now

-- the same run, by another name
pub laid_as : {before after : Output} {xs ys : List ℕ} → xs ≡ ys → Laid before xs after → Laid before ys after
laid_as {before} {after} e h = subst (λ (l : List ℕ). Laid before l after) e h

-- one run behind another
pub laid_then : {before mid after : Output} (xs ys : List ℕ) → before.at ≤ length before.space.now → Laid before xs mid → Laid mid ys after → Laid before (xs ++ ys) after
laid_then {before} xs ys h first second = record {
  lent = second.lent ∙ first.lent;
  place = omega (arith, length-append xs ys, first.place, second.place);
  space = second.space ∙ ap₂ (λ (n : ℕ) (l : List ℕ). put n ys l) first.place first.space ∙ put_put before.at xs ys before.space.now h;
}

-- a number of four bytes as two of two
pub word_halves : (x : ℕ) → number_bytes 2 (x % 65536) ++ number_bytes 2 (x / 65536) ≡ number_bytes 4 x
word_halves x =
    let high : x / 65536 ≡ x / 256 / 256 = omega arith in
    let low : x % 65536 ≡ x % 256 + 256 * (x / 256 % 256) = omega arith in
    let first : x % 65536 % 256 ≡ x % 256 = omega arith in
    let second : x % 65536 / 256 ≡ x / 256 % 256 = omega arith in
    let third : x / 256 % 256 % 256 ≡ x / 256 % 256 = omega arith in
    rw (first, second, third, high)
