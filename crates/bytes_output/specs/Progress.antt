-- A text that is laid over lent space part by part: how much is laid, and what is left of it.
use Rattle.std.specs.Prelude.{◌≡◌, refl, List, [], ◌++◌, ℕ, ◌+◌, ◌≤◌, ◌<◌, get_or, length, drop}
use Rattle.std.proofs.Common.{sym, ◌∙◌, ap, append_assoc, arith, length-append, drop_of_length-le}
use Rattle.foundation.specs.Lists.{append_nil, concat_map, drop_next}
use Rattle.foundation.specs.Laid.{put_nil, length_put}
use Rattle.bytes_output.specs.declared.Output.{Output}
use Rattle.bytes_output.specs.Behind.{Room, Laid, laid_then}

-- of a text that is laid behind `start`, this is left to be laid behind `now`
pub record Progress (start : Output) (text left : List ℕ) (now : Output) : Type 0 where
  pub done : List ℕ
  pub splits : text ≡ done ++ left
  pub laid : Laid start done now
  pub fits : Room start text

-- the next part of what is left, and what is left then
pub record Next (left part rest : List ℕ) : Type 0 where
  pub parts : left ≡ part ++ rest

pub first : (part rest : List ℕ) → Next (part ++ rest) part rest
first part rest = record { parts = refl }

-- the last part: all that is left
pub last : {left part : List ℕ} → left ≡ part → Next left part []
last {left} {part} e = record { parts = e ∙ sym (append_nil part) }

-- a text of a run of items: the next item's, and what is left then
pub each_next : {A : Type 0} (f : A → List ℕ) (xs : List A) (k : ℕ) (z : A) → k < length xs → Next (concat_map f (drop k xs)) (f (get_or xs k z)) (concat_map f (drop (k + 1) xs))
each_next f xs k z h = record { parts = ap (concat_map f) (drop_next xs k z h) }

-- and nothing is left behind the last item
pub each_over : {A : Type 0} (f : A → List ℕ) (xs : List A) (k : ℕ) → length xs ≤ k → concat_map f (drop k xs) ≡ []
each_over f xs k h = ap (concat_map f) (drop_of_length-le xs h)

pub laid_none : (start : Output) {text : List ℕ} → Room start text → Progress start text text start
laid_none start h = record { done = []; splits = refl; laid = record { lent = refl; place = omega arith; space = sym (put_nil start.at start.space.now) }; fits = h }

module _ {start : Output} {text : List ℕ} where
  module _ {left : List ℕ} {now : Output} (x : Progress start text left now) where
    whole : length text ≡ length x.done + length left
    whole = ap length x.splits ∙ length-append x.done left

    -- the space stays as long, and the next part fits it
    pub same_space : length now.space.now ≡ length start.space.now
    same_space = ap length x.laid.space ∙ length_put start.at x.done start.space.now (omega (arith, whole, x.fits))

    pub part_fits : {part rest : List ℕ} → Next left part rest → Room now part
    part_fits {part} {rest} n = omega (arith, whole, ap length n.parts, length-append part rest, x.fits, x.laid.place, same_space)

    -- all of it
    pub laid_all : left ≡ [] → Laid start text now
    laid_all e = let same : text ≡ x.done = x.splits ∙ ap (λ (l : List ℕ). x.done ++ l) e ∙ append_nil x.done in rw same x.laid

    -- the next part
    pub laid_more : {part rest : List ℕ} {then : Output} → Next left part rest → Laid now part then → Progress start text rest then
    laid_more {part} {rest} n l = record {
      done = x.done ++ part;
      splits = x.splits ∙ ap (λ (l : List ℕ). x.done ++ l) n.parts ∙ sym (append_assoc x.done part rest);
      laid = laid_then x.done part (omega (arith, x.fits)) x.laid l;
      fits = x.fits;
    }

  -- and with its last part all of it
  pub laid_last : {left part : List ℕ} {now then : Output} → Progress start text left now → Next left part [] → Laid now part then → Laid start text then
  laid_last x n l = laid_all (laid_more x n l) refl
