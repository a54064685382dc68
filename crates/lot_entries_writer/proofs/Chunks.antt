-- The entries of a run, chunk by chunk. Assumes nothing.
use Rattle.std.proofs.Common.{◌≡◌, ◌∙◌, ap, ap₂, List, [], ◌++◌, ℕ, suc, ◌+◌, ◌-◌, ◌/◌, ◌<◌, length, take, drop, length-append, add-one, arith}
use Rattle.std.proofs.Math.Nat.{div-eq-sub-div, div-eq_of_lt}
use Rattle.std.proofs.lemmas.List.{take_at, drop_at}
use Rattle.lot_format.specs.Format.{Mark, entry_bytes, entries}
use Rattle.bytes_output.specs.Progress.{Next}

module _ {A : Type 0} (m : Mark) (n : ℕ) (bytes : List A → List ℕ) where
  -- entries of n numbers each
  abbrev pub chunks_text : List A → List ℕ
  chunks_text xs = entries m n bytes (length xs / n) xs

  pub chunks_over : (xs : List A) → length xs < n → chunks_text xs ≡ []
  chunks_over xs h = let none : length xs / n ≡ 0 = div-eq_of_lt h in ap (λ (k : ℕ). entries m n bytes k xs) none

  module _ (positive : 0 < n) (xs first rest : List A) (e : xs ≡ first ++ rest) (long : length first ≡ n) where
    whole : length xs ≡ n + length rest
    whole = ap length e ∙ length-append first rest ∙ ap (λ (k : ℕ). k + length rest) long

    count : length xs / n ≡ suc (length rest / n)
    count = let less : length xs - n ≡ length rest = omega (arith, whole) in div-eq-sub-div positive (omega (arith, whole)) ∙ add-one ((length xs - n) / n) ∙ ap (λ (k : ℕ). suc (k / n)) less

    pub chunks_next : Next (chunks_text xs) (entry_bytes m (bytes first)) (chunks_text rest)
    chunks_next = record {
      parts =
          ap (λ (k : ℕ). entries m n bytes k xs) count
          ∙ ap₂ (λ (l r : List A). entry_bytes m (bytes l) ++ entries m n bytes (length rest / n) r)
          (ap (take n) e ∙ take_at first rest n long) (ap (drop n) e ∙ drop_at first rest n long);
    }
