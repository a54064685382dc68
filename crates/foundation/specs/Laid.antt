-- Runs laid over lists: what stands in lent space once a run is written to it.
use Rattle.std.specs.Prelude.{◌≡◌, List, [], ◌∷◌, ◌++◌, ℕ, ◌+◌, ◌-◌, ◌≤◌, ◌<◌, get_or, length, set, take, drop}
use Rattle.std.proofs.Common.{sym, ◌∙◌, ap, ap₂, append_assoc, add_assoc, add-one, arith, length-append, length-drop, length-take-le, take_all, drop-drop, take_at}
use Rattle.std.proofs.Math.Seq.{take-append_seam, drop-append-add, paste, paste-zero, paste-suc}
use Rattle.std.proofs.lemmas.List.Edits.{sets-eq}

module _ {A : Type 0} where
  -- a run laid over a list from place n on
  abbrev pub put : ℕ → List A → List A → List A
  put n xs space = take n space ++ xs ++ drop (n + length xs) space

  -- A run laid over the start of lent space. Document 01: "A refusal leaves lent space untouched, and so is space past an answer's end."
  abbrev pub laid_over : List A → List A → List A
  laid_over xs space = xs ++ drop (length xs) space

  pub put_nil : (n : ℕ) (space : List A) → put n [] space ≡ space
  put_nil n space = sym (paste-zero space n [])

  pub put_start : (xs space : List A) → put 0 xs space ≡ laid_over xs space
  put_start xs space = let e : 0 + length xs ≡ length xs = omega arith in ap (λ (n : ℕ). xs ++ drop n space) e

  head_length : (n : ℕ) (xs space : List A) → n ≤ length space → length (take n space ++ xs) ≡ n + length xs
  head_length n xs space h = length-append (take n space) xs ∙ ap (λ (k : ℕ). k + length xs) (length-take-le n space h)

  pub length_put : (n : ℕ) (xs space : List A) → n + length xs ≤ length space → length (put n xs space) ≡ length space
  length_put n xs space h =
      let rest : length (drop (n + length xs) space) ≡ length space - (n + length xs) = length-drop (n + length xs) space in
      let head = head_length n xs space (omega arith) in
      length-append (take n space ++ xs) (drop (n + length xs) space) ∙ omega arith

  pub length_laid : (xs space : List A) → length xs ≤ length space → length (laid_over xs space) ≡ length space
  length_laid xs space h = length-append xs (drop (length xs) space) ∙ (let e : length (drop (length xs) space) ≡ length space - length xs = length-drop (length xs) space in omega arith)

  -- a run behind another
  pub put_put : (n : ℕ) (xs ys space : List A) → n ≤ length space → put (n + length xs) ys (put n xs space) ≡ put n (xs ++ ys) space
  put_put n xs ys space h =
      let head = take n space ++ xs in
      let rest = drop (n + length xs) space in
      let long = head_length n xs space h in
      ap₂ (λ l r. l ++ ys ++ r) (take_at head rest (n + length xs) long)
      (ap (λ (k : ℕ). drop (k + length ys) (head ++ rest)) (sym long)
      ∙ drop-append-add head rest (length ys)
      ∙ drop-drop (length ys) (n + length xs) space
      ∙ ap (λ (k : ℕ). drop k space) (add_assoc n (length xs) (length ys) ∙ ap (λ (k : ℕ). n + k) (sym (length-append xs ys))))
      ∙ ap (λ l. l ++ drop (n + length (xs ++ ys)) space) (append_assoc (take n space) xs ys)

  pub put_behind : (xs ys space : List A) → put (length xs) ys (laid_over xs space) ≡ laid_over (xs ++ ys) space
  put_behind xs ys space =
      ap₂ (λ l r. (l ++ ys) ++ r) (take-append_seam xs (drop (length xs) space))
      (drop-append-add xs (drop (length xs) space) (length ys) ∙ drop-drop (length ys) (length xs) space ∙ ap (λ (n : ℕ). drop n space) (sym (length-append xs ys)))

  -- a store lays one element
  pub put_one : (n : ℕ) (x : A) (space : List A) → n < length space → set space n x ≡ put n (x ∷ []) space
  put_one n x space h = sets-eq (x ∷ []) space n (omega arith)

  -- a run, written element by element: one more
  pub paste_next : (space d s : List A) (at k : ℕ) (v z : A) → at + k < length space → k < length s → d ≡ paste space at s k → v ≡ get_or s k z → set d (at + k) v ≡ paste space at s (k + 1)
  paste_next space d s at k v z far near e f =
      ap₂ (λ l x. set l (at + k) x) e f ∙ paste-suc space at s k z far near ∙ ap (λ (j : ℕ). paste space at s j) (sym (add-one k))

  -- and all of it
  pub paste_all : (space s : List A) (at : ℕ) → paste space at s (length s) ≡ put at s space
  paste_all space s at = ap (λ l. take at space ++ l ++ drop (at + length s) space) (take_all (length s) s (omega arith))
