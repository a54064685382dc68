-- The kinds of records and their counts: word 0 of a record is 0, 1, 2, 5, 6 or 7, and of records that each have a kind all are counted, each once.
use Rattle.std.specs.Prelude.{◌≡◌, refl, Bool, true, false, ◌||◌, List, [], ◌∷◌, ◌++◌, ℕ, suc, ◌+◌, length, ℤ, pos, negsuc}
use Rattle.std.proofs.Common.{sym, ◌∙◌, ap, true≢false, arith, eqb-true}
use Rattle.foundation.specs.Lists.{All}
use Rattle.definitions.specs.Record.{kind_word, is_number, is_valid, is_invalid, is_undecided, is_refused}
use Rattle.definitions.specs.Mesh.{Counts, how_many, counts_of}

abbrev pub is_refusal : ℤ → Bool
is_refusal z = is_number 5 z || (is_number 6 z || is_number 7 z)

abbrev pub is_kind : ℤ → Bool
is_kind z = is_number 0 z || (is_number 1 z || (is_number 2 z || is_refusal z))

abbrev pub HasKind : List ℤ → Type 0
HasKind r = is_kind (kind_word r) ≡ true

pub data Kind (z : ℤ) : Type 0 where
  kind0 : z ≡ pos 0 → Kind z
  kind1 : z ≡ pos 1 → Kind z
  kind2 : z ≡ pos 2 → Kind z
  kind5 : z ≡ pos 5 → Kind z
  kind6 : z ≡ pos 6 → Kind z
  kind7 : z ≡ pos 7 → Kind z

pub number_is : (k : ℕ) (z : ℤ) → is_number k z ≡ true → z ≡ pos k
number_is k (pos n) e = ap pos (eqb-true n k e)
number_is k (negsuc n) e = absurd (true≢false (sym e))

-- by the first of the numbers that it is
pub kind_of : (z : ℤ) → is_kind z ≡ true → Kind z
kind_of z h = zeroth (is_number 0 z) refl h
  where
    seventh : (b : Bool) → is_number 7 z ≡ b → b ≡ true → Kind z
    seventh b e t = kind7 (number_is 7 z (e ∙ t))

    sixth : (b : Bool) → is_number 6 z ≡ b → (b || is_number 7 z) ≡ true → Kind z
    sixth true e t = kind6 (number_is 6 z e)
    sixth false e t = seventh (is_number 7 z) refl t

    fifth : (b : Bool) → is_number 5 z ≡ b → (b || (is_number 6 z || is_number 7 z)) ≡ true → Kind z
    fifth true e t = kind5 (number_is 5 z e)
    fifth false e t = sixth (is_number 6 z) refl t

    second : (b : Bool) → is_number 2 z ≡ b → (b || is_refusal z) ≡ true → Kind z
    second true e t = kind2 (number_is 2 z e)
    second false e t = fifth (is_number 5 z) refl t

    first : (b : Bool) → is_number 1 z ≡ b → (b || (is_number 2 z || is_refusal z)) ≡ true → Kind z
    first true e t = kind1 (number_is 1 z e)
    first false e t = second (is_number 2 z) refl t

    zeroth : (b : Bool) → is_number 0 z ≡ b → (b || (is_number 1 z || (is_number 2 z || is_refusal z))) ≡ true → Kind z
    zeroth true e t = kind0 (number_is 0 z e)
    zeroth false e t = first (is_number 1 z) refl t

-- ---- one record more, by its word 0
abbrev one : Bool → ℕ
one true = 1
one false = 0

abbrev pub counted : ℤ → Counts → Counts
counted z n = record { valid = n.valid + one (is_number 0 z); invalid = n.invalid + one (is_number 1 z); undecided = n.undecided + one (is_number 2 z); refused = n.refused + one (is_refusal z) }

more_one : (b : Bool) (n : ℕ) → elim b as (λ _. ℕ) [ true ↦ suc n | false ↦ n ] ≡ n + one b
more_one true n = omega arith
more_one false n = omega arith

-- in front of the others, and behind them
pub counts_front : (r : List ℤ) (rs : List (List ℤ)) → counts_of (r ∷ rs) ≡ counted (kind_word r) (counts_of rs)
counts_front r rs i = record {
  valid = more_one (is_valid r) (how_many is_valid rs) i;
  invalid = more_one (is_invalid r) (how_many is_invalid rs) i;
  undecided = more_one (is_undecided r) (how_many is_undecided rs) i;
  refused = more_one (is_refused r) (how_many is_refused rs) i;
}

many_last : (p : List ℤ → Bool) (rs : List (List ℤ)) (r : List ℤ) → how_many p (rs ++ (r ∷ [])) ≡ how_many p rs + one (p r)
many_last p [] r = more_one (p r) 0
many_last p (q ∷ rs) r = ap (λ (n : ℕ). elim (p q) as (λ _. ℕ) [ true ↦ suc n | false ↦ n ]) (many_last p rs r) ∙ go (p q)
  where
    go : (b : Bool) → elim b as (λ _. ℕ) [ true ↦ suc (how_many p rs + one (p r)) | false ↦ how_many p rs + one (p r) ] ≡ elim b as (λ _. ℕ) [ true ↦ suc (how_many p rs) | false ↦ how_many p rs ] + one (p r)
    go true = omega arith
    go false = refl

pub counts_last : (rs : List (List ℤ)) (r : List ℤ) → counts_of (rs ++ (r ∷ [])) ≡ counted (kind_word r) (counts_of rs)
counts_last rs r i = record {
  valid = many_last is_valid rs r i;
  invalid = many_last is_invalid rs r i;
  undecided = many_last is_undecided rs r i;
  refused = many_last is_refused rs r i;
}

-- ---- "The four counts add up to the number of elements."
abbrev pub counts_total : Counts → ℕ
counts_total n = n.valid + n.invalid + n.undecided + n.refused

one_more : (z : ℤ) (n : Counts) → Kind z → counts_total (counted z n) ≡ suc (counts_total n)
one_more z n (kind0 e) = ap (λ (y : ℤ). counts_total (counted y n)) e ∙ omega arith
one_more z n (kind1 e) = ap (λ (y : ℤ). counts_total (counted y n)) e ∙ omega arith
one_more z n (kind2 e) = ap (λ (y : ℤ). counts_total (counted y n)) e ∙ omega arith
one_more z n (kind5 e) = ap (λ (y : ℤ). counts_total (counted y n)) e ∙ omega arith
one_more z n (kind6 e) = ap (λ (y : ℤ). counts_total (counted y n)) e ∙ omega arith
one_more z n (kind7 e) = ap (λ (y : ℤ). counts_total (counted y n)) e ∙ omega arith

pub counts_total_law : (rs : List (List ℤ)) → All HasKind rs → counts_total (counts_of rs) ≡ length rs
counts_total_law [] h = refl
counts_total_law (r ∷ rs) h = ap counts_total (counts_front r rs) ∙ one_more (kind_word r) (counts_of rs) (kind_of (kind_word r) h.0) ∙ ap suc (counts_total_law rs h.1)
