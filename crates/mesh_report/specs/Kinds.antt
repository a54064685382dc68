-- One record more, counted by its kind, as the code's branches do it. Assumes nothing.
use Rattle.std.specs.Prelude.{◌≡◌, refl, true, List, [], ◌∷◌, ℕ, ◌+◌, ◌<◌, get_or, length, ℤ, pos}
use Rattle.std.proofs.Common.{sym, ◌∙◌, ap, arith}
use Rattle.definitions.specs.Mesh.{Counts}
use Rattle.verdict_theory.specs.Kinds.{is_kind, Kind, kind0, kind1, kind2, kind5, kind6, kind7, kind_of, counted}

-- a record's word 0 does not depend on what is read past its end
pub first_word : (r : List ℤ) → 0 < length r → (y z : ℤ) → get_or r 0 y ≡ get_or r 0 z
first_word [] h y z = absurd (omega arith)
first_word (x ∷ r) h y z = refl

same : (n : ℕ) → n ≡ n + 0
same n = omega arith

module _ (z : ℤ) (n : Counts) where
  pub counted_valid : z ≡ pos 0 → record { valid = n.valid + 1; invalid = n.invalid; undecided = n.undecided; refused = n.refused } ≡ counted z n
  counted_valid e = (λ i. record { valid = n.valid + 1; invalid = same n.invalid i; undecided = same n.undecided i; refused = same n.refused i }) ∙ sym (ap (λ (y : ℤ). counted y n) e)

  pub counted_invalid : z ≡ pos 1 → record { valid = n.valid; invalid = n.invalid + 1; undecided = n.undecided; refused = n.refused } ≡ counted z n
  counted_invalid e = (λ i. record { valid = same n.valid i; invalid = n.invalid + 1; undecided = same n.undecided i; refused = same n.refused i }) ∙ sym (ap (λ (y : ℤ). counted y n) e)

  pub counted_undecided : z ≡ pos 2 → record { valid = n.valid; invalid = n.invalid; undecided = n.undecided + 1; refused = n.refused } ≡ counted z n
  counted_undecided e = (λ i. record { valid = same n.valid i; invalid = same n.invalid i; undecided = n.undecided + 1; refused = same n.refused i }) ∙ sym (ap (λ (y : ℤ). counted y n) e)

  -- any other kind is a refusal's
  pub counted_refused : is_kind z ≡ true → (z ≡ pos 0 → ⊥) → (z ≡ pos 1 → ⊥) → (z ≡ pos 2 → ⊥) → record { valid = n.valid; invalid = n.invalid; undecided = n.undecided; refused = n.refused + 1 } ≡ counted z n
  counted_refused known no0 no1 no2 = go (kind_of z known)
    where
      one : record { valid = n.valid; invalid = n.invalid; undecided = n.undecided; refused = n.refused + 1 } ≡ counted (pos 5) n
      one i = record { valid = same n.valid i; invalid = same n.invalid i; undecided = same n.undecided i; refused = n.refused + 1 }

      go : Kind z → record { valid = n.valid; invalid = n.invalid; undecided = n.undecided; refused = n.refused + 1 } ≡ counted z n
      go (kind0 e) = absurd (no0 e)
      go (kind1 e) = absurd (no1 e)
      go (kind2 e) = absurd (no2 e)
      go (kind5 e) = one ∙ sym (ap (λ (y : ℤ). counted y n) e)
      go (kind6 e) = one ∙ sym (ap (λ (y : ℤ). counted y n) e)
      go (kind7 e) = one ∙ sym (ap (λ (y : ℤ). counted y n) e)
