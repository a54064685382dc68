-- The opened cells are counted level by level: how many are opened at each level, and at the levels 0 to m together.
use Rattle.std.specs.Prelude.{◌≡◌, refl, Bool, true, false, List, [], ◌∷◌, ℕ, zero, suc, ◌+◌, length, ℤ}
use Rattle.std.proofs.Common.{◌∙◌, ap, ap₂, length-append}
use Rattle.std.proofs.lemmas.List.{length-map}
use Rattle.definitions.specs.Subdivision.{Cell}
use Rattle.definitions.specs.Verdict.{first_low, found, corners_of, opened_at, through, OpenedCell, opened_on, opened_to, last_level, opened_cells, opened}

-- how many cells, up to and with the first at which p holds
abbrev pub up_to : (Cell → Bool) → List Cell → ℕ
up_to p [] = 0
up_to p (s ∷ ss) = elim (p s) [ true ↦ 1 | false ↦ suc (up_to p ss) ]

abbrev pub count_at : List ℤ → ℕ → ℕ
count_at xs m = up_to (λ s. found (first_low (corners_of xs m s))) (opened_at xs m)

abbrev pub count_to : List ℤ → ℕ → ℕ
count_to xs zero = count_at xs 0
count_to xs (suc m) = count_to xs m + count_at xs (suc m)

length_through : (p : Cell → Bool) (ss : List Cell) → length (through p ss) ≡ up_to p ss
length_through p [] = refl
length_through p (s ∷ ss) = go (p s) (length_through p ss)
  where
    go : (b : Bool) → length (through p ss) ≡ up_to p ss → ◌≡◌ {A = ℕ} (length {A = Cell} (elim b [ true ↦ s ∷ [] | false ↦ s ∷ through p ss ])) (elim b [ true ↦ 1 | false ↦ suc (up_to p ss) ])
    go true h = refl
    go false h = ap suc h

module _ (xs : List ℤ) where
  count_on : (m : ℕ) → length (opened_on xs m) ≡ count_at xs m
  count_on m =
      let p : Cell → Bool = λ s. found (first_low (corners_of xs m s)) in
      length-map {B = OpenedCell} (through p (opened_at xs m)) (λ s. record { level = m; cell = s }) ∙ length_through p (opened_at xs m)

  count_to_law : (m : ℕ) → length (opened_to xs m) ≡ count_to xs m
  count_to_law zero = count_on 0
  count_to_law (suc m) = length-append (opened_to xs m) (opened_on xs (suc m)) ∙ ap₂ ◌+◌ (count_to_law m) (count_on (suc m))

  pub opened_count : (D : ℕ) → opened xs D ≡ count_to xs (last_level xs D)
  unfolding opened opened_cells
  opened_count D = count_to_law (last_level xs D)

  -- the same where the last level is known
  pub opened_at_law : (D l : ℕ) → last_level xs D ≡ l → opened xs D ≡ count_to xs l
  opened_at_law D l e = opened_count D ∙ ap (count_to xs) e
