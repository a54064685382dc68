-- Document 01, "Cutting a cube". A cell is a cube of some level: the grid numbers of its lowest corner and its 27 coefficients, held times 8 · 64^level.
use Rattle.std.specs.Prelude.{List, [], ◌∷◌, ℕ, zero, suc, ◌+◌, ◌*◌, ℤ, pos}
use Rattle.foundation.specs.Polynomial.{Arithmetic, integers}
use Rattle.foundation.specs.Lists.{concat_map, tabulate}
use Rattle.definitions.specs.Jacobian.{side}
use Rattle.definitions.specs.Coefficients.{numbered, at, coefficients}

-- A row of the 27 in direction d: three values in line, at the places u and v of the other two directions.
abbrev pub row_at : {A : Type 0} → ℕ → (ℕ → ℕ → ℕ → A) → ℕ → ℕ → ℕ → A
row_at zero c u v t = c t u v
row_at (suc zero) c u v t = c u t v
row_at (suc (suc d)) c u v t = c u v t

-- the nine rows of direction d
abbrev pub rows : {A : Type 0} → ℕ → (ℕ → ℕ → ℕ → A) → List (List A)
rows d c = concat_map (λ u. tabulate (λ v. tabulate (row_at d c u v) 0 3) 0 3) (tabulate (λ u. u) 0 3)

module _ {A : Type 0} (o : Arithmetic A) where
  infixl 6 ◌⊕◌
  infixl 7 ◌⊗◌
  open o use {plus as ◌⊕◌, times as ◌⊗◌, whole as number}

  -- "A row (p, q, r) cut in the middle gives (p, (p+q)/2, (p+2q+r)/4) and ((p+2q+r)/4, (q+r)/2, r) … Kept four times larger it needs no division."
  abbrev pub lower : A → A → A → ℕ → A
  lower p q r zero = number (pos 4) ⊗ p
  lower p q r (suc zero) = number (pos 2) ⊗ p ⊕ number (pos 2) ⊗ q
  lower p q r (suc (suc i)) = p ⊕ number (pos 2) ⊗ q ⊕ r

  abbrev pub upper : A → A → A → ℕ → A
  upper p q r zero = p ⊕ number (pos 2) ⊗ q ⊕ r
  upper p q r (suc zero) = number (pos 2) ⊗ q ⊕ number (pos 2) ⊗ r
  upper p q r (suc (suc i)) = number (pos 4) ⊗ r

  -- the half on side h of the row f 0, f 1, f 2
  abbrev pub cut_row : ℕ → (ℕ → A) → ℕ → A
  cut_row zero f = lower (f 0) (f 1) (f 2)
  cut_row (suc h) f = upper (f 0) (f 1) (f 2)

  -- the half on side h in direction d: each of its nine rows cut
  abbrev pub cut : ℕ → ℕ → (ℕ → ℕ → ℕ → A) → ℕ → ℕ → ℕ → A
  cut zero h c i j k = cut_row h (row_at 0 c j k) i
  cut (suc zero) h c i j k = cut_row h (row_at 1 c i k) j
  cut (suc (suc d)) h c i j k = cut_row h (row_at 2 c i j) k

unfoldable pub halve : ℕ → ℕ → List ℤ → List ℤ
halve d h c = numbered (cut integers d h (at c))

pub record Cell : Type 0 where
  pub a : ℕ
  pub b : ℕ
  pub c : ℕ
  pub control : List ℤ

-- "Doing so in ξ, η and ζ makes eight children, numbered as the corners they touch, each 64 times larger."
unfoldable pub child : Cell → ℕ → Cell
child s k = record {
  a = 2 * s.a + side 0 k;
  b = 2 * s.b + side 1 k;
  c = 2 * s.c + side 2 k;
  control = halve 2 (side 2 k) (halve 1 (side 1 k) (halve 0 (side 0 k) s.control));
}

unfoldable pub children : Cell → List Cell
children s = tabulate (child s) 0 8

unfoldable pub whole : List ℤ → Cell
whole xs = record { a = 0; b = 0; c = 0; control = coefficients xs }

-- m levels below the given cells
abbrev pub descend : (Cell → List Cell) → ℕ → List Cell → List Cell
descend next zero ss = ss
descend next (suc m) ss = concat_map next (descend next m ss)

-- "Cubes of one level stand in path order: by the first child number, then the second, then the third."
abbrev pub cells : List ℤ → ℕ → List Cell
cells xs m = descend children m (whole xs ∷ [])
