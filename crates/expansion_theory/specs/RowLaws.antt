-- Where the coefficients stand in the rows; a coefficient of a half by its row; and a half put together row by row.
use Rattle.std.specs.Prelude.{◌≡◌, refl, List, [], ◌∷◌, ℕ, zero, suc, ◌+◌, ◌*◌, ◌/◌, ◌%◌, ◌<◌, ◌≤◌, T, eqb, get_or, set, length, ℤ, pos}
use Rattle.std.proofs.Common.{sym, ◌∙◌, ap, subst, arith, length-set, ext_get_or, get_or-set_same, get_or-set_other}
use Rattle.std.proofs.Math.Decide.{ℕ_discrete}
use Rattle.foundation.specs.Lists.{get_d_image, all_below, equal_below}
use Rattle.foundation.specs.Polynomial.{integers, var, con, add, mul, solve}
use Rattle.foundation.specs.Words.{args}
use Rattle.definitions.specs.Coefficients.{numbering, numbered, place, at}
use Rattle.definitions.specs.Subdivision.{lower, upper, cut_row, cut, halve}
use Rattle.expansion_theory.specs.Cut.{length_halve}
use Rattle.expansion_theory.specs.Control.{Control, Cuttable, within_more}
use Rattle.expansion_theory.specs.Rows.{in_row, in_line, taken, taken_row, put_row, line_at, Agrees, Holds, Row}

-- ---- two functions of numbers compared by computing, at the 27 coefficients of every direction
everywhere : (f g : ℕ → ℕ → ℕ) → T (all_below 81 (λ k. eqb (f (k / 27) (k % 27)) (g (k / 27) (k % 27)))) → (d x : ℕ) → d < 3 → x < 27 → f d x ≡ g d x
everywhere f g t d x ld lx = let p : (27 * d + x) / 27 ≡ d = omega arith in let q : (27 * d + x) % 27 ≡ x = omega arith in
    (λ j. f (sym p j) (sym q j)) ∙ equal_below (λ k. f (k / 27) (k % 27)) (λ k. g (k / 27) (k % 27)) 81 t (27 * d + x) (omega arith) ∙ (λ j. g (p j) (q j))

-- ---- the rows
-- the other two directions, and where coefficient n stands in the rows of direction d
abbrev first : ℕ → ℕ
first zero = 1
first (suc d) = 0

abbrev second : ℕ → ℕ
second zero = 2
second (suc zero) = 2
second (suc (suc d)) = 1

abbrev place_in : ℕ → ℕ → ℕ
place_in e n = place e (get_or numbering n [])

abbrev pub stand : ℕ → ℕ → ℕ
stand d n = 9 * place_in (first d) n + 3 * place_in (second d) n + place_in d n

module _ (d x : ℕ) (ld : d < 3) (lx : x < 27) where
  pub line_small : in_line d x < 27
  line_small = omega (arith, everywhere (λ d x. in_line d x % 27) in_line tt d x ld lx)

  pub stand_small : stand d x < 27
  stand_small = omega (arith, everywhere (λ d x. stand d x % 27) stand tt d x ld lx)

  first_place : place_in (first d) (in_line d x) ≡ x / 9
  first_place = everywhere (λ d x. place_in (first d) (in_line d x)) (λ d x. x / 9) tt d x ld lx

  second_place : place_in (second d) (in_line d x) ≡ x / 3 % 3
  second_place = everywhere (λ d x. place_in (second d) (in_line d x)) (λ d x. x / 3 % 3) tt d x ld lx

  own_place : place_in d (in_line d x) ≡ x % 3
  own_place = everywhere (λ d x. place_in d (in_line d x)) (λ d x. x % 3) tt d x ld lx

  stand_line : stand d (in_line d x) ≡ x
  stand_line = omega (arith, first_place, second_place, own_place)

  pub line_stand : in_line d (stand d x) ≡ x
  line_stand = everywhere (λ d x. in_line d (stand d x)) (λ d x. x) tt d x ld lx

-- the numbers of a row are those of coefficients
pub row_small : {d j x y z : ℕ} → Row d j x y z → (x < 27) × (y < 27) × (z < 27)
row_small {d} {j} r = (
  omega (arith, line_small d (3 * j) r.direction (omega arith)),
  omega (arith, line_small d (3 * j + 1) r.direction (omega arith)),
  omega (arith, line_small d (3 * j + 2) r.direction (omega arith)),
)

-- ---- a coefficient of a half
halve_at : (d h : ℕ) (c : List ℤ) (n : ℕ) → d < 3 → n < 27
    → get_or (halve d h c) n (pos 0) ≡ cut_row integers h (λ t. get_or c (in_row d (place_in (first d) n) (place_in (second d) n) t) (pos 0)) (place_in d n)
unfolding halve numbered at
halve_at zero h c n l k = get_d_image (λ s. cut integers 0 h (at c) (place 0 s) (place 1 s) (place 2 s)) numbering n [] (pos 0) (omega arith)
halve_at (suc zero) h c n l k = get_d_image (λ s. cut integers 1 h (at c) (place 0 s) (place 1 s) (place 2 s)) numbering n [] (pos 0) (omega arith)
halve_at (suc (suc zero)) h c n l k = get_d_image (λ s. cut integers 2 h (at c) (place 0 s) (place 1 s) (place 2 s)) numbering n [] (pos 0) (omega arith)
halve_at (suc (suc (suc d))) h c n l k = absurd (omega arith)

-- a half depends on the three entries of its row alone
row_cong : (h : ℕ) (f g : ℕ → ℤ) (i : ℕ) → f 0 ≡ g 0 → f 1 ≡ g 1 → f 2 ≡ g 2 → cut_row integers h f i ≡ cut_row integers h g i
row_cong zero f g i p q r = λ j. lower integers (p j) (q j) (r j) i
row_cong (suc h) f g i p q r = λ j. upper integers (p j) (q j) (r j) i

-- row j of direction d, in c
abbrev row_of : ℕ → List ℤ → ℕ → List ℤ
row_of d c j = get_or c (in_line d (3 * j)) (pos 0) ∷ get_or c (in_line d (3 * j + 1)) (pos 0) ∷ get_or c (in_line d (3 * j + 2)) (pos 0) ∷ []

entry_is : (d h : ℕ) (c : List ℤ) (j t x : ℕ) → d < 3 → j < 9 → t < 3 → x ≡ 3 * j + t
    → cut_row integers h (args (row_of d c j)) t ≡ get_or (halve d h c) (in_line d x) (pos 0)
entry_is d h c j t x ld lj lt e =
    row_cong h (args (row_of d c j)) (λ s. get_or c (in_row d (j / 3) (j % 3) s) (pos 0)) t (same (3 * j) 0 (omega arith) (omega arith)) (same (3 * j + 1) 1 (omega arith) refl) (same (3 * j + 2) 2 (omega arith) refl)
    ∙ sym (halve_at d h c (in_line d x) ld (line_small d x ld lx) ∙ (λ i. cut_row integers h (λ s. get_or c (in_row d (p i) (q i) s) (pos 0)) (r i)))
  where
    same : (y s : ℕ) → s < 3 → y ≡ 3 * j + s → get_or c (in_line d y) (pos 0) ≡ get_or c (in_row d (j / 3) (j % 3) s) (pos 0)
    same y s ls f = let a : y / 9 ≡ j / 3 = omega arith in let b : y / 3 % 3 ≡ j % 3 = omega arith in let o : y % 3 ≡ s = omega arith in
        λ i. get_or c (in_row d (a i) (b i) (o i)) (pos 0)

    lx : x < 27
    lx = omega arith

    p : place_in (first d) (in_line d x) ≡ j / 3
    p = first_place d x ld lx ∙ omega arith

    q : place_in (second d) (in_line d x) ≡ j % 3
    q = second_place d x ld lx ∙ omega arith

    r : place_in d (in_line d x) ≡ t
    r = own_place d x ld lx ∙ omega arith

-- ---- a half put together
module _ (d : ℕ) (half : List ℤ) (ld : d < 3) where
  agrees_more : (n m : ℕ) (xs : List ℤ) → n < 27 → m ≡ n + 1 → length xs ≡ 27 → Agrees d half n xs → Agrees d half m (taken d half n xs)
  agrees_more n m xs ln next s h x l = elim (ℕ_discrete x n) [
    | yes e ↦ let k : in_line d n < length xs = omega (arith, line_small d n ld ln) in
        let v : ℤ = get_or half (in_line d n) (pos 0) in
        ap (λ (y : ℕ). get_or (taken d half n xs) (in_line d y) (pos 0)) e ∙ get_or-set_same xs (in_line d n) v (pos 0) k ∙ ap (λ (y : ℕ). get_or half (in_line d y) (pos 0)) (sym e)
    | no e ↦ let lx : x < 27 = omega arith in
        get_or-set_other xs (in_line d n) (in_line d x) (get_or half (in_line d n) (pos 0)) (pos 0) (λ p. e (sym (stand_line d x ld lx) ∙ ap (stand d) p ∙ stand_line d n ld ln)) ∙ h x (omega arith)
  ]

  agrees_row : (j : ℕ) (xs : List ℤ) {ys : List ℤ} → ys ≡ taken_row d half j xs → j < 9 → length xs ≡ 27 → Agrees d half (3 * j) xs → (length ys ≡ 27) × Agrees d half (3 * (j + 1)) ys
  agrees_row j xs e l s h = let one = taken d half (3 * j) xs in let two = taken d half (3 * j + 1) one in (
    ap length e ∙ simp length-set s,
    subst (Agrees d half (3 * (j + 1))) (sym e)
        (agrees_more (3 * j + 2) (3 * (j + 1)) two (omega arith) (omega arith) (simp length-set s)
        (agrees_more (3 * j + 1) (3 * j + 2) one (omega arith) (omega arith) (simp length-set s)
        (agrees_more (3 * j) (3 * j + 1) xs (omega arith) refl s h))),
  )

  agrees_all : (xs : List ℤ) → length xs ≡ 27 → length half ≡ 27 → Agrees d half 27 xs → xs ≡ half
  agrees_all xs s z h = ext_get_or (pos 0) xs half (s ∙ sym z) (λ n l. let k : n < 27 = omega arith in
      let e : in_line d (stand d n) ≡ n = line_stand d n ld k in
      subst (λ (m : ℕ). get_or xs m (pos 0) ≡ get_or half m (pos 0)) e (h (stand d n) (stand_small d n ld k)))

-- ---- a half from its nine rows
-- what the code puts is what is taken from the half
row_taken : (d h j : ℕ) {x y z : ℕ} (c xs : List ℤ) → Row d j x y z → put_row h (line_at c x y z) x y z xs ≡ taken_row d (halve d h c) j xs
unfolding put_row
row_taken d h j c xs r = (λ i. put_row h (line_at c (r.start i) (r.middle i) (r.end i)) (r.start i) (r.middle i) (r.end i) xs)
    ∙ (λ i. set (set (set xs (in_line d (3 * j)) (entry_is d h c j 0 (3 * j) r.direction r.number (omega arith) (omega arith) i)) (in_line d (3 * j + 1)) (entry_is d h c j 1 (3 * j + 1) r.direction r.number (omega arith) refl i)) (in_line d (3 * j + 2)) (entry_is d h c j 2 (3 * j + 2) r.direction r.number (omega arith) refl i))

-- before the first row
-- what can be cut is at most a quarter of the largest
pub cut_within : (top quarter : ℕ) (c : List ℤ) → ((n : ℕ) → 4 * n ≤ top → n ≤ quarter) → Cuttable top c → Control quarter c
cut_within top quarter c h w = record { sized = w.control.sized; within = within_more w.bound quarter c (h w.bound w.room) w.control.within }

pub none_held : {b : ℕ} (d h : ℕ) {c xs : List ℤ} → Control b c → length xs ≡ 27 → Holds b d h 0 c xs
none_held d h p s = record { control = p; sized = s; agrees = λ x k. absurd (omega arith) }

-- one row more
pub row_held : {b d h j x y z : ℕ} {c xs ys : List ℤ} → Row d j x y z → Holds b d h j c xs → ys ≡ put_row h (line_at c x y z) x y z xs → Holds b d h (j + 1) c ys
row_held {d} {h} {j} {c = c} {xs} r p e = let (s, a) = agrees_row d (halve d h c) r.direction j xs (e ∙ row_taken d h j c xs r) r.number p.sized p.agrees in record { control = p.control; sized = s; agrees = a }

-- every side but 0 is the upper one
upper_side : (d h : ℕ) (c : List ℤ) → (h ≡ 0 → ⊥) → halve d 1 c ≡ halve d h c
unfolding halve
upper_side d zero c ne = absurd (ne refl)
upper_side zero (suc h) c ne = refl
upper_side (suc zero) (suc h) c ne = refl
upper_side (suc (suc d)) (suc h) c ne = refl

-- after the last row: the direction d is n, and the side h is that of the rows
module _ {b d : ℕ} (n : ℕ) {c xs : List ℤ} (l : n < 3) (e : d ≡ n) where
  all_held : {g : ℕ} → Holds b n g 9 c xs → xs ≡ halve d g c
  all_held {g} p = agrees_all n (halve n g c) l xs p.sized (length_halve n g c) p.agrees ∙ ap (λ (m : ℕ). halve m g c) (sym e)

  pub lower_held : {h : ℕ} → h ≡ 0 → Holds b n 0 9 c xs → xs ≡ halve d h c
  lower_held z p = all_held p ∙ ap (λ (g : ℕ). halve d g c) (sym z)

  pub upper_held : {h : ℕ} → (h ≡ 0 → ⊥) → Holds b n 1 9 c xs → xs ≡ halve d h c
  upper_held {h} z p = all_held p ∙ upper_side d h c z

-- ---- the upper half of a row is the lower half of the row turned round, turned round
module _ (p q r : ℤ) where
  abbrev row : ℕ → ℤ
  row = args (p ∷ q ∷ r ∷ [])

  abbrev turned : ℕ → ℤ
  turned = args (r ∷ q ∷ p ∷ [])

  pub turned_start : cut_row integers 0 turned 2 ≡ cut_row integers 1 row 0
  turned_start = solve row (add (add (var 2) (mul (con (pos 2)) (var 1))) (var 0)) (add (add (var 0) (mul (con (pos 2)) (var 1))) (var 2)) tt

  pub turned_middle : cut_row integers 0 turned 1 ≡ cut_row integers 1 row 1
  turned_middle = solve row (add (mul (con (pos 2)) (var 2)) (mul (con (pos 2)) (var 1))) (add (mul (con (pos 2)) (var 1)) (mul (con (pos 2)) (var 2))) tt

  pub turned_end : cut_row integers 0 turned 0 ≡ cut_row integers 1 row 2
  turned_end = refl
