-- J at the 27 grid points of the next level in a cell, from its coefficients: where it is above 0 at all of them, no child has a low corner.
use Rattle.std.specs.Prelude.{◌≡◌, refl, Bool, true, false, ◌||◌, List, [], ◌∷◌, ℕ, zero, suc, ◌+◌, ◌*◌, ◌<◌, ◌≤◌, get_or, ℤ, pos, nat_abs, ◌+ℤ◌, ◌*ℤ◌}
use Rattle.std.proofs.Common.{sym, ◌∙◌, ap, subst, true≢false, zero-le, le_trans as at-most-trans, arith}
use Rattle.std.specs.Int.Signed.{le_z, le_z_yes}
use Rattle.foundation.specs.Lists.{all_get_d_default, get_d_image, equal_below}
use Rattle.foundation.specs.Polynomial.{integers, Expr, var, con, mul, expressions, solve}
use Rattle.foundation.specs.Magnitude.{magnitude_add, magnitude_mul}
use Rattle.foundation.specs.Words.{args, Within}
use Rattle.foundation.specs.Order.{Positive, le_trans, le_scale, not_low_positive}
use Rattle.definitions.specs.Jacobian.{side}
use Rattle.definitions.specs.Coefficients.{numbering, place, numbered, at}
use Rattle.definitions.specs.Subdivision.{cut_row, cut, halve}
use Rattle.expansion_theory.specs.Rows.{line_at}
use Rattle.verdict_theory.specs.Points.{side_small}
use Rattle.verdict_theory.specs.Commute.{halve_numbered}
use Rattle.verdict_theory.specs.Clear.{child_control}
use Rattle.search_theory.specs.Meaning.{Small}

-- ---- the points of a row: its ends and its middle, which is kept four times larger
abbrev pub middle : (ℕ → ℤ) → ℤ
middle f = cut_row integers 0 f 2

-- the row of the middles of three rows
abbrev pub middles : List ℤ → List ℤ → List ℤ → ℕ → ℤ
middles p q r = args (middle (args p) ∷ middle (args q) ∷ middle (args r) ∷ [])

pub middle_size : (b : ℕ) (f : ℕ → ℤ) → nat_abs (f 0) ≤ b → nat_abs (f 1) ≤ b → nat_abs (f 2) ≤ b → nat_abs (middle f) ≤ 4 * b
middle_size b f p q r = omega (arith, magnitude_add (f 0 +ℤ pos 2 *ℤ f 1) (f 2), magnitude_add (f 0) (pos 2 *ℤ f 1), magnitude_mul (pos 2) (f 1), p, q, r)

-- ---- magnitudes: the middles of rows, and of rows of those, can be cut
module _ (top quarter : ℕ) (fits : (n : ℕ) → 4 * n ≤ top → n ≤ quarter) (g : List ℤ) (w : Small top g 1) where
  value_size : (x : ℕ) → nat_abs (get_or g x (pos 0)) ≤ w.bound
  value_size x = all_get_d_default (λ v. nat_abs v ≤ w.bound) g (pos 0) x (zero-le {n = w.bound}) w.control.within

  row_size : (x y z : ℕ) → nat_abs (middle (args (line_at g x y z))) ≤ 4 * w.bound
  row_size x y z = middle_size w.bound (args (line_at g x y z)) (value_size x) (value_size y) (value_size z)

  pub line_fits : (x y z : ℕ) → Within quarter (line_at g x y z)
  line_fits x y z = let l : w.bound ≤ quarter = fits w.bound (omega (arith, w.small)) in (at-most-trans (value_size x) l, (at-most-trans (value_size y) l, (at-most-trans (value_size z) l, tt)))

  module _ (a b c d e f x y z : ℕ) where
    pub middles_fit : Within quarter (middle (args (line_at g a b c)) ∷ middle (args (line_at g d e f)) ∷ middle (args (line_at g x y z)) ∷ [])
    middles_fit = let l : 4 * w.bound ≤ quarter = fits (4 * w.bound) (omega (arith, w.small)) in (at-most-trans (row_size a b c) l, (at-most-trans (row_size d e f) l, (at-most-trans (row_size x y z) l, tt)))

    pub across_fits : nat_abs (middle (middles (line_at g a b c) (line_at g d e f) (line_at g x y z))) ≤ quarter
    across_fits = at-most-trans (middle_size (4 * w.bound) (middles (line_at g a b c) (line_at g d e f) (line_at g x y z)) (row_size a b c) (row_size d e f) (row_size x y z)) (fits (4 * (4 * w.bound)) (omega (arith, w.small)))

abbrev point : ℕ → (ℕ → ℤ) → ℤ
point zero f = f 0
point (suc zero) f = middle f
point (suc (suc t)) f = f 2

abbrev pub low_value : ℤ → Bool
low_value v = le_z v (pos 0)

-- whether one of the points is not above 0: of a row, of a plane of three rows, of the cell, three planes
abbrev pub low_in_row : (ℕ → ℤ) → Bool
low_in_row f = low_value (f 0) || (low_value (f 2) || low_value (middle f))

abbrev pub low_in_plane : (ℕ → ℕ → ℤ) → Bool
low_in_plane f = low_in_row (f 0) || (low_in_row (f 2) || low_in_row (λ t. middle (λ u. f u t)))

unfoldable pub faces_low : List ℤ → Bool
faces_low c = low_in_plane (at c 0) || low_in_plane (at c 2)

unfoldable pub between_low : List ℤ → Bool
between_low c = low_in_plane (λ j k. middle (λ i. at c i j k))

abbrev pub grid_low : List ℤ → Bool
grid_low c = faces_low c || between_low c

neither : (a b : Bool) → (a || b) ≡ false → (a ≡ false) × (b ≡ false)
neither true b e = absurd (true≢false e)
neither false b e = (refl, e)

row_points : (f : ℕ → ℤ) → low_in_row f ≡ false → (t : ℕ) → Positive (point t f)
row_points f e t = let (p, q) = neither (low_value (f 0)) (low_value (f 2) || low_value (middle f)) e in let (r, m) = neither (low_value (f 2)) (low_value (middle f)) q in go p r m t
  where
    go : low_value (f 0) ≡ false → low_value (f 2) ≡ false → low_value (middle f) ≡ false → (t : ℕ) → Positive (point t f)
    go p r m zero = not_low_positive (f 0) p
    go p r m (suc zero) = not_low_positive (middle f) m
    go p r m (suc (suc t)) = not_low_positive (f 2) r

plane_points : (f : ℕ → ℕ → ℤ) → low_in_plane f ≡ false → (u t : ℕ) → Positive (point t (λ y. point u (λ x. f x y)))
plane_points f e u t = let (p, q) = neither (low_in_row (f 0)) (low_in_row (f 2) || low_in_row (λ t. middle (λ u. f u t))) e in let (r, m) = neither (low_in_row (f 2)) (low_in_row (λ t. middle (λ u. f u t))) q in go p r m u
  where
    go : low_in_row (f 0) ≡ false → low_in_row (f 2) ≡ false → low_in_row (λ t. middle (λ u. f u t)) ≡ false → (u : ℕ) → Positive (point t (λ y. point u (λ x. f x y)))
    go p r m zero = row_points (f 0) p t
    go p r m (suc zero) = row_points (λ t. middle (λ u. f u t)) m t
    go p r m (suc (suc u)) = row_points (f 2) r t

cell_points : (c : List ℤ) → grid_low c ≡ false → (i j k : ℕ) → Positive (point k (λ z. point j (λ y. point i (λ x. at c x y z))))
unfolding faces_low between_low
cell_points c e i j k = let (q, m) = neither (low_in_plane (at c 0) || low_in_plane (at c 2)) (low_in_plane (λ j k. middle (λ i. at c i j k))) e in let (p, r) = neither (low_in_plane (at c 0)) (low_in_plane (at c 2)) q in go p r m i
  where
    go : low_in_plane (at c 0) ≡ false → low_in_plane (at c 2) ≡ false → low_in_plane (λ j k. middle (λ i. at c i j k)) ≡ false → (i : ℕ) → Positive (point k (λ z. point j (λ y. point i (λ x. at c x y z))))
    go p r m zero = plane_points (at c 0) p j k
    go p r m (suc zero) = plane_points (λ j k. middle (λ i. at c i j k)) m j k
    go p r m (suc (suc i)) = plane_points (at c 2) r j k

-- ---- the ends of a half row are points of the row, one or four times
abbrev times : ℕ → ℕ
times zero = 4
times (suc zero) = 1
times (suc (suc t)) = 4

abbrev mid3 : Expr
mid3 = cut_row expressions 0 var 2

end_is : (h e : ℕ) → h < 2 → e < 2 → (f : ℕ → ℤ) → cut_row integers h f (2 * e) ≡ pos (times (h + e)) *ℤ point (h + e) f
end_is zero zero l m f = refl
end_is zero (suc zero) l m f = solve f mid3 (mul (con (pos 1)) mid3) tt
end_is zero (suc (suc e)) l m f = absurd (omega arith)
end_is (suc zero) zero l m f = solve f mid3 (mul (con (pos 1)) mid3) tt
end_is (suc zero) (suc zero) l m f = refl
end_is (suc zero) (suc (suc e)) l m f = absurd (omega arith)
end_is (suc (suc h)) e l m f = absurd (omega arith)

-- a multiple of a row has the multiple of its points
scaled_middle : (w : ℤ) (f : ℕ → ℤ) → middle (λ t. w *ℤ f t) ≡ w *ℤ middle f
scaled_middle w f = solve (λ n. elim n [ zero ↦ w | suc t ↦ f t ]) (cut_row expressions 0 (λ t. mul (var 0) (var (suc t))) 2) (mul (var 0) (cut_row expressions 0 (λ t. var (suc t)) 2)) tt

scaled_point : (t : ℕ) (w : ℤ) (f : ℕ → ℤ) → point t (λ s. w *ℤ f s) ≡ w *ℤ point t f
scaled_point zero w f = refl
scaled_point (suc zero) w f = scaled_middle w f
scaled_point (suc (suc t)) w f = refl

-- ---- the corners of the children
corner_is : (h e : ℕ → ℕ) → ((d : ℕ) → (h d < 2) × (e d < 2)) → (g : ℕ → ℕ → ℕ → ℤ)
    → cut integers 2 (h 2) (cut integers 1 (h 1) (cut integers 0 (h 0) g)) (2 * e 0) (2 * e 1) (2 * e 2)
    ≡ pos (times (h 2 + e 2)) *ℤ (pos (times (h 1 + e 1)) *ℤ (pos (times (h 0 + e 0)) *ℤ point (h 2 + e 2) (λ z. point (h 1 + e 1) (λ y. point (h 0 + e 0) (λ x. g x y z)))))
corner_is h e l g =
    end_is (h 2) (e 2) (l 2).0 (l 2).1 (λ z. cut integers 1 (h 1) (cut integers 0 (h 0) g) (2 * e 0) (2 * e 1) z)
    ∙ (λ i. pos (times t₂) *ℤ point t₂ (λ z. along_two z i))
    ∙ ap (λ (v : ℤ). pos (times t₂) *ℤ v) (scaled_point t₂ (pos (times t₁)) (λ z. pos (times t₀) *ℤ two z) ∙ ap (λ (v : ℤ). pos (times t₁) *ℤ v) (scaled_point t₂ (pos (times t₀)) two))
  where
    t₀ : ℕ
    t₀ = h 0 + e 0

    t₁ : ℕ
    t₁ = h 1 + e 1

    t₂ : ℕ
    t₂ = h 2 + e 2

    two : ℕ → ℤ
    two z = point t₁ (λ y. point t₀ (λ x. g x y z))

    along_two : (z : ℕ) → cut integers 1 (h 1) (cut integers 0 (h 0) g) (2 * e 0) (2 * e 1) z ≡ pos (times t₁) *ℤ (pos (times t₀) *ℤ two z)
    along_two z = end_is (h 1) (e 1) (l 1).0 (l 1).1 (λ y. cut_row integers (h 0) (λ x. g x y z) (2 * e 0))
        ∙ (λ i. pos (times t₁) *ℤ point t₁ (λ y. end_is (h 0) (e 0) (l 0).0 (l 0).1 (λ x. g x y z) i))
        ∙ ap (λ (v : ℤ). pos (times t₁) *ℤ v) (scaled_point t₁ (pos (times t₀)) (λ y. point t₀ (λ x. g x y z)))

positive_times : (t : ℕ) (v : ℤ) → Positive v → Positive (pos (times t) *ℤ v)
positive_times zero v p = le_trans (le_z_yes tt) (le_scale 4 p)
positive_times (suc zero) v p = le_scale 1 p
positive_times (suc (suc t)) v p = le_trans (le_z_yes tt) (le_scale 4 p)

-- child k as a function of the cell's places, and corner n in it
child_numbered : (c : List ℤ) (k : ℕ) → child_control c k ≡ numbered (cut integers 2 (side 2 k) (cut integers 1 (side 1 k) (cut integers 0 (side 0 k) (at c))))
unfolding halve
child_numbered c k = ap (λ l. halve 2 (side 2 k) l) (halve_numbered 1 (side 1 k) (cut integers 0 (side 0 k) (at c))) ∙ halve_numbered 2 (side 2 k) (cut integers 1 (side 1 k) (cut integers 0 (side 0 k) (at c)))

corner_place : (d n : ℕ) → d < 3 → n < 8 → place d (get_or numbering n []) ≡ 2 * side d n
corner_place zero n l h = equal_below (λ n. place 0 (get_or numbering n [])) (λ n. 2 * side 0 n) 8 tt n h
corner_place (suc zero) n l h = equal_below (λ n. place 1 (get_or numbering n [])) (λ n. 2 * side 1 n) 8 tt n h
corner_place (suc (suc zero)) n l h = equal_below (λ n. place 2 (get_or numbering n [])) (λ n. 2 * side 2 n) 8 tt n h
corner_place (suc (suc (suc d))) n l h = absurd (omega arith)

corner_numbered : (f : ℕ → ℕ → ℕ → ℤ) (n : ℕ) → n < 8 → get_or (numbered f) n (pos 0) ≡ f (2 * side 0 n) (2 * side 1 n) (2 * side 2 n)
unfolding numbered
corner_numbered f n h = get_d_image (λ s. f (place 0 s) (place 1 s) (place 2 s)) numbering n [] (pos 0) (omega arith)
    ∙ (λ i. f (corner_place 0 n (omega arith) h i) (corner_place 1 n (omega arith) h i) (corner_place 2 n (omega arith) h i))

pub corners_positive : (c : List ℤ) → grid_low c ≡ false → (k n : ℕ) → n < 8 → Positive (get_or (child_control c k) n (pos 0))
corners_positive c e k n h =
    let i = side 0 k + side 0 n in let j = side 1 k + side 1 n in let l = side 2 k + side 2 n in let p = cell_points c e i j l in
    let v = point l (λ z. point j (λ y. point i (λ x. at c x y z))) in
    subst Positive
    (sym (ap (λ xs. get_or xs n (pos 0)) (child_numbered c k) ∙ corner_numbered (cut integers 2 (side 2 k) (cut integers 1 (side 1 k) (cut integers 0 (side 0 k) (at c)))) n h
    ∙ corner_is (λ d. side d k) (λ d. side d n) (λ d. (side_small d k, side_small d n)) (at c)))
    (positive_times l _ (positive_times j _ (positive_times i v p)))
