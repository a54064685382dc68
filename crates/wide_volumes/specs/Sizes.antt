-- Magnitudes of the volumes' digits, from the range of coordinates.
use Rattle.std.specs.Prelude.{List, map, ℕ, ◌*◌, ◌≤◌, get_or, ℤ}
use Rattle.std.proofs.Math.IntN.{nat_abs}
use Rattle.foundation.specs.Lists.{all_image, all_every}
use Rattle.foundation.specs.Polynomial.{integers}
use Rattle.foundation.specs.Words.{args, split, within_split}
use Rattle.definitions.specs.Limits.{base}
use Rattle.definitions.specs.Jacobian.{nodes_of}
use Rattle.definitions.specs.Coefficients.{edge, middle, corner_tetrahedra, edge_tetrahedra}
use Rattle.element_vectors.specs.Range.{InRange}
use Rattle.element_vectors.specs.Sizes.{det_small, edge_small, middle_small}
use Rattle.wide_volumes.specs.Range.{edge_limit, middle_limit, digit_limit}
use Rattle.wide_volumes.specs.Digits.{upper, lower, upper_small, lower_small, corner_digit, edge_digit, digits}

-- a determinant has six products
abbrev pub corner_digit_limit : ℕ
corner_digit_limit = 6 * (digit_limit * (edge_limit * edge_limit))

abbrev pub edge_digit_limit : ℕ
edge_digit_limit = 6 * (digit_limit * (middle_limit * middle_limit))

module _ {xs : List ℤ} (h : InRange base.range xs) where
  digits_small : (f : ℤ → ℤ) → ((z : ℤ) → nat_abs z ≤ edge_limit → nat_abs (f z) ≤ digit_limit) → (i : ℕ) → nat_abs (args (digits f (nodes_of xs)) i) ≤ split 8 corner_digit_limit edge_digit_limit i
  unfolding digits
  digits_small f s = within_split corner_digit_limit edge_digit_limit (map (corner_digit f (nodes_of xs)) corner_tetrahedra) (map (edge_digit f (nodes_of xs)) edge_tetrahedra)
      (all_image (λ z. nat_abs z ≤ corner_digit_limit) (corner_digit f (nodes_of xs)) corner_tetrahedra (all_every (λ t. nat_abs (corner_digit f (nodes_of xs) t) ≤ corner_digit_limit) corner corner_tetrahedra))
      (all_image (λ z. nat_abs z ≤ edge_digit_limit) (edge_digit f (nodes_of xs)) edge_tetrahedra (all_every (λ t. nat_abs (edge_digit f (nodes_of xs) t) ≤ edge_digit_limit) at_middle edge_tetrahedra))
    where
      first : (a b e : ℕ) → nat_abs (f (edge integers (nodes_of xs) a b e)) ≤ digit_limit
      first a b e = s (edge integers (nodes_of xs) a b e) (edge_small h a b e)

      corner : (t : List ℕ) → nat_abs (corner_digit f (nodes_of xs) t) ≤ corner_digit_limit
      corner t = let n : ℕ → ℕ = λ i. get_or t i 0 in
          det_small digit_limit edge_limit (λ e. f (edge integers (nodes_of xs) (n 0) (n 1) e)) (edge integers (nodes_of xs) (n 0) (n 2)) (edge integers (nodes_of xs) (n 0) (n 3))
          (first (n 0) (n 1)) (edge_small h (n 0) (n 2)) (edge_small h (n 0) (n 3))

      at_middle : (t : List ℕ) → nat_abs (edge_digit f (nodes_of xs) t) ≤ edge_digit_limit
      at_middle t = let n : ℕ → ℕ = λ i. get_or t i 0 in
          det_small digit_limit middle_limit (λ e. f (edge integers (nodes_of xs) (n 0) (n 1) e)) (middle integers (nodes_of xs) (n 0) (n 2) (n 3)) (middle integers (nodes_of xs) (n 0) (n 4) (n 5))
          (first (n 0) (n 1)) (middle_small h (n 0) (n 2) (n 3)) (middle_small h (n 0) (n 4) (n 5))

  pub upper_digits_small : (i : ℕ) → nat_abs (args (digits upper (nodes_of xs)) i) ≤ split 8 corner_digit_limit edge_digit_limit i
  upper_digits_small = digits_small upper upper_small

  pub lower_digits_small : (i : ℕ) → nat_abs (args (digits lower (nodes_of xs)) i) ≤ split 8 corner_digit_limit edge_digit_limit i
  lower_digits_small = digits_small lower (λ z _. lower_small z)
