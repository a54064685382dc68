-- What follows of points within the limits and of an element's points, at any limits. Assumes nothing.
use Rattle.std.specs.Prelude.{◌≡◌, List, ℕ, ◌+◌, ◌*◌, ◌/◌, ◌%◌, ◌<◌, ◌≤◌, length, ℤ, pos, nat_abs}
use Rattle.std.proofs.Math.Path.{refl}
use Rattle.std.proofs.Common.{◌∙◌, arith}
use Rattle.std.proofs.Math.Bool.{not}
use Rattle.std.proofs.Math.Option.{none}
use borrow.Author.Tests.{not-false, leb-true}
use Rattle.std.proofs.Math.ListN.{get_or}
use Rattle.foundation.specs.Lists.{get_d_all, tabulate_at}
use Rattle.foundation.specs.Words.{Within, within}
use Rattle.definitions.specs.Limits.{Limits}
use Rattle.definitions.specs.Mesh.{usable, points_of, out_of_range}
use Rattle.mesh_points.specs.Search.{first_none}

-- ---- points within the limits
module _ (L : Limits) (xs : List ℤ) (inside : out_of_range L xs ≡ none) where
  pub coordinate_within : (i : ℕ) → i < 24 → nat_abs (get_or xs i (pos 0)) ≤ L.range
  unfolding out_of_range
  coordinate_within i h = leb-true _ _ (not-false _ (first_none (λ k. not (usable L (get_or xs k (pos 0)))) 0 24 inside i (omega arith) h))

  pub points_within : length xs ≡ 24 → Within L.range xs
  points_within n = get_d_all (λ x. nat_abs x ≤ L.range) xs (pos 0) (λ i h. coordinate_within i (omega arith))

  -- past the end too, where 0 is read
  pub read_within : length xs ≡ 24 → (i : ℕ) → nat_abs (get_or xs i (pos 0)) ≤ L.range
  read_within n = within L.range xs (points_within n)

-- ---- an element's points
module _ (coordinates : List ℤ) (ix : List ℕ) where
  pub length_points : length (points_of coordinates ix) ≡ 24
  unfolding points_of
  length_points = refl

  pub point_at : (k : ℕ) → k < 24 → get_or (points_of coordinates ix) k (pos 0) ≡ get_or coordinates (3 * get_or ix (k / 3) 0 + k % 3) (pos 0)
  unfolding points_of
  point_at k h = tabulate_at (λ k. get_or coordinates (3 * get_or ix (k / 3) 0 + k % 3) (pos 0)) 24 k (pos 0) h

  pub axis_at : (k t : ℕ) → k < 8 → t < 3 → get_or (points_of coordinates ix) (3 * k + t) (pos 0) ≡ get_or coordinates (3 * get_or ix k 0 + t) (pos 0)
  axis_at k t h l = let p : (3 * k + t) / 3 ≡ k = omega arith in let q : (3 * k + t) % 3 ≡ t = omega arith in
      point_at (3 * k + t) (omega arith) ∙ (λ i. get_or coordinates (3 * get_or ix (p i) 0 + q i) (pos 0))
