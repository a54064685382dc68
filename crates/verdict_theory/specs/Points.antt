-- The corners of the cells of a level are its grid points.
use Rattle.std.specs.Prelude.{◌≡◌, Bool, ◌&&◌, List, [], ◌∷◌, ℕ, zero, suc, ◌+◌, ◌*◌, ◌-◌, ◌/◌, ◌%◌, ◌<◌, ◌≤◌, ◌^◌, ltb, eqb, get_or, ℤ, pos, ◌*ℤ◌}
use Rattle.std.proofs.Common.{◌∙◌, subst, arith, eqb→eq, ltb→lt}
use Rattle.std.proofs.Math.Decide.{dec_lt}
use Rattle.std.specs.Float.Ieee.Fits.{and_l, and_r}
use Rattle.foundation.specs.Order.{Positive, positive_unscale}
use Rattle.foundation.specs.Lists.{All, all_map, all_concat, concat_all, all_tabulate, tabulate_all, concat_map, tabulate, below, down, all_get_d_default}
use Rattle.definitions.specs.Jacobian.{sides, side, scaled_jacobian}
use Rattle.definitions.specs.Subdivision.{Cell, child, children, whole, cells}
use Rattle.definitions.specs.Verdict.{corners_of}
use Rattle.definitions.specs.Bounds.{grid_values}
use Rattle.expansion_theory.specs.Cells.{CellOf, all_cells, pow_twice, scaled_twice}
use Rattle.verdict_theory.specs.Positive.{corners_of_law, of_corners}

-- ---- the corner on given sides
pub record Corner (x y z : ℕ) : Type 0 where
  pub number : ℕ
  pub small : number < 8
  pub on_x : side 0 number ≡ x
  pub on_y : side 1 number ≡ y
  pub on_z : side 2 number ≡ z

-- at 4x + 2y + z the corner on the sides x, y, z
abbrev corner_at : ℕ → ℕ
corner_at n = get_or (0 ∷ 4 ∷ 3 ∷ 7 ∷ 1 ∷ 5 ∷ 2 ∷ 6 ∷ []) n 0

abbrev stands : ℕ → Bool
stands n = ltb (corner_at n) 8 && (eqb (side 0 (corner_at n)) (n / 4) && (eqb (side 1 (corner_at n)) (n / 2 % 2) && eqb (side 2 (corner_at n)) (n % 2)))

pub corner_on : (x y z : ℕ) → x < 2 → y < 2 → z < 2 → Corner x y z
corner_on x y z hx hy hz =
    let n = 4 * x + 2 * y + z in
    let k = corner_at n in
    let t = below stands 8 tt n (omega arith) in
    let u = and_r (ltb k 8) (eqb (side 0 k) (n / 4) && (eqb (side 1 k) (n / 2 % 2) && eqb (side 2 k) (n % 2))) t in
    let v = and_r (eqb (side 0 k) (n / 4)) (eqb (side 1 k) (n / 2 % 2) && eqb (side 2 k) (n % 2)) u in
    let ex : n / 4 ≡ x = omega arith in
    let ey : n / 2 % 2 ≡ y = omega arith in
    let ez : n % 2 ≡ z = omega arith in
    record {
      number = k;
      small = ltb→lt k 8 (and_l (ltb k 8) (eqb (side 0 k) (n / 4) && (eqb (side 1 k) (n / 2 % 2) && eqb (side 2 k) (n % 2))) t);
      on_x = eqb→eq (side 0 k) (n / 4) (and_l (eqb (side 0 k) (n / 4)) (eqb (side 1 k) (n / 2 % 2) && eqb (side 2 k) (n % 2)) u) ∙ ex;
      on_y = eqb→eq (side 1 k) (n / 2 % 2) (and_l (eqb (side 1 k) (n / 2 % 2)) (eqb (side 2 k) (n % 2)) v) ∙ ey;
      on_z = eqb→eq (side 2 k) (n % 2) (and_r (eqb (side 1 k) (n / 2 % 2)) (eqb (side 2 k) (n % 2)) v) ∙ ez;
    }

-- ---- the cell at each address
pub record CellAt (P : Cell → Type 0) (a b c : ℕ) : Type 0 where
  pub cell : Cell
  pub is_a : cell.a ≡ a
  pub is_b : cell.b ≡ b
  pub is_c : cell.c ≡ c
  pub holds : P cell

pub cell_at : (xs : List ℤ) (P : Cell → Type 0) (m : ℕ) → All P (cells xs m) → (a b c : ℕ) → a < 2 ^ m → b < 2 ^ m → c < 2 ^ m → CellAt P a b c
unfolding whole child children
cell_at xs P zero h a b c ha hb hc = record { cell = whole xs; is_a = omega arith; is_b = omega arith; is_c = omega arith; holds = h.0 }
cell_at xs P (suc m) h a b c ha hb hc =
    let e : 2 * 2 ^ m ≡ 2 ^ suc m = pow_twice m in
    let r = cell_at xs (λ s. All P (children s)) m (concat_all P children (cells xs m) h) (a / 2) (b / 2) (c / 2) (omega (arith, e)) (omega (arith, e)) (omega (arith, e)) in
    let q = corner_on (a % 2) (b % 2) (c % 2) (omega arith) (omega arith) (omega arith) in
    let f : 2 * r.cell.a + side 0 q.number ≡ a = omega (arith, r.is_a, q.on_x) in
    let g : 2 * r.cell.b + side 1 q.number ≡ b = omega (arith, r.is_b, q.on_y) in
    let k : 2 * r.cell.c + side 2 q.number ≡ c = omega (arith, r.is_c, q.on_z) in
    record {
      cell = child r.cell q.number;
      is_a = f;
      is_b = g;
      is_c = k;
      holds = tabulate_all P (child r.cell) 0 8 r.holds q.number (omega arith) (omega (arith, q.small));
    }

-- ---- a grid number is a cell's or the next
record Split (N a : ℕ) : Type 0 where
  from : ℕ
  bit : ℕ
  inside : from < N
  small : bit < 2
  sum : from + bit ≡ a

split : (N a : ℕ) → 0 < N → a ≤ N → Split N a
split N a h k = elim (dec_lt a N) [
  | yes l ↦ record { from = a; bit = 0; inside = l; small = omega arith; sum = omega arith }
  | no l ↦ record { from = a - 1; bit = 1; inside = omega arith; small = omega arith; sum = omega arith }
]

pub pow_positive : (m : ℕ) → 0 < 2 ^ m
pow_positive zero = omega arith
pow_positive (suc m) = omega (arith, pow_twice m, pow_positive m)

pub side_small : (d k : ℕ) → side d k < 2
side_small zero k = all_get_d_default (λ n. n < 2) (sides 0) 0 k (omega arith) (omega arith)
side_small (suc zero) k = all_get_d_default (λ n. n < 2) (sides 1) 0 k (omega arith) (omega arith)
side_small (suc (suc d)) k = all_get_d_default (λ n. n < 2) (sides 2) 0 k (omega arith) (omega arith)

module _ (xs : List ℤ) where
  -- what holds of J at every grid point of level m
  abbrev pub AtPoints : (ℤ → Type 0) → ℕ → Type 0
  AtPoints P m = (a b c : ℕ) → a ≤ 2 ^ m → b ≤ 2 ^ m → c ≤ 2 ^ m → P (scaled_jacobian xs m a b c)

  abbrev pub AtCorners : (ℤ → Type 0) → ℕ → Type 0
  AtCorners P m = All (λ f. P f.value) (concat_map (corners_of xs m) (cells xs m))

  pub points_of : (P : ℤ → Type 0) (m : ℕ) → AtCorners P m → AtPoints P m
  points_of P m h a b c ha hb hc =
      let p = split (2 ^ m) a (pow_positive m) ha in
      let q = split (2 ^ m) b (pow_positive m) hb in
      let r = split (2 ^ m) c (pow_positive m) hc in
      let t = cell_at xs (λ s. All (λ f. P f.value) (corners_of xs m s)) m (concat_all (λ f. P f.value) (corners_of xs m) (cells xs m) h) p.from q.from r.from p.inside q.inside r.inside in
      let k = corner_on p.bit q.bit r.bit p.small q.small r.small in
      let ea : t.cell.a + side 0 k.number ≡ a = omega (arith, t.is_a, k.on_x, p.sum) in
      let eb : t.cell.b + side 1 k.number ≡ b = omega (arith, t.is_b, k.on_y, q.sum) in
      let ec : t.cell.c + side 2 k.number ≡ c = omega (arith, t.is_c, k.on_z, r.sum) in
      subst P (λ i. scaled_jacobian xs m (ea i) (eb i) (ec i)) (of_corners xs (λ f. P f.value) m t.cell t.holds k.number k.small)

  pub corners_at : (P : ℤ → Type 0) (m : ℕ) → AtPoints P m → AtCorners P m
  corners_at P m h = all_concat (λ f. P f.value) (corners_of xs m) (cells xs m) (all_map (CellOf xs m) (λ s. All (λ f. P f.value) (corners_of xs m s)) each (cells xs m) (all_cells xs m))
    where
      each : (s : Cell) → CellOf xs m s → All (λ f. P f.value) (corners_of xs m s)
      each s g = corners_of_law xs (λ f. P f.value) m s (λ k _. h (s.a + side 0 k) (s.b + side 1 k) (s.c + side 2 k)
          (omega (arith, g.a_below, side_small 0 k)) (omega (arith, g.b_below, side_small 1 k)) (omega (arith, g.c_below, side_small 2 k)))

  -- a grid point of a level is one of the next
  pub points_down : (P Q : ℤ → Type 0) → ((z : ℤ) → P (pos 64 *ℤ z) → Q z) → (m : ℕ) → AtPoints P (suc m) → AtPoints Q m
  points_down P Q f m h a b c ha hb hc = let e : 2 * 2 ^ m ≡ 2 ^ suc m = pow_twice m in
      f (scaled_jacobian xs m a b c) (subst P (scaled_twice xs m a b c) (h (2 * a) (2 * b) (2 * c) (omega arith) (omega arith) (omega arith)))

  pub positive_down : (m n : ℕ) → m ≤ n → AtPoints Positive n → AtPoints Positive m
  positive_down m n l h = down (AtPoints Positive) (points_down Positive Positive (positive_unscale 63)) m n l h

  -- ---- the same as a list
  abbrev pub numbers : ℕ → List ℕ
  numbers m = tabulate (λ a. a) 0 (suc (2 ^ m))

  pub values_at_law : (P : ℤ → Type 0) (m : ℕ) → All P (grid_values xs m) → AtPoints P m
  values_at_law P m h a b c ha hb hc = let n = suc (2 ^ m) in
      tabulate_all P (scaled_jacobian xs m a b) 0 n
      (tabulate_all (λ b. All P (tabulate (scaled_jacobian xs m a b) 0 n)) (λ b. b) 0 n (concat_all P (λ b. tabulate (scaled_jacobian xs m a b) 0 n) (numbers m)
      (tabulate_all (λ a. All P (concat_map (λ b. tabulate (scaled_jacobian xs m a b) 0 n) (numbers m))) (λ a. a) 0 n (concat_all P (λ a. concat_map (λ b. tabulate (scaled_jacobian xs m a b) 0 n) (numbers m)) (numbers m) h) a (omega arith) (omega arith))) b (omega arith) (omega arith)) c (omega arith) (omega arith)

  pub at_values : (P : ℤ → Type 0) (m : ℕ) → AtPoints P m → All P (grid_values xs m)
  at_values P m h = let n = suc (2 ^ m) in
      all_concat P (λ a. concat_map (λ b. tabulate (scaled_jacobian xs m a b) 0 n) (numbers m)) (numbers m) (all_tabulate (λ a. All P (concat_map (λ b. tabulate (scaled_jacobian xs m a b) 0 n) (numbers m))) (λ a. a) 0 n (λ a _ ha.
      all_concat P (λ b. tabulate (scaled_jacobian xs m a b) 0 n) (numbers m) (all_tabulate (λ b. All P (tabulate (scaled_jacobian xs m a b) 0 n)) (λ b. b) 0 n (λ b _ hb.
      all_tabulate P (scaled_jacobian xs m a b) 0 n (λ c _ hc. h a b c (omega arith) (omega arith) (omega arith))))))
