-- A cell of level m at (a, b, c): its 27 numbers are the coefficients of J on the part of the element from (a, b, c) to (a + 1, b + 1, c + 1), over 2^m.
use Rattle.std.specs.Prelude.{◌≡◌, Bool, List, ℕ, zero, suc, ◌+◌, ◌*◌, ◌-◌, ◌<◌, ◌≤◌, ◌^◌, ltb, get_or, length, ℤ, pos, ◌*ℤ◌}
use Rattle.std.proofs.Common.{sym, ◌∙◌, ap, pow-suc, mul-one, mul_assoc, arith, ltb→lt}
use Rattle.std.proofs.Math.Nat.{pow-succ'}
use Rattle.foundation.specs.Polynomial.{Expr, var, con, integers, expressions, same, solve}
use Rattle.foundation.specs.Lists.{All, all_map, all_concat, all_tabulate, all_below, below}
use Rattle.definitions.specs.Jacobian.{side, Weights, nodes_of, pair, grid, J, jacobian, scaled_jacobian}
use Rattle.definitions.specs.Coefficients.{numbers, at, coefficients}
use Rattle.definitions.specs.Subdivision.{halve, Cell, child, children, whole, cells}
use Rattle.expansion_theory.specs.Bernstein.{value, value_twice}
use Rattle.expansion_theory.specs.Expansion.{whole_value, expansion, length_coefficients}
pub use Rattle.expansion_theory.specs.Parts.{view_row, view}
use Rattle.expansion_theory.specs.Parts.{two, three, ends, J-cong, part_of_part, point_of_part, whole_row}
use Rattle.expansion_theory.specs.Cut.{length_halve, half_row, half_view, halve_value}

pub pow_twice : (m : ℕ) → 2 * 2 ^ m ≡ 2 ^ suc m
pow_twice m = sym (pow-succ' 2 m)

-- a half of part a of 2^m parts is a part of 2^(m + 1)
half_of_part : (m a h : ℕ) (u : ℕ → ℤ) → a < 2 ^ m → h < 2 → ends (view_row (2 ^ m) a (half_row integers h u)) ≡ ends (view_row (2 ^ suc m) (2 * a + h) u)
half_of_part m a zero u ha hh = part_of_part (2 ^ m) 2 a 0 ha u hh ∙ ap (λ (N : ℕ). ends (view_row N (2 * a + 0) u)) (sym (pow-suc 2 m))
half_of_part m a (suc zero) u ha hh = part_of_part (2 ^ m) 2 a 1 ha u hh ∙ ap (λ (N : ℕ). ends (view_row N (2 * a + 1) u)) (sym (pow-suc 2 m))
half_of_part m a (suc (suc h)) u ha hh = absurd (omega arith)

-- ---- what a cell of level m is
pub record CellOf (xs : List ℤ) (m : ℕ) (s : Cell) : Type 0 where
  pub sized : length s.control ≡ 27
  pub a_below : s.a < 2 ^ m
  pub b_below : s.b < 2 ^ m
  pub c_below : s.c < 2 ^ m
  pub restricts : (w : Weights ℤ) → value integers (at s.control) w ≡ pos 8 *ℤ J integers (nodes_of xs) (view (2 ^ m) s.a s.b s.c w)

pub whole_cell : (xs : List ℤ) → CellOf xs 0 (whole xs)
unfolding whole
whole_cell xs = record {
  sized = length_coefficients xs;
  a_below = omega arith;
  b_below = omega arith;
  c_below = omega arith;
  restricts = λ w. whole_value xs w ∙ ap (λ (t : ℤ). pos 8 *ℤ t) (J-cong (nodes_of xs) w (view 1 0 0 0 w) (whole_row (w 0)) (whole_row (w 1)) (whole_row (w 2)));
}

pub child_sized : (s : Cell) (k : ℕ) → length (child s k).control ≡ 27
unfolding child
child_sized s k = length_halve 2 (side 2 k) (halve 1 (side 1 k) (halve 0 (side 0 k) s.control))

-- sides are 0 and 1
abbrev side_below : ℕ → Bool
side_below d = all_below 8 (λ k. ltb (side d k) 2)

side_below_law : (d k : ℕ) → d < 3 → k < 8 → side d k < 2
side_below_law d k hd hk = ltb→lt (side d k) 2 (below (λ k. ltb (side d k) 2) 8 (below side_below 3 tt d hd) k hk)

pub child_cell : (xs : List ℤ) (m : ℕ) (s : Cell) → CellOf xs m s → (k : ℕ) → k < 8 → CellOf xs (suc m) (child s k)
unfolding child
child_cell xs m s cell k h = record {
  sized = child_sized s k;
  a_below = below_twice s.a x cell.a_below hx;
  b_below = below_twice s.b y cell.b_below hy;
  c_below = below_twice s.c z cell.c_below hz;
  restricts = λ w. halve_value 2 z (halve 1 y (halve 0 x s.control)) w
      ∙ halve_value 1 y (halve 0 x s.control) (half_view integers 2 z w)
      ∙ halve_value 0 x s.control (half_view integers 1 y (half_view integers 2 z w))
      ∙ cell.restricts (halves w)
      ∙ ap (λ (t : ℤ). pos 8 *ℤ t) (J-cong (nodes_of xs) (view (2 ^ m) s.a s.b s.c (halves w)) (view (2 ^ suc m) (2 * s.a + x) (2 * s.b + y) (2 * s.c + z) w)
      (half_of_part m s.a x (w 0) cell.a_below hx) (half_of_part m s.b y (w 1) cell.b_below hy) (half_of_part m s.c z (w 2) cell.c_below hz));
}
  where
    x : ℕ
    x = side 0 k

    y : ℕ
    y = side 1 k

    z : ℕ
    z = side 2 k

    hx : x < 2
    hx = side_below_law 0 k (omega arith) h

    hy : y < 2
    hy = side_below_law 1 k (omega arith) h

    hz : z < 2
    hz = side_below_law 2 k (omega arith) h

    halves : Weights ℤ → Weights ℤ
    halves w = half_view integers 0 x (half_view integers 1 y (half_view integers 2 z w))

    below_twice : (a i : ℕ) → a < 2 ^ m → i < 2 → 2 * a + i < 2 ^ suc m
    below_twice a i p q = omega (arith, pow_twice m)

-- what holds of each child holds of all eight
pub eight : (P : Cell → Type 0) (s : Cell) → ((k : ℕ) → k < 8 → P (child s k)) → All P (children s)
unfolding children
eight P s h = all_tabulate P (child s) 0 8 (λ k _ p. h k p)

pub all_cells : (xs : List ℤ) (m : ℕ) → All (CellOf xs m) (cells xs m)
all_cells xs zero = (whole_cell xs, tt)
all_cells xs (suc m) = all_concat (CellOf xs (suc m)) children (cells xs m)
    (all_map (CellOf xs m) (λ s. All (CellOf xs (suc m)) (children s)) (λ s h. eight (CellOf xs (suc m)) s (child_cell xs m s h)) (cells xs m) (all_cells xs m))

-- ---- a cell's own expansion
pow_sum : (m n : ℕ) → 2 ^ (m + n) ≡ 2 ^ m * 2 ^ n
pow_sum m zero = let e : m + 0 ≡ m = omega arith in ap (λ (k : ℕ). 2 ^ k) e ∙ sym (mul-one (2 ^ m))
pow_sum m (suc n) = let e : m + suc n ≡ suc (m + n) = omega arith in
    ap (λ (k : ℕ). 2 ^ k) e ∙ pow-suc 2 (m + n) ∙ ap (λ (k : ℕ). k * 2) (pow_sum m n) ∙ mul_assoc (2 ^ m) (2 ^ n) 2 ∙ ap (λ (k : ℕ). 2 ^ m * k) (sym (pow-suc 2 n))

-- the coefficients of a cell are those of J there, at every grid point of every finer level
pub cell_expansion : (xs : List ℤ) (m n : ℕ) (s : Cell) → CellOf xs m s → (a b c : ℕ) → a ≤ 2 ^ n → b ≤ 2 ^ n → c ≤ 2 ^ n
    → scaled_jacobian xs (m + n) (2 ^ n * s.a + a) (2 ^ n * s.b + b) (2 ^ n * s.c + c) ≡ value integers (at s.control) (grid (2 ^ n) a b c)
unfolding scaled_jacobian jacobian
cell_expansion xs m n s cell a b c ha hb hc = let N = 2 ^ n in let M = 2 ^ m in
    ap (λ (t : ℤ). pos 8 *ℤ t) (ap (λ (k : ℕ). J integers (nodes_of xs) (grid k (N * s.a + a) (N * s.b + b) (N * s.c + c))) (pow_sum m n)
    ∙ sym (J-cong (nodes_of xs) (view M s.a s.b s.c (grid N a b c)) (grid (M * N) (N * s.a + a) (N * s.b + b) (N * s.c + c))
    (point_of_part M N s.a a cell.a_below ha) (point_of_part M N s.b b cell.b_below hb) (point_of_part M N s.c c cell.c_below hc)))
    ∙ sym (cell.restricts (grid N a b c))

-- so of every cell of a level
pub cells_expansion : (xs : List ℤ) (m : ℕ) → All (λ s. (n a b c : ℕ) → a ≤ 2 ^ n → b ≤ 2 ^ n → c ≤ 2 ^ n
    → scaled_jacobian xs (m + n) (2 ^ n * s.a + a) (2 ^ n * s.b + b) (2 ^ n * s.c + c) ≡ value integers (at s.control) (grid (2 ^ n) a b c)) (cells xs m)
cells_expansion xs m = all_map (CellOf xs m) _ (λ s h n. cell_expansion xs m n s h) (cells xs m) (all_cells xs m)

-- the first eight are the sums at the corners
abbrev number_var : ℕ → ℕ → ℕ → Expr
number_var i j k = var (get_or numbers (9 * i + 3 * j + k) 0)

abbrev at_corner : ℕ → Expr
at_corner k = value expressions number_var (λ d s. con (grid 1 (side 0 k) (side 1 k) (side 2 k) d s))

corner_value : (c : List ℤ) (k : ℕ) → k < 8 → get_or c k (pos 0) ≡ value integers (at c) (grid 1 (side 0 k) (side 1 k) (side 2 k))
unfolding at
corner_value c k h = solve (λ n. get_or c n (pos 0)) (var k) (at_corner k) (below (λ k. same (var k) (at_corner k)) 8 tt k h)

pub corner_is : (xs : List ℤ) (m : ℕ) (s : Cell) → CellOf xs m s → (k : ℕ) → k < 8 → get_or s.control k (pos 0) ≡ scaled_jacobian xs m (s.a + side 0 k) (s.b + side 1 k) (s.c + side 2 k)
corner_is xs m s cell k h = corner_value s.control k h
    ∙ sym (cell_expansion xs m 0 s cell (side 0 k) (side 1 k) (side 2 k) (side_low 0 (omega arith)) (side_low 1 (omega arith)) (side_low 2 (omega arith)))
    ∙ (λ i. scaled_jacobian xs (level i) (once s.a (side 0 k) i) (once s.b (side 1 k) i) (once s.c (side 2 k) i))
  where
    side_low : (d : ℕ) → d < 3 → side d k ≤ 1
    side_low d hd = omega (arith, side_below_law d k hd h)

    level : m + 0 ≡ m
    level = omega arith

    once : (a x : ℕ) → 1 * a + x ≡ a + x
    once a x = omega arith

-- ---- a grid point of one level is one of the next
double_row : (m a : ℕ) → ends (pair (2 ^ suc m) (2 * a)) ≡ ends (λ s. pos 2 *ℤ pair (2 ^ m) a s)
double_row m a = let e : 2 ^ suc m - 2 * a ≡ 2 * (2 ^ m - a) = omega (arith, pow_twice m) in ap (λ (k : ℕ). two (pos k) (pos (2 * a))) e

pub scaled_twice : (xs : List ℤ) (m a b c : ℕ) → scaled_jacobian xs (suc m) (2 * a) (2 * b) (2 * c) ≡ pos 64 *ℤ scaled_jacobian xs m a b c
scaled_twice xs m a b c = let control = at (coefficients xs) in expansion xs (suc m) (2 * a) (2 * b) (2 * c)
    ∙ (λ i. value integers control (three (double_row m a i) (double_row m b i) (double_row m c i)))
    ∙ value_twice control (grid (2 ^ m) a b c) ∙ ap (λ (t : ℤ). pos 64 *ℤ t) (sym (expansion xs m a b c))
