-- One cut at a time: first across ξ, each half across η, each quarter across ζ. What a single cut gives, that there is room for it, and how the eight
-- children come of it.
use Rattle.std.specs.Prelude.{◌≡◌, List, map, ℕ, zero, suc, ◌+◌, ◌*◌, ◌-◌, ◌/◌, ◌%◌, ℤ}
use Rattle.std.proofs.Math.Path.{refl}
use Rattle.std.proofs.Common.{sym, ◌∙◌, ap, subst, arith}
use Rattle.foundation.specs.Lists.{tabulate}
use Rattle.foundation.specs.Polynomial.{integers}
use Rattle.foundation.specs.Words.{args}
use Rattle.definitions.specs.Jacobian.{side}
use Rattle.definitions.specs.Coefficients.{numbered, at}
use Rattle.definitions.specs.Subdivision.{rows, cut_row, halve, Cell, child, children}
use Rattle.expansion_theory.specs.Control.{Cuttable}
use Rattle.verdict_theory.specs.Clear.{child_control}
use Rattle.search_theory.specs.Meaning.{cell_of, Small, Room}
use Rattle.search_theory.specs.Children.{half_control, small_less, cut_whole, child_room, child_cell}
use Rattle.audit_theory.specs.Walk.{Notes, through, walk}

-- 02, No. 6: "Each single cut is shown to give, in its direction, the two rows of 01's rule, kept four times larger." For any direction and either side, and for
-- the coefficients of a cell of any level: the nine rows of the half are the nine rows of the cell, each cut.
pub cut_rows : (d h : ℕ) (c : List ℤ) → rows d (at (halve d h c)) ≡ map (λ (r : List ℤ). tabulate (cut_row integers h (args r)) 0 3) (rows d (at c))
unfolding halve numbered at
cut_rows zero zero c = refl
cut_rows zero (suc h) c = refl
cut_rows (suc zero) zero c = refl
cut_rows (suc zero) (suc h) c = refl
cut_rows (suc (suc d)) zero c = refl
cut_rows (suc (suc d)) (suc h) c = refl

-- ---- a cell that is cut has room for three cuts
module _ (top : ℕ) (g : List ℤ) (m : ℕ) (w : Small top g (m + 1)) where
  one_level : Small top g 1
  one_level = small_less top g 1 (m + 1) (omega arith) w

  pub first_cut : Cuttable top g
  first_cut = cut_whole top g one_level

  pub second_cut : (d h : ℕ) → Cuttable top (halve d h g)
  second_cut d h = record { bound = 4 * one_level.bound; control = half_control one_level.bound d h g one_level.control; room = omega (arith, one_level.small) }

  pub third_cut : (d h e i : ℕ) → Cuttable top (halve e i (halve d h g))
  third_cut d h e i = record {
    bound = 4 * (4 * one_level.bound);
    control = half_control (4 * one_level.bound) e i (halve d h g) (half_control one_level.bound d h g one_level.control);
    room = omega (arith, one_level.small);
  }

-- ---- halves and quarters
-- both halves across ξ
pub record Halves (g lower upper : List ℤ) : Type 0 where
  pub lower_is : lower ≡ halve 0 0 g
  pub upper_is : upper ≡ halve 0 1 g

-- the four quarters across ξ and η, in the order of the corners that they touch
pub record Quarters (g q1 q2 q3 q4 : List ℤ) : Type 0 where
  pub first_is : q1 ≡ halve 1 0 (halve 0 0 g)
  pub second_is : q2 ≡ halve 1 0 (halve 0 1 g)
  pub third_is : q3 ≡ halve 1 1 (halve 0 1 g)
  pub fourth_is : q4 ≡ halve 1 1 (halve 0 0 g)

pub quarters_of : {g lower upper : List ℤ} → Halves g lower upper → {q1 q2 q3 q4 : List ℤ} → q1 ≡ halve 1 0 lower → q4 ≡ halve 1 1 lower → q2 ≡ halve 1 0 upper → q3 ≡ halve 1 1 upper → Quarters g q1 q2 q3 q4
quarters_of h p1 p4 p2 p3 = record {
  first_is = p1 ∙ ap (halve 1 0) h.lower_is;
  second_is = p2 ∙ ap (halve 1 0) h.upper_is;
  third_is = p3 ∙ ap (halve 1 1) h.upper_is;
  fourth_is = p4 ∙ ap (halve 1 1) h.lower_is;
}

-- a cell with m + 1 levels below it, by its halves, and by its quarters
pub record InHalves (top : ℕ) (lower upper : List ℤ) (a b c m : ℕ) : Type 0 where
  pub control : List ℤ
  pub room : Room top control a b c (m + 1)
  pub halves : Halves control lower upper

pub record InQuarters (top : ℕ) (q1 q2 q3 q4 : List ℤ) (a b c m : ℕ) : Type 0 where
  pub control : List ℤ
  pub room : Room top control a b c (m + 1)
  pub quarters : Quarters control q1 q2 q3 q4

-- ---- the children
module _ (top : ℕ) (g : List ℤ) (a b c k : ℕ) {x y z : ℕ} (p : x ≡ 2 * a + side 0 k) (q : y ≡ 2 * b + side 1 k) (r : z ≡ 2 * c + side 2 k) {xs : List ℤ} (e : xs ≡ child_control g k) where
  pub made_room : (m : ℕ) → Room top g a b c (m + 1) → Room top xs x y z m
  made_room m room = let l : m + 1 - 1 ≡ m = omega arith in
      subst (λ (t : ℕ × ℕ × ℕ × ℕ). Room top xs t.0 t.1 t.2 t.3) (λ i. (sym p i, sym q i, sym r i, l i))
      (child_room top g a b c k (side 0 k) (side 1 k) (side 2 k) xs e refl refl refl (m + 1) room (λ n. absurd (omega (arith, n))))

  pub made_cell : cell_of x y z xs ≡ child (cell_of a b c g) k
  made_cell = (λ i. cell_of (p i) (q i) (r i) xs) ∙ child_cell top g a b c k (side 0 k) (side 1 k) (side 2 k) xs e refl refl refl

-- the first k children of s gone through, m levels below each
module _ (s : Cell) (m : ℕ) (n : Notes) where
  abbrev pub over : ℕ → Notes
  over zero = n
  over (suc k) = walk m (child s k) (over k)

  pub over_next : (k : ℕ) {now : Notes} → now ≡ over k → {t : Cell} → t ≡ child s k → {next : Notes} → next ≡ walk m t now → next ≡ over (suc k)
  over_next k h e w = w ∙ (λ i. walk m (e i) (h i))

  -- all eight
  pub over_all : over 8 ≡ through (walk m) (children s) n
  unfolding children
  over_all = refl

-- ---- the cuts left, three for each level
-- a cell that is not of the last level has one level more than its halves and quarters have whole ones
pub levels_left : (left : ℕ) → left % 3 ≡ 0 → (left ≡ 0 → ⊥) → left / 3 ≡ (left - 1) / 3 + 1
levels_left left e h = omega (arith, e, h)

pub same_levels : (left : ℕ) → (left % 3 ≡ 0 → ⊥) → left / 3 ≡ (left - 1) / 3
same_levels left h = omega (arith, h)

pub last_levels : (left : ℕ) → left ≡ 0 → left / 3 ≡ 0
last_levels left e = omega (arith, e)

pub none_more : (n : ℕ) → n ≡ n + 0
none_more n = omega arith
