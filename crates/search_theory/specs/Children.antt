-- A cell's children as the code makes them, by halves: what is kept from child to child, and which are known to have no low coefficient.
use Rattle.std.specs.Prelude.{◌≡◌, refl, Bool, true, false, ◌&&◌, List, ℕ, zero, suc, ◌+◌, ◌*◌, ◌-◌, ◌/◌, ◌%◌, ◌^◌, ◌<◌, ◌≤◌, eqb, length, ℤ, pos}
use Rattle.std.proofs.Common.{sym, ◌∙◌, ap, subst, le_trans, zero-lt-suc, mul_assoc, mul_comm, mul-le-mul_left, mul-le-mul_right, arith, eqb-true}
use Rattle.std.proofs.Math.Bool.{and-eq-true_iff}
use Rattle.std.proofs.Math.Nat.{pow-succ', pow-le-pow_right}
use Rattle.std.specs.Int.Signed.{le_z}
use Rattle.foundation.specs.Least.{least_of}
use Rattle.foundation.specs.Lists.{equal_below}
use Rattle.definitions.specs.Jacobian.{side}
use Rattle.definitions.specs.Subdivision.{halve, child}
use Rattle.expansion_theory.specs.Cut.{length_halve}
use Rattle.expansion_theory.specs.Size.{halve_size}
use Rattle.verdict_theory.specs.Points.{side_small}
use Rattle.verdict_theory.specs.Commute.{child_by_halves}
use Rattle.verdict_theory.specs.Clear.{Clear, unblocked_clear, half_of, quarter_of, child_control, half_clear, quarter_clear}
use Rattle.expansion_theory.specs.Control.{Control, Cuttable}
use Rattle.search_theory.specs.Meaning.{cell_of, lowest, Small, grid_room, Grid, Room}
use Rattle.search_theory.specs.Lowest.{clear}

-- ---- which children lie in one half, and in one quarter
-- the side of child k in ζ changes every four children, that in η every two
half_kept : (k : ℕ) → k < 8 → side 2 k ≡ side 2 (4 * (k / 4))
half_kept k h = equal_below (side 2) (λ k. side 2 (4 * (k / 4))) 8 tt k h

quarter_kept : (k : ℕ) → k < 8 → side 1 k ≡ side 1 (2 * (k / 2))
quarter_kept k h = equal_below (side 1) (λ k. side 1 (2 * (k / 2))) 8 tt k h

-- the child that comes after n that are passed over, or after child k alone
abbrev pub after : ℕ → ℕ → ℕ
after k zero = k + 1
after k (suc n) = k + suc n

pub after_some : (k n : ℕ) → (n ≡ 0 → ⊥) → after k n ≡ k + n
after_some k zero h = absurd (h refl)
after_some k (suc n) h = refl

-- 27 coefficients without a lowest are clear
pub lowest_clear : (c : List ℤ) → length c ≡ 27 → lowest c ≡ 0 → Clear c
lowest_clear c h e = unblocked_clear (cell_of 0 0 0 c) h (clear (cell_of 0 0 0 c) e)

-- how many children from k on are told to have none at once: four by their half, where child k is the first in it; else two by their quarter; else
-- child k alone, by its least, or none
abbrev pub half_told : List ℤ → ℕ → Bool
half_told g k = eqb (k % 4) 0 && eqb (lowest (half_of g k)) 0

abbrev pub quarter_told : List ℤ → ℕ → Bool
quarter_told g k = eqb (k % 2) 0 && eqb (lowest (quarter_of g k)) 0

abbrev at_once : Bool → Bool → Bool → ℕ
at_once true q c = 4
at_once false true c = 2
at_once false false true = 0
at_once false false false = 1

abbrev pub clear_run : List ℤ → ℕ → ℕ
clear_run g k = at_once (half_told g k) (quarter_told g k) (le_z (least_of (child_control g k)) (pos 0))

pub child_length : (g : List ℤ) (k : ℕ) → length (child_control g k) ≡ 27
child_length g k = length_halve 2 (side 2 k) (halve 1 (side 1 k) (halve 0 (side 0 k) g))

module _ (g : List ℤ) where
  same_half : (j k : ℕ) → j < 8 → k < 8 → j / 4 ≡ k / 4 → half_of g j ≡ half_of g k
  same_half j k l m e = ap (λ (z : ℕ). halve 2 z g) (half_kept j l ∙ ap (λ (n : ℕ). side 2 (4 * n)) e ∙ sym (half_kept k m))

  same_quarter : (j k : ℕ) → j < 8 → k < 8 → j / 2 ≡ k / 2 → quarter_of g j ≡ quarter_of g k
  same_quarter j k l m e = let f : j / 4 ≡ k / 4 = omega arith in
      (λ i. halve 1 ((quarter_kept j l ∙ ap (λ (n : ℕ). side 1 (2 * n)) e ∙ sym (quarter_kept k m)) i) (same_half j k l m f i))

  -- before child k: the half and the quarter are there, except where child k is the first in them
  pub record Ready (k : ℕ) (half quarter : List ℤ) : Type 0 where
    pub half_sized : length half ≡ 27
    pub quarter_sized : length quarter ≡ 27
    pub half_is : (k % 4 ≡ 0 → ⊥) → half ≡ half_of g k
    pub quarter_is : (k % 2 ≡ 0 → ⊥) → quarter ≡ quarter_of g k

  pub ready_first : (half quarter : List ℤ) → length half ≡ 27 → length quarter ≡ 27 → Ready 0 half quarter
  ready_first half quarter p q = record { half_sized = p; quarter_sized = q; half_is = λ h. absurd (h refl); quarter_is = λ h. absurd (h refl) }

  pub half_length : (k : ℕ) (half : List ℤ) → half ≡ half_of g k → length half ≡ 27
  half_length k half e = ap length e ∙ length_halve 2 (side 2 k) g

  pub quarter_length : (k : ℕ) (quarter : List ℤ) → quarter ≡ quarter_of g k → length quarter ≡ 27
  quarter_length k quarter e = ap length e ∙ length_halve 1 (side 1 k) (half_of g k)

  -- after child k
  pub ready_next : (k : ℕ) → k + 1 < 8 → (half quarter : List ℤ) → half ≡ half_of g k → quarter ≡ quarter_of g k → Ready (k + 1) half quarter
  ready_next k m half quarter e f = let l : k < 8 = omega arith in record {
    half_sized = half_length k half e;
    quarter_sized = quarter_length k quarter f;
    half_is = λ n. e ∙ same_half k (k + 1) l m (omega arith);
    quarter_is = λ n. f ∙ same_quarter k (k + 1) l m (omega arith);
  }

  -- n children from k on are known to have no low coefficient; where none is, child k is made and has one; and the next child may come
  pub record Run (k n : ℕ) (half quarter made : List ℤ) : Type 0 where
    pub told : n ≡ clear_run g k
    pub clears : (j : ℕ) → k ≤ j → j < k + n → Clear (child_control g j)
    pub made_is : n ≡ 0 → made ≡ child_control g k
    pub made_low : n ≡ 0 → lowest made ≡ 0 → ⊥
    pub made_sized : length made ≡ 27
    pub end : k + n ≤ 8
    pub next : after k n < 8 → Ready (after k n) half quarter

  module _ (k : ℕ) (h : k < 8) (half quarter made : List ℤ) where
    -- the half has none: four children
    pub run_four : half_told g k ≡ true → half ≡ half_of g k → length quarter ≡ 27 → length made ≡ 27 → Run k 4 half quarter made
    run_four t e q c = let two = (and-eq-true_iff (eqb (k % 4) 0) (eqb (lowest (half_of g k)) 0)).0 t in let z = eqb-true (k % 4) 0 two.0 in
        let p = lowest_clear (half_of g k) (length_halve 2 (side 2 k) g) (eqb-true (lowest (half_of g k)) 0 two.1) in record {
          told = sym (ap (λ (b : Bool). at_once b (quarter_told g k) (le_z (least_of (child_control g k)) (pos 0))) t);
          clears = λ j l m. half_clear g j (subst Clear (same_half k j h (omega arith) (omega arith)) p);
          made_is = λ n. absurd (omega arith);
          made_low = λ n. absurd (omega arith);
          made_sized = c;
          end = omega arith;
          next = λ m. record { half_sized = half_length k half e; quarter_sized = q; half_is = λ n. absurd (n (omega arith)); quarter_is = λ n. absurd (n (omega arith)) };
        }

    module _ (t : half_told g k ≡ false) (e : half ≡ half_of g k) (f : quarter ≡ quarter_of g k) where
      -- the quarter has none: two
      pub run_two : quarter_told g k ≡ true → length made ≡ 27 → Run k 2 half quarter made
      run_two u c = let two = (and-eq-true_iff (eqb (k % 2) 0) (eqb (lowest (quarter_of g k)) 0)).0 u in let z = eqb-true (k % 2) 0 two.0 in
          let p = lowest_clear (quarter_of g k) (length_halve 1 (side 1 k) (half_of g k)) (eqb-true (lowest (quarter_of g k)) 0 two.1) in record {
            told = sym (λ i. at_once (t i) (u i) (le_z (least_of (child_control g k)) (pos 0)));
            clears = λ j l m. quarter_clear g j (subst Clear (same_quarter k j h (omega arith) (omega arith)) p);
            made_is = λ n. absurd (omega arith);
            made_low = λ n. absurd (omega arith);
            made_sized = c;
            end = omega arith;
            next = λ m. record { half_sized = half_length k half e; quarter_sized = quarter_length k quarter f; half_is = λ n. e ∙ same_half k (k + 2) h m (omega arith); quarter_is = λ n. absurd (n (omega arith)) };
          }

      -- child k is made: it has none, or one
      module _ (u : quarter_told g k ≡ false) (c : made ≡ child_control g k) where
        pub run_one : le_z (least_of (child_control g k)) (pos 0) ≡ false → Clear (child_control g k) → Run k 1 half quarter made
        run_one v p = record {
          told = sym (λ i. at_once (t i) (u i) (v i));
          clears = λ j l m. let i : k ≡ j = omega arith in subst (λ (n : ℕ). Clear (child_control g n)) i p;
          made_is = λ n. absurd (omega arith);
          made_low = λ n. absurd (omega arith);
          made_sized = ap length c ∙ child_length g k;
          end = omega arith;
          next = λ m. ready_next k m half quarter e f;
        }

        pub run_none : le_z (least_of (child_control g k)) (pos 0) ≡ true → (lowest (child_control g k) ≡ 0 → ⊥) → Run k 0 half quarter made
        run_none v p = record {
          told = sym (λ i. at_once (t i) (u i) (v i));
          clears = λ j l m. absurd (omega arith);
          made_is = λ n. c;
          made_low = λ n z. p (sym (ap lowest c) ∙ z);
          made_sized = ap length c ∙ child_length g k;
          end = omega arith;
          next = λ m. ready_next k m half quarter e f;
        }

-- child k from its quarter
pub child_made : (g : List ℤ) (k : ℕ) (quarter xs : List ℤ) → quarter ≡ quarter_of g k → xs ≡ halve 0 (side 0 k) quarter → xs ≡ child_control g k
child_made g k quarter xs e f = f ∙ ap (halve 0 (side 0 k)) e ∙ child_by_halves g k

-- ---- magnitudes
pub half_control : (b d h : ℕ) (c : List ℤ) → Control b c → Control (4 * b) (halve d h c)
half_control b d h c w = record { sized = length_halve d h c; within = halve_size b d h c w.within }

grown : (k x n : ℕ) → k * x * k ^ n ≡ x * k ^ suc n
grown k x n = ap (λ (m : ℕ). m * k ^ n) (mul_comm k x) ∙ mul_assoc x k (k ^ n) ∙ ap (λ (m : ℕ). x * m) (sym (pow-succ' k n))

-- fewer levels need less
pub small_less : (top : ℕ) (g : List ℤ) (m n : ℕ) → m ≤ n → Small top g n → Small top g m
small_less top g m n l s = record { bound = s.bound; control = s.control; small = le_trans (mul-le-mul_left s.bound (pow-le-pow_right (zero-lt-suc 63) l)) s.small }

module _ (top : ℕ) (g : List ℤ) where
  -- a cell that is cut, its half and its quarter
  module _ (w : Small top g 1) where
    pub cut_whole : Cuttable top g
    cut_whole = record { bound = w.bound; control = w.control; room = omega (arith, w.small) }

    pub cut_half : (k : ℕ) → Cuttable top (half_of g k)
    cut_half k = record { bound = 4 * w.bound; control = half_control w.bound 2 (side 2 k) g w.control; room = omega (arith, w.small) }

    pub cut_quarter : (k : ℕ) → Cuttable top (quarter_of g k)
    cut_quarter k = record {
      bound = 4 * (4 * w.bound);
      control = half_control (4 * w.bound) 1 (side 1 k) (half_of g k) (half_control w.bound 2 (side 2 k) g w.control);
      room = omega (arith, w.small);
    }

  pub cut_small : (left : ℕ) → Small top g left → (left ≡ 0 → ⊥) → Small top g 1
  cut_small left room some = small_less top g 1 left (omega arith) room

  -- and its child
  pub child_small : (left k : ℕ) (xs : List ℤ) → Small top g left → (left ≡ 0 → ⊥) → xs ≡ child_control g k → Small top xs (left - 1)
  child_small zero k xs room some e = absurd (some refl)
  child_small (suc n) k xs room some e = let f : n ≡ suc n - 1 = omega arith in let m : 4 * (4 * (4 * room.bound)) ≡ 64 * room.bound = omega arith in
      let half = halve 0 (side 0 k) g in let quarter = halve 1 (side 1 k) half in
      subst (λ (c : List ℤ). Small top c (suc n - 1)) (sym e) (subst (Small top (child_control g k)) f (record {
        bound = 64 * room.bound;
        control = subst (λ (b : ℕ). Control b (child_control g k)) m (half_control (4 * (4 * room.bound)) 2 (side 2 k) quarter (half_control (4 * room.bound) 1 (side 1 k) half (half_control room.bound 0 (side 0 k) g room.control)));
        small = subst (λ (i : ℕ). i ≤ top) (sym (grown 64 room.bound n)) room.small;
      }))

-- a grid number can be doubled, and its child's has room
pub grid_doubled : (x left : ℕ) → Grid x left → (left ≡ 0 → ⊥) → 2 * x + 1 < 2 ^ 32
grid_doubled x zero h some = absurd (some refl)
grid_doubled x (suc n) h some = let p : 1 ≤ suc n = omega arith in let q : 2 ^ 1 ≤ 2 ^ suc n = pow-le-pow_right (zero-lt-suc 1) p in let r : (x + 1) * 2 ≤ grid_room = le_trans (mul-le-mul_left (x + 1) q) h in omega arith

child_grid : (x left t : ℕ) → Grid x left → (left ≡ 0 → ⊥) → t < 2 → Grid (2 * x + t) (left - 1)
child_grid x zero t h some l = absurd (some refl)
child_grid x (suc n) t h some l = let e : n ≡ suc n - 1 = omega arith in let p : 2 * x + t + 1 ≤ 2 * (x + 1) = omega arith in
    subst (Grid (2 * x + t)) e (le_trans (mul-le-mul_right (2 ^ n) p) (subst (λ (i : ℕ). i ≤ grid_room) (sym (grown 2 (x + 1) n)) h))

module _ (top : ℕ) (g : List ℤ) (a b c k x y z : ℕ) (xs : List ℤ) (e : xs ≡ child_control g k) (p : x ≡ side 0 k) (q : y ≡ side 1 k) (r : z ≡ side 2 k) where
  pub child_room : (left : ℕ) → Room top g a b c left → (left ≡ 0 → ⊥) → Room top xs (2 * a + x) (2 * b + y) (2 * c + z) (left - 1)
  child_room left room some = record {
    small = child_small top g left k xs room.small some e;
    a_grid = child_grid a left x room.a_grid some (subst (λ (n : ℕ). n < 2) (sym p) (side_small 0 k));
    b_grid = child_grid b left y room.b_grid some (subst (λ (n : ℕ). n < 2) (sym q) (side_small 1 k));
    c_grid = child_grid c left z room.c_grid some (subst (λ (n : ℕ). n < 2) (sym r) (side_small 2 k));
  }

  pub child_cell : cell_of (2 * a + x) (2 * b + y) (2 * c + z) xs ≡ child (cell_of a b c g) k
  unfolding child
  child_cell = λ i. record { a = 2 * a + p i; b = 2 * b + q i; c = 2 * c + r i; control = e i }
