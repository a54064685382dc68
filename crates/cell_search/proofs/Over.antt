-- A pass before a child is made, and what room it has left. Assumes nothing.
use Rattle.std.proofs.Common.{◌≡◌, refl, sym, ◌∙◌, ap, subst, Bool, List, ℕ, ◌+◌, ◌*◌, ◌-◌, ◌^◌, ◌<◌, ◌≤◌, ℤ, arith, le_trans, mul-le-mul_left, zero-lt-suc}
use Rattle.std.proofs.Math.Nat.{pow-le-pow_right}
use Rattle.definitions.specs.Jacobian.{side}
use Rattle.definitions.specs.Subdivision.{Cell, child}
use Rattle.verdict_theory.specs.Search.{Pass}
use Rattle.verdict_theory.specs.Clear.{child_control}
use Rattle.search_theory.specs.Meaning.{cell_of, count_room, Grid, Room, Held}
use Rattle.search_theory.specs.Children.{child_room, child_cell}
use Rattle.search_theory.specs.Visit.{over, Rest as Before, rest_of, eight_held, skip_held, next_held}
use Rattle.search_pass.specs.declared.Place.{Place}
use Rattle.cell_search.specs.Meaning.{itself, Rest}

-- what is told before child k
pub before : (s : Cell) (p : Pass) (left k : ℕ) {q r : Pass} {known : Bool} → k ≤ 8 → q ≡ over s p (left - 1) k → Rest q left s.control (8 - k) known r → Before itself s p left k known r
before s p left k {q} {r} {known} few e t = rest_of itself s p left k few known r (subst (λ (x : Pass). Rest x left s.control (8 - k) known r) e t)

-- ---- room
held : (n : ℕ) (p : Pass) → p.count + n < count_room → Held itself n p
held n p h = record { pass = p; is = refl; room = h }

pub room : (n : ℕ) {p : Pass} → Held itself n p → p.count + n < count_room
room n h = subst (λ (q : Pass). q.count + n < count_room) (sym h.is) h.room

module _ (p : Pass) (left : ℕ) (some : left ≡ 0 → ⊥) (h : p.count + 8 ^ left < count_room) where
  pub eight_room : p.count + 8 < count_room
  eight_room = room 8 (eight_held itself left some p (held (8 ^ left) p h))

  module _ (s : Cell) (k : ℕ) {q : Pass} (e : q ≡ over s p (left - 1) k) where
    pub skip_room : (n : ℕ) → k + n ≤ 8 → q.count + n < count_room
    unfolding held
    skip_room n l = room n (skip_held itself s left some p (held (8 ^ left) p h) k n l q e)

    pub next_room : k < 8 → q.count + 8 ^ (left - 1) < count_room
    unfolding held
    next_room l = room (8 ^ (left - 1)) (next_held itself s left some p (held (8 ^ left) p h) k l q e)

pub grid_once : (x left : ℕ) → Grid x left → (left ≡ 0 → ⊥) → Grid x 1
grid_once x left h some = let p : 1 ≤ left = omega arith in le_trans (mul-le-mul_left (x + 1) (pow-le-pow_right (zero-lt-suc 1) p)) h

-- ---- the place of child k
module _ (top : ℕ) (g : List ℤ) (at made : Place) (k : ℕ) (xs : List ℤ) (e : xs ≡ child_control g k)
    (h : made ≡ record { a = 2 * at.a + side 0 k; b = 2 * at.b + side 1 k; c = 2 * at.c + side 2 k }) where
  pub place_room : (left : ℕ) → Room top g at.a at.b at.c left → (left ≡ 0 → ⊥) → Room top xs made.a made.b made.c (left - 1)
  place_room left r some = subst (λ (q : Place). Room top xs q.a q.b q.c (left - 1)) (sym h) (child_room top g at.a at.b at.c k (side 0 k) (side 1 k) (side 2 k) xs e refl refl refl left r some)

  pub place_cell : cell_of made.a made.b made.c xs ≡ child (cell_of at.a at.b at.c g) k
  place_cell = ap (λ (q : Place). cell_of q.a q.b q.c xs) h ∙ child_cell top g at.a at.b at.c k (side 0 k) (side 1 k) (side 2 k) xs e refl refl refl
