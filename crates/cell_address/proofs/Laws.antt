-- What follows from the tests of the definitions. Assumes nothing.
use mathlib.Core.Path.{◌≡◌, sym, ◌∙◌}
use mathlib.Core.Bool.{Bool, true, ◌&&◌, and-eq-true_iff}
use Prim.Native.Nat.{ℕ, ◌^◌, ◌<◌, ◌≤◌}
use native.Mathlib.Omega.{arith}
use borrow.Author.Tests.{ltb-true, leb-true}
use lib.Dec.{leb, ltb}
use lib.Pow.{pow_mono}
use Rattle.definitions.specs.Address.{Address, is_cell, is_corner}

pub both : (x y : Bool) → (x && y) ≡ true → (x ≡ true) × (y ≡ true)
both x y = (and-eq-true_iff x y).0

-- A cell's numbers are small, and a corner has a number from 1 to 8.
pub record Bounded (depth : ℕ) (q : Address) (n : ℕ) : Type 0 where
  pub level : q.level ≤ depth
  pub a : q.a < 2 ^ depth
  pub b : q.b < 2 ^ depth
  pub c : q.c < 2 ^ depth
  pub first : 1 ≤ n
  pub last : n ≤ 8

pub bounded : (depth : ℕ) (q : Address) (n : ℕ) → is_cell depth q ≡ true → is_corner n ≡ true → Bounded depth q n
unfolding is_cell
bounded depth q n cell corner =
    let level = both (leb q.level depth) _ cell in
    let a = both (ltb q.a (2 ^ q.level)) _ level.1 in
    let b = both (ltb q.b (2 ^ q.level)) _ a.1 in
    let first = both (leb 1 n) _ corner in
    omega (arith, leb-true, ltb-true, pow_mono (leb-true q.level depth level.0))

-- by the tests of the code, as they are joined where a move is made
pub corner_bounded : (depth : ℕ) (q : Address) (n : ℕ) {cell corner : Bool} → cell ≡ is_cell depth q → corner ≡ is_corner n → (cell && corner) ≡ true → Bounded depth q n
corner_bounded depth q n e f t = let tests = both _ _ t in bounded depth q n (sym e ∙ tests.0) (sym f ∙ tests.1)

pub child_bounded : (depth : ℕ) (q : Address) (n : ℕ) {cell corner : Bool} (coarser : Bool) → cell ≡ is_cell depth q → corner ≡ is_corner n → (cell && (coarser && corner)) ≡ true → Bounded depth q n
child_bounded depth q n coarser e f t = let tests = both _ _ t in bounded depth q n (sym e ∙ tests.0) (sym f ∙ (both _ _ tests.1).1)
