-- Whole numbers that differ by a multiple of m.
use Rattle.std.specs.Prelude.{◌≡◌, refl, List, [], ◌∷◌, ℕ, suc, ◌+◌, ◌*◌, ◌-◌, ◌/◌, ◌%◌, ◌<◌, ℤ, pos, negsuc, neg_ℤ, ◌+ℤ◌, ◌-ℤ◌, ◌*ℤ◌}
use Rattle.std.proofs.Common.{sym, ◌∙◌, ap, ap₂, div-add-mod', mod-lt, arith}
use Rattle.foundation.specs.Magnitude.{sub_cases}
use Rattle.foundation.specs.Polynomial.{Expr, var, con, add, mul, neg, solve}
use Rattle.foundation.specs.Words.{args}
use Rattle.definitions.specs.TwoWords.{remainder}

-- a is b and so many times m
pub record Congruent (m : ℕ) (a b : ℤ) : Type 0 where
  pub times : ℤ
  pub is : a ≡ b +ℤ times *ℤ pos m

module _ {m : ℕ} where
  pub equal : {a b : ℤ} → a ≡ b → Congruent m a b
  equal {a} {b} e = record { times = pos 0; is = e ∙ solve (args (b ∷ pos m ∷ [])) (var 0) (add (var 0) (mul (con (pos 0)) (var 1))) tt }

  pub itself : (a : ℤ) → Congruent m a a
  itself a = equal refl

  pub turned : {a b : ℤ} → Congruent m a b → Congruent m b a
  turned {a} {b} c = record {
    times = neg_ℤ c.times;
    is = solve (args (b ∷ c.times ∷ pos m ∷ [])) (var 0) (add (add (var 0) (mul (var 1) (var 2))) (mul (neg (var 1)) (var 2))) tt ∙ ap (λ (z : ℤ). z +ℤ neg_ℤ c.times *ℤ pos m) (sym c.is);
  }

  pub chained : {x y z : ℤ} → Congruent m x y → Congruent m y z → Congruent m x z
  chained {x} {y} {z} c d = record {
    times = c.times +ℤ d.times;
    is = c.is ∙ ap (λ (a : ℤ). a +ℤ c.times *ℤ pos m) d.is
        ∙ solve (args (z ∷ c.times ∷ d.times ∷ pos m ∷ [])) (add (add (var 0) (mul (var 2) (var 3))) (mul (var 1) (var 3))) (add (var 0) (mul (add (var 1) (var 2)) (var 3))) tt;
  }

  -- sums, differences and products of congruent numbers are congruent
  module _ {a b x y : ℤ} (c : Congruent m a b) (d : Congruent m x y) where
    abbrev known : List ℤ
    known = b ∷ c.times ∷ y ∷ d.times ∷ pos m ∷ []

    abbrev left : Expr
    left = add (var 0) (mul (var 1) (var 4))

    abbrev right : Expr
    right = add (var 2) (mul (var 3) (var 4))

    pub sum : Congruent m (a +ℤ x) (b +ℤ y)
    sum = record { times = c.times +ℤ d.times; is = ap₂ ◌+ℤ◌ c.is d.is ∙ solve (args known) (add left right) (add (add (var 0) (var 2)) (mul (add (var 1) (var 3)) (var 4))) tt }

    pub difference : Congruent m (a -ℤ x) (b -ℤ y)
    difference = record { times = c.times -ℤ d.times; is = ap₂ ◌-ℤ◌ c.is d.is ∙ solve (args known) (add left (neg right)) (add (add (var 0) (neg (var 2))) (mul (add (var 1) (neg (var 3))) (var 4))) tt }

    pub product : Congruent m (a *ℤ x) (b *ℤ y)
    product = record {
      times = b *ℤ d.times +ℤ c.times *ℤ y +ℤ c.times *ℤ d.times *ℤ pos m;
      is = ap₂ ◌*ℤ◌ c.is d.is
          ∙ solve (args known) (mul left right) (add (mul (var 0) (var 2)) (mul (add (add (mul (var 0) (var 3)) (mul (var 1) (var 2))) (mul (mul (var 1) (var 3)) (var 4))) (var 4))) tt;
    }

-- a number and what it leaves
pub divided : (m n : ℕ) → Congruent m (pos (n % m)) (pos n)
divided m n = turned (record {
  times = pos (n / m);
  is = ap pos (sym (div-add-mod' n m)) ∙ solve (args (pos (n / m) ∷ pos (n % m) ∷ pos m ∷ [])) (add (mul (var 0) (var 2)) (var 1)) (add (var 1) (mul (var 0) (var 2))) tt;
})

pub left_over : (m : ℕ) → 0 < m → (z : ℤ) → Congruent m (pos (remainder m z)) z
left_over m h (pos n) = divided m n
left_over m h (negsuc n) = record { times = pos (suc (n / m)); is = sub_cases (suc (n / m) * m) (suc n) (λ z. pos (m - suc (n % m)) ≡ z) (λ k e. absurd (omega (arith, parts, below))) (λ k e. ap pos (omega (arith, parts, below))) }
  where
    parts : n / m * m + n % m ≡ n
    parts = div-add-mod' n m

    below : n % m < m
    below = mod-lt n h

pub remainder_below : (m : ℕ) → 0 < m → (z : ℤ) → remainder m z < m
remainder_below m h (pos n) = mod-lt n h
remainder_below m h (negsuc n) = omega (arith, h)
