-- Numbers and volumes in two digits: 2048 times the upper and the lower.
use Rattle.std.specs.Prelude.{◌≡◌, refl, ℕ, suc, ◌+◌, ◌*◌, ◌-◌, ◌/◌, ◌%◌, ◌<◌, ◌≤◌, get_or, pos, negsuc, neg_ℤ, nat_abs, ◌+ℤ◌, ◌-ℤ◌, ◌*ℤ◌}
use Rattle.std.proofs.Math.Path.{sym, ap}
use Rattle.std.proofs.Common.{◌∙◌, ap₂, subst, arith}
use mathlib.Core.List.{List, [], ◌∷◌, ◌++◌, map}
use Rattle.std.proofs.Math.ListN.{get_or-append}
use Rattle.std.proofs.Math.Seq.{get_or-append-add}
use Rattle.std.proofs.Math.IntN.{ℤ}
use Rattle.std.specs.Int.Signed.{shr_z}
use Rattle.foundation.specs.Lists.{get_d_image}
use Rattle.foundation.specs.Polynomial.{Expr, var, con, add, mul, neg, integers, expressions, solve}
use Rattle.foundation.specs.Words.{args}
use Rattle.definitions.specs.Jacobian.{Nodes, det}
use Rattle.definitions.specs.Coefficients.{edge, middle, corner_volume, edge_volume, volumes, corner_tetrahedra, edge_tetrahedra}
use Rattle.wide_volumes.specs.Range.{edge_limit, digit_limit}

-- ---- the digits of a number: the upper one rounded down, the lower one what is left
abbrev pub upper : ℤ → ℤ
upper x = shr_z x 2048

abbrev pub lower : ℤ → ℤ
lower x = x -ℤ pos 2048 *ℤ upper x

pub upper_small : (x : ℤ) → nat_abs x ≤ edge_limit → nat_abs (upper x) ≤ digit_limit
upper_small (pos n) h = omega (arith, h)
upper_small (negsuc n) h = omega (arith, h)

lower_above : (n : ℕ) → lower (pos n) ≡ pos (n % 2048)
lower_above n = ap (λ (m : ℕ). pos m -ℤ pos 2048 *ℤ pos (n / 2048)) whole
    ∙ solve (args (pos (n / 2048) ∷ pos (n % 2048) ∷ [])) (add (add (mul (con (pos 2048)) (var 0)) (var 1)) (neg (mul (con (pos 2048)) (var 0)))) (var 1) tt
  where
    whole : n ≡ 2048 * (n / 2048) + n % 2048
    whole = omega arith

-- −(n + 1) is as much above a multiple of 2048 as is left to the next one
lower_below : (n : ℕ) → lower (negsuc n) ≡ pos (2047 - n % 2048)
lower_below n = solve (args (number ∷ next ∷ [])) (add (neg (var 0)) (neg (mul (con (pos 2048)) (neg (var 1))))) (add (neg (var 0)) (mul (con (pos 2048)) (var 1))) tt
    ∙ ap (λ (m : ℕ). neg_ℤ number +ℤ pos m) (sym whole)
    ∙ solve (args (number ∷ pos (2047 - n % 2048) ∷ [])) (add (neg (var 0)) (add (var 0) (var 1))) (var 1) tt
  where
    number : ℤ
    number = pos (suc n)

    next : ℤ
    next = pos (suc (n / 2048))

    whole : suc n + (2047 - n % 2048) ≡ 2048 * suc (n / 2048)
    whole = omega arith

pub lower_small : (x : ℤ) → nat_abs (lower x) ≤ digit_limit
lower_small (pos n) = subst (λ (z : ℤ). nat_abs z ≤ digit_limit) (sym (lower_above n)) (omega arith)
lower_small (negsuc n) = subst (λ (z : ℤ). nat_abs z ≤ digit_limit) (sym (lower_below n)) (omega arith)

-- ---- the digits of a volume: with f on the first vector's coordinates
abbrev pub corner_digit : (ℤ → ℤ) → Nodes ℤ → List ℕ → ℤ
corner_digit f x t = let n : ℕ → ℕ = λ i. get_or t i 0 in det integers (λ e. f (edge integers x (n 0) (n 1) e)) (edge integers x (n 0) (n 2)) (edge integers x (n 0) (n 3))

abbrev pub edge_digit : (ℤ → ℤ) → Nodes ℤ → List ℕ → ℤ
edge_digit f x t = let n : ℕ → ℕ = λ i. get_or t i 0 in det integers (λ e. f (edge integers x (n 0) (n 1) e)) (middle integers x (n 0) (n 2) (n 3)) (middle integers x (n 0) (n 4) (n 5))

unfoldable pub digits : (ℤ → ℤ) → Nodes ℤ → List ℤ
digits f x = map (corner_digit f x) corner_tetrahedra ++ map (edge_digit f x) edge_tetrahedra

-- ---- volumes from their digits
-- the number of two digits, the upper and the lower
abbrev pub whole : ℤ × ℤ → ℤ
whole d = pos 2048 *ℤ d.0 +ℤ d.1

-- a determinant is linear in its first vector
det_whole : (u v w : ℕ → ℤ) → whole (det integers (λ e. upper (u e)) v w, det integers (λ e. lower (u e)) v w) ≡ det integers u v w
det_whole u v w = solve (args (u 0 ∷ u 1 ∷ u 2 ∷ upper (u 0) ∷ upper (u 1) ∷ upper (u 2) ∷ v 0 ∷ v 1 ∷ v 2 ∷ w 0 ∷ w 1 ∷ w 2 ∷ []))
    (add (mul (con (pos 2048)) (det expressions above second third)) (det expressions below second third)) (det expressions (λ e. var e) second third) tt
  where
    above : ℕ → Expr
    above e = var (3 + e)

    below : ℕ → Expr
    below e = add (var e) (neg (mul (con (pos 2048)) (above e)))

    second : ℕ → Expr
    second e = var (6 + e)

    third : ℕ → Expr
    third e = var (9 + e)

-- the digits of the twenty volumes, the two of each together
unfoldable pub pairs : Nodes ℤ → List (ℤ × ℤ)
pairs x = map (λ t. (corner_digit upper x t, corner_digit lower x t)) corner_tetrahedra ++ map (λ t. (edge_digit upper x t, edge_digit lower x t)) edge_tetrahedra

pub uppers_are : (x : Nodes ℤ) → digits upper x ≡ map (λ (d : ℤ × ℤ). d.0) (pairs x)
unfolding digits pairs
uppers_are x = refl

pub lowers_are : (x : Nodes ℤ) → digits lower x ≡ map (λ (d : ℤ × ℤ). d.1) (pairs x)
unfolding digits pairs
lowers_are x = refl

wholes : (f g h : List ℕ → ℤ) → ((t : List ℕ) → whole (f t, g t) ≡ h t) → (ts : List (List ℕ)) → map whole (map (λ t. (f t, g t)) ts) ≡ map h ts
wholes f g h e [] = refl
wholes f g h e (t ∷ ts) = ap₂ ◌∷◌ (e t) (wholes f g h e ts)

pub volumes_are : (x : Nodes ℤ) → map whole (pairs x) ≡ volumes integers x
unfolding pairs
volumes_are x = ap₂ ◌++◌ (wholes (corner_digit upper x) (corner_digit lower x) (corner_volume integers x) corner corner_tetrahedra) (wholes (edge_digit upper x) (edge_digit lower x) (edge_volume integers x) at_middle edge_tetrahedra)
  where
    corner : (t : List ℕ) → whole (corner_digit upper x t, corner_digit lower x t) ≡ corner_volume integers x t
    corner t = let n : ℕ → ℕ = λ i. get_or t i 0 in det_whole (edge integers x (n 0) (n 1)) (edge integers x (n 0) (n 2)) (edge integers x (n 0) (n 3))

    at_middle : (t : List ℕ) → whole (edge_digit upper x t, edge_digit lower x t) ≡ edge_volume integers x t
    at_middle t = let n : ℕ → ℕ = λ i. get_or t i 0 in det_whole (edge integers x (n 0) (n 1)) (middle integers x (n 0) (n 2) (n 3)) (middle integers x (n 0) (n 4) (n 5))

-- ---- the digit at each place
module _ (f : ℤ → ℤ) (x : Nodes ℤ) {k : ℕ} {t : List ℕ} where
  pub corner_digit_law : k < 8 → get_or corner_tetrahedra k [] ≡ t → corner_digit f x t ≡ args (digits f x) k
  unfolding digits
  corner_digit_law h e = sym (get_or-append (map (corner_digit f x) corner_tetrahedra) (map (edge_digit f x) edge_tetrahedra) (pos 0) k h ∙ get_d_image (corner_digit f x) corner_tetrahedra k [] (pos 0) h
      ∙ ap (corner_digit f x) e)

  pub edge_digit_law : 8 ≤ k → k < 20 → get_or edge_tetrahedra (k - 8) [] ≡ t → edge_digit f x t ≡ args (digits f x) k
  unfolding digits
  edge_digit_law g h e = sym (ap (args (corners ++ edges)) back ∙ get_or-append-add corners edges (k - 8) (pos 0) ∙ get_d_image (edge_digit f x) edge_tetrahedra (k - 8) [] (pos 0) (omega (arith, h))
      ∙ ap (edge_digit f x) e)
    where
      corners : List ℤ
      corners = map (corner_digit f x) corner_tetrahedra

      edges : List ℤ
      edges = map (edge_digit f x) edge_tetrahedra

      back : k ≡ 8 + (k - 8)
      back = omega (arith, g)
