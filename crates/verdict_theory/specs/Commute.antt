-- Halving in one direction and then in another: the order makes no difference.
use Rattle.std.specs.Prelude.{◌≡◌, refl, true, false, List, ℕ, zero, suc, ◌+◌, ◌*◌, ◌/◌, ◌%◌, ◌<◌, eqb, ℤ, pos}
use Rattle.std.proofs.Common.{sym, ◌∙◌, ap, arith}
use Rattle.foundation.specs.Polynomial.{Arithmetic, Expr, var, con, integers, expressions, solve}
use Rattle.definitions.specs.Jacobian.{side}
use Rattle.definitions.specs.Coefficients.{numbered, at}
use Rattle.definitions.specs.Subdivision.{cut_row, cut, halve}

-- ---- a number of a half row is a sum of the row's three, with fixed weights
module _ {A : Type 0} (o : Arithmetic A) where
  infixl 6 ◌⊕◌
  infixl 7 ◌⊗◌
  open o use {plus as ◌⊕◌, times as ◌⊗◌}

  abbrev against : (ℕ → A) → (ℕ → A) → A
  against w f = w 0 ⊗ f 0 ⊕ w 1 ⊗ f 1 ⊕ w 2 ⊗ f 2

-- the weight of t in number x of the half on side h
abbrev weight : ℕ → ℕ → ℕ → ℤ
weight h x t = cut_row integers h (λ u. elim (eqb u t) [ true ↦ pos 1 | false ↦ pos 0 ]) x

abbrev row_expr : ℕ → ℕ → Expr
row_expr h x = cut_row expressions h var x

abbrev sum_expr : ℕ → ℕ → Expr
sum_expr h x = against expressions (λ t. con (weight h x t)) var

row_is : (h x : ℕ) (f : ℕ → ℤ) → cut_row integers h f x ≡ against integers (weight h x) f
row_is zero zero f = solve f (row_expr 0 0) (sum_expr 0 0) tt
row_is zero (suc zero) f = solve f (row_expr 0 1) (sum_expr 0 1) tt
row_is zero (suc (suc x)) f = solve f (row_expr 0 2) (sum_expr 0 2) tt
row_is (suc h) zero f = solve f (row_expr 1 0) (sum_expr 1 0) tt
row_is (suc h) (suc zero) f = solve f (row_expr 1 1) (sum_expr 1 1) tt
row_is (suc h) (suc (suc x)) f = solve f (row_expr 1 2) (sum_expr 1 2) tt

-- ---- nine numbers g t u, summed by rows and by columns
abbrev line_var : ℕ → ℕ → Expr
line_var n t = var (3 * n + t)

abbrev lines : (ℕ → ℤ) → (ℕ → ℤ) → (ℕ → ℕ → ℤ) → ℕ → ℕ → ℤ
lines v w g zero = v
lines v w g (suc zero) = w
lines v w g (suc (suc t)) = g t

sums_commute : (v w : ℕ → ℤ) (g : ℕ → ℕ → ℤ) → against integers v (λ t. against integers w (g t)) ≡ against integers w (λ u. against integers v (λ t. g t u))
sums_commute v w g = solve (λ n. lines v w g (n / 3) (n % 3)) (against expressions (line_var 0) (λ t. against expressions (line_var 1) (line_var (2 + t)))) (against expressions (line_var 1) (λ u. against expressions (line_var 0) (λ t. line_var (2 + t) u))) tt

rows_commute : (h i x y : ℕ) (g : ℕ → ℕ → ℤ) → cut_row integers h (λ t. cut_row integers i (g t) y) x ≡ cut_row integers i (λ u. cut_row integers h (λ t. g t u) x) y
rows_commute h i x y g = (λ k. cut_row integers h (λ t. row_is i y (g t) k) x) ∙ row_is h x (λ t. against integers (weight i y) (g t))
    ∙ sums_commute (weight h x) (weight i y) g
    ∙ sym ((λ k. cut_row integers i (λ u. row_is h x (λ t. g t u) k) y) ∙ row_is i y (λ u. against integers (weight h x) (λ t. g t u)))

-- ---- a half of a half
pub halve_numbered : (d h : ℕ) (f : ℕ → ℕ → ℕ → ℤ) → halve d h (numbered f) ≡ numbered (cut integers d h f)
unfolding halve numbered at
halve_numbered zero zero f = refl
halve_numbered zero (suc h) f = refl
halve_numbered (suc zero) zero f = refl
halve_numbered (suc zero) (suc h) f = refl
halve_numbered (suc (suc d)) zero f = refl
halve_numbered (suc (suc d)) (suc h) f = refl

cuts_commute : (d e : ℕ) → d < e → e < 3 → (h i : ℕ) (f : ℕ → ℕ → ℕ → ℤ) (x y z : ℕ) → cut integers d h (cut integers e i f) x y z ≡ cut integers e i (cut integers d h f) x y z
cuts_commute zero zero p q h i f x y z = absurd (omega arith)
cuts_commute zero (suc zero) p q h i f x y z = rows_commute h i x y (λ t u. f t u z)
cuts_commute zero (suc (suc e)) p q h i f x y z = rows_commute h i x z (λ t u. f t y u)
cuts_commute (suc zero) zero p q h i f x y z = absurd (omega arith)
cuts_commute (suc zero) (suc zero) p q h i f x y z = absurd (omega arith)
cuts_commute (suc zero) (suc (suc e)) p q h i f x y z = rows_commute h i y z (λ t u. f x t u)
cuts_commute (suc (suc d)) e p q h i f x y z = absurd (omega arith)

pub halves_commute : (d e : ℕ) → d < e → e < 3 → (h i : ℕ) (c : List ℤ) → halve d h (halve e i c) ≡ halve e i (halve d h c)
unfolding halve
halves_commute d e p q h i c = halve_numbered d h (cut integers e i (at c))
    ∙ (λ k. numbered (λ x y z. cuts_commute d e p q h i (at c) x y z k))
    ∙ sym (halve_numbered e i (cut integers d h (at c)))

-- so a child is a half in ζ, of that a half in η, of that a half in ξ
pub child_by_halves : (c : List ℤ) (k : ℕ) → halve 0 (side 0 k) (halve 1 (side 1 k) (halve 2 (side 2 k) c)) ≡ halve 2 (side 2 k) (halve 1 (side 1 k) (halve 0 (side 0 k) c))
child_by_halves c k = let x = side 0 k in let y = side 1 k in let z = side 2 k in
    ap (halve 0 x) (halves_commute 1 2 (omega arith) (omega arith) y z c) ∙ halves_commute 0 2 (omega arith) (omega arith) x z (halve 1 y c)
    ∙ ap (halve 2 z) (halves_commute 0 1 (omega arith) (omega arith) x y c)
