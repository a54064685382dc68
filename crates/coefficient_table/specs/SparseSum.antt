-- A row's list gives the row's sum: what is times 0 may be left out.
use Rattle.std.specs.Prelude.{◌≡◌, refl, List, [], ◌∷◌, ℕ, zero, suc, get_or, drop, ℤ, pos, negsuc, ◌+ℤ◌, ◌*ℤ◌}
use Rattle.std.proofs.Common.{sym, ◌∙◌, ap, ap₂}
use Rattle.std.proofs.Math.IntN.{zero-*ℤ, *ℤ-zero, +ℤ_idl}
use Rattle.foundation.specs.Polynomial.{integers}
use Rattle.definitions.specs.Coefficients.{row, dot}
use Rattle.coefficient_table.specs.Sparse.{Entry, kept, non_zero_from, sparse_row}

-- the entries of a list against the volumes
abbrev pub sparse_dot : List ℤ → List Entry → ℤ
sparse_dot vs [] = pos 0
sparse_dot vs (e ∷ es) = e.1 *ℤ get_or vs e.0 (pos 0) +ℤ sparse_dot vs es

kept_dot : (vs : List ℤ) (k : ℕ) (c : ℤ) (es : List Entry) → sparse_dot vs (kept k c es) ≡ c *ℤ get_or vs k (pos 0) +ℤ sparse_dot vs es
kept_dot vs k (pos zero) es = sym (ap (λ (x : ℤ). x +ℤ sparse_dot vs es) (zero-*ℤ (get_or vs k (pos 0))) ∙ +ℤ_idl (sparse_dot vs es))
kept_dot vs k (pos (suc n)) es = refl
kept_dot vs k (negsuc n) es = refl

dot_nil : (cs : List ℤ) → dot integers cs [] ≡ pos 0
dot_nil [] = refl
dot_nil (c ∷ cs) = refl

dot_drop : (c : ℤ) (cs vs : List ℤ) (k : ℕ) → c *ℤ get_or vs k (pos 0) +ℤ dot integers cs (drop (suc k) vs) ≡ dot integers (c ∷ cs) (drop k vs)
dot_drop c cs [] zero = ap₂ ◌+ℤ◌ (*ℤ-zero c) (dot_nil cs)
dot_drop c cs [] (suc k) = ap₂ ◌+ℤ◌ (*ℤ-zero c) (dot_nil cs)
dot_drop c cs (v ∷ vs) zero = refl
dot_drop c cs (v ∷ vs) (suc k) = dot_drop c cs vs k

-- of any list of numbers
dot_from : (vs : List ℤ) (k : ℕ) (cs : List ℤ) → sparse_dot vs (non_zero_from k cs) ≡ dot integers cs (drop k vs)
dot_from vs k [] = refl
dot_from vs k (c ∷ cs) = kept_dot vs k c (non_zero_from (suc k) cs) ∙ ap (λ (x : ℤ). c *ℤ get_or vs k (pos 0) +ℤ x) (dot_from vs (suc k) cs) ∙ dot_drop c cs vs k

-- of a row of the table
pub sparse_dot_law : (vs : List ℤ) (n : ℕ) → sparse_dot vs (sparse_row n) ≡ dot integers (row n) vs
sparse_dot_law vs n = dot_from vs 0 (row n)
