-- The rows of the table against volumes in two digits: a row is linear, so it may be worked against each digit for itself.
use Rattle.std.specs.Prelude.{◌≡◌, refl, List, [], ◌∷◌, map, ℕ, ◌+◌, ◌<◌, get_or, ℤ, pos, ◌+ℤ◌, ◌*ℤ◌}
use Rattle.std.proofs.Common.{sym, ◌∙◌, ap, ap₂}
use Rattle.foundation.specs.Lists.{tabulate, tabulate_at, tabulate_cong}
use Rattle.foundation.specs.Polynomial.{Expr, var, con, add, mul, integers, solve}
use Rattle.foundation.specs.Words.{args}
use Rattle.definitions.specs.Jacobian.{Nodes, nodes_of}
use Rattle.definitions.specs.Coefficients.{volumes, row, dot, coefficients}
use Rattle.wide_volumes.specs.Digits.{upper, lower, digits, whole, pairs, uppers_are, lowers_are, volumes_are}

-- number k of those whose digits are in the two lists
abbrev pub join_at : List ℤ → List ℤ → ℕ → ℤ
join_at high low k = whole (args high k, args low k)

-- the two digits of number k
abbrev pub digit_at : List (ℤ × ℤ) → ℕ → ℤ × ℤ
digit_at ds k = get_or ds k (pos 0, pos 0)

-- a row against volumes, from the row against either digit
dot_whole : (cs : List ℤ) (ds : List (ℤ × ℤ)) → dot integers cs (map whole ds) ≡ whole (dot integers cs (map (λ (d : ℤ × ℤ). d.0) ds), dot integers cs (map (λ (d : ℤ × ℤ). d.1) ds))
dot_whole [] ds = refl
dot_whole (c ∷ cs) [] = refl
dot_whole (c ∷ cs) (d ∷ ds) = ap (λ (z : ℤ). c *ℤ whole d +ℤ z) (dot_whole cs ds)
    ∙ solve (args (c ∷ d.0 ∷ d.1 ∷ dot integers cs (map (λ (d : ℤ × ℤ). d.0) ds) ∷ dot integers cs (map (λ (d : ℤ × ℤ). d.1) ds) ∷ []))
    (add (mul (var 0) (joined (var 1) (var 2))) (joined (var 3) (var 4))) (joined (add (mul (var 0) (var 1)) (var 3)) (add (mul (var 0) (var 2)) (var 4))) tt
  where
    joined : Expr → Expr → Expr
    joined a b = add (mul (con (pos 2048)) a) b

-- the 27 rows against volumes
abbrev rows_against : List ℤ → List ℤ
rows_against vs = tabulate (λ n. dot integers (row n) vs) 0 27

joined_rows : (xs : List ℤ) → tabulate (join_at (rows_against (digits upper (nodes_of xs))) (rows_against (digits lower (nodes_of xs)))) 0 27 ≡ coefficients xs
unfolding coefficients
joined_rows xs = tabulate_cong (join_at (rows_against (digits upper x)) (rows_against (digits lower x))) (λ n. dot integers (row n) (volumes integers x)) 0 27 each
  where
    x : Nodes ℤ
    x = nodes_of xs

    against : (ℤ → ℤ) → ℕ → ℤ
    against f n = dot integers (row n) (digits f x)

    each : (n : ℕ) → n < 0 + 27 → join_at (rows_against (digits upper x)) (rows_against (digits lower x)) n ≡ dot integers (row n) (volumes integers x)
    each n h = ap₂ (λ (a b : ℤ). whole (a, b)) (tabulate_at (against upper) 27 n (pos 0) h ∙ ap (dot integers (row n)) (uppers_are x)) (tabulate_at (against lower) 27 n (pos 0) h ∙ ap (dot integers (row n)) (lowers_are x))
        ∙ sym (dot_whole (row n) (pairs x))
        ∙ ap (dot integers (row n)) (volumes_are x)

-- rows worked against the two digits, joined: the coefficients
pub coefficients_joined : (xs : List ℤ) {high low uppers lowers : List ℤ} → high ≡ digits upper (nodes_of xs) → low ≡ digits lower (nodes_of xs)
    → uppers ≡ rows_against high → lowers ≡ rows_against low → tabulate (join_at uppers lowers) 0 27 ≡ coefficients xs
coefficients_joined xs p q r s = ap₂ (λ (us ls : List ℤ). tabulate (join_at us ls) 0 27) (r ∙ ap rows_against p) (s ∙ ap rows_against q) ∙ joined_rows xs
