-- A row of the table against the twenty volumes, entry by entry; how large its sums become; and that the rows are the coefficients.
use Rattle.std.specs.Prelude.{◌≡◌, refl, ℕ, suc, ◌+◌, ◌*◌, ◌-◌, ◌<◌, ◌≤◌, leb, get_or, length, ℤ, pos, nat_abs, ◌+ℤ◌, ◌*ℤ◌}
use Rattle.std.proofs.Common.{sym, ◌∙◌, ap, subst, arith, le_trans, le_of_eq, mul-le-mul, ext_get_or}
use Rattle.std.proofs.Math.Facts.{leb_yes}
use mathlib.Core.List.{List}
use Rattle.foundation.specs.Filled.{Filled, all_filled}
use Rattle.foundation.specs.Lists.{below, tabulate, tabulate_agree, tabulate_at}
use Rattle.foundation.specs.Magnitude.{magnitude_mul, magnitude_add}
use Rattle.foundation.specs.Polynomial.{integers}
use Rattle.foundation.specs.Words.{args}
use Rattle.definitions.specs.Jacobian.{nodes_of}
use Rattle.definitions.specs.Coefficients.{volumes, table, row, dot, coefficients}
use Rattle.audit_volumes.specs.Limits.{volume_limit}

-- ---- magnitudes: of an entry of the table, and of what twenty terms come to
abbrev pub entry_limit : ℕ
entry_limit = 8

abbrev pub sum_limit : ℕ
sum_limit = 20 * (entry_limit * volume_limit)

-- entry k of row n of the table
abbrev pub entry_of : List ℤ → ℕ → ℕ → ℤ
entry_of xs n k = get_or xs (20 * n + k) (pos 0)

pub entry_small : (k : ℕ) → k < 540 → nat_abs (args table k) ≤ entry_limit
entry_small k h = leb_yes (below (λ k. leb (nat_abs (args table k)) entry_limit) 540 tt k h)

-- ---- entry by entry
-- the sum of a row's terms from number k on: c has the entries, v the numbers
abbrev pub terms_from : (ℕ → ℤ) → (ℕ → ℤ) → ℕ → ℤ
terms_from c v k = dot integers (tabulate c k (20 - k)) (tabulate v k (20 - k))

one_more : (c v : ℕ → ℤ) (k : ℕ) → k < 20 → terms_from c v k ≡ c k *ℤ v k +ℤ terms_from c v (k + 1)
one_more c v k l = ap (λ (m : ℕ). dot integers (tabulate c k m) (tabulate v k m)) more ∙ ap (λ (j : ℕ). c k *ℤ v k +ℤ dot integers (tabulate c j (20 - (k + 1))) (tabulate v j (20 - (k + 1)))) same
  where
    more : 20 - k ≡ suc (20 - (k + 1))
    more = omega (arith, l)

    same : suc k ≡ k + 1
    same = omega arith

-- before the term of number k: the sum of those behind it, and how large it is
pub record Summed (c v : ℕ → ℤ) (k : ℕ) (sum : ℤ) : Type 0 where
  pub few : k ≤ 20
  pub is : sum ≡ terms_from c v k
  pub small : nat_abs sum ≤ (20 - k) * (entry_limit * volume_limit)

pub none_summed : (c v : ℕ → ℤ) → Summed c v 20 (pos 0)
none_summed c v = record { few = omega arith; is = refl; small = omega arith }

pub summed_small : {c v : ℕ → ℤ} {k : ℕ} {sum : ℤ} → Summed c v k sum → nat_abs sum ≤ sum_limit
summed_small {k = k} s = le_trans s.small (go (20 - k) (omega arith))
  where
    go : (m : ℕ) → m ≤ 20 → m * (entry_limit * volume_limit) ≤ sum_limit
    go m h = omega (arith, h)

pub one_summed : (c v : ℕ → ℤ) (m : ℕ) {sum next : ℤ} → 0 < m → Summed c v m sum → nat_abs (c (m - 1)) ≤ entry_limit → nat_abs (v (m - 1)) ≤ volume_limit → next ≡ c (m - 1) *ℤ v (m - 1) +ℤ sum → Summed c v (m - 1) next
one_summed c v m {sum} {next} some s h l e = record {
  few = omega (arith, s.few);
  is = e ∙ ap (λ (z : ℤ). c k *ℤ v k +ℤ z) (s.is ∙ ap (terms_from c v) (sym back)) ∙ sym (one_more c v k (omega (arith, s.few, some)));
  small = subst (λ (z : ℤ). nat_abs z ≤ (20 - k) * (entry_limit * volume_limit)) (sym e) (le_trans (magnitude_add (c k *ℤ v k) sum) (omega (arith, term, s.small, s.few, some)));
}
  where
    k : ℕ
    k = m - 1

    back : k + 1 ≡ m
    back = omega (arith, some)

    term : nat_abs (c k *ℤ v k) ≤ entry_limit * volume_limit
    term = le_trans (le_of_eq (magnitude_mul (c k) (v k))) (mul-le-mul h l)

-- ---- all twenty
rows_are : (n : ℕ) → n < 27 → tabulate (entry_of table n) 0 20 ≡ row n
rows_are = tabulate_agree (λ n. tabulate (entry_of table n) 0 20) row 27 refl

pub all_terms : (n : ℕ) → n < 27 → (vs : List ℤ) → length vs ≡ 20 → {sum : ℤ} → Summed (entry_of table n) (args vs) 0 sum → sum ≡ dot integers (row n) vs
all_terms n h vs sized s = s.is ∙ (λ i. dot integers (rows_are n h i) (whole i))
  where
    whole : tabulate (args vs) 0 20 ≡ vs
    whole = ext_get_or (pos 0) (tabulate (args vs) 0 20) vs (sym sized) (λ k l. tabulate_at (args vs) 20 k (pos 0) l)

-- ---- the rows against the volumes are the coefficients
pub rows_coefficients : (xs : List ℤ) {vs out : List ℤ} → vs ≡ volumes integers (nodes_of xs) → Filled (λ n. dot integers (row n) vs) 27 27 out → out ≡ coefficients xs
unfolding coefficients
rows_coefficients xs {vs} e f = all_filled (λ n. dot integers (row n) vs) f ∙ ap (λ (ws : List ℤ). tabulate (λ n. dot integers (row n) ws) 0 27) e
