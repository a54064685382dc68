-- The notes case by case, as the code's branches reach them.
use Rattle.std.specs.Prelude.{◌≡◌, Bool, true, false, cond, not, ◌||◌, List, ℕ, zero, suc, ◌+◌, ◌-◌, ◌<◌, ◌≤◌, get_or, length, take, ℤ, pos, Option, Some, None, is_some, int_lt}
use Rattle.std.proofs.Math.Path.{refl, ap}
use Rattle.std.proofs.Common.{sym, ◌∙◌, arith, true≢false, lt-ltb, le-ltb}
use Rattle.std.proofs.Math.Seq.{take_all}
use Rattle.std.specs.Int.Signed.{le_z}
use Rattle.std.specs.Int.{int_min}
use Rattle.foundation.specs.Least.{lesser, least_from}
use Rattle.definitions.specs.Verdict.{Finding, blocked}
use Rattle.verdict_theory.specs.Search.{Found, point, ended, open_cell, visit}
use Rattle.search_theory.specs.Meaning.{cell_of, low_from, lowest}
use Rattle.search_theory.specs.Lowest.{with_coefficient, at_corner, at_cell, opened_corner, opened_coefficient, clear, low}
use Rattle.search_theory.specs.Visit.{visit_none}
use Rattle.search_theory.specs.Bounds.{coefficient_values, corner_values_law}
use Rattle.wrapping_theory.specs.Order.{at_most_not_less}
use Rattle.audit_theory.specs.Walk.{Notes, sought, surveyed, noted}
use Rattle.audit_notes.specs.Meaning.{numbered, finding_at}

-- ---- the lowest number, from the last to the first
-- what an answer says of the number
abbrev number_in : Option ℕ → ℕ
number_in None = 0
number_in (Some k) = k

back : (m : ℕ) → number_in (numbered m) ≡ m
back zero = refl
back (suc m) = refl

pub clear_number : (m : ℕ) → None ≡ numbered m → m ≡ 0
clear_number m e = sym (back m) ∙ sym (ap number_in e)

pub low_number : (m : ℕ) {k : ℕ} → Some k ≡ numbered m → k ≡ m
low_number m e = ap number_in e ∙ back m

pub low_some : (m : ℕ) {k : ℕ} → Some k ≡ numbered m → 0 < k
low_some zero e = absurd (true≢false (ap is_some e))
low_some (suc m) e = let p = low_number (suc m) e in omega (arith, p)

module _ (g : List ℤ) where
  low_small : (k n : ℕ) → low_from g k n ≤ k + n
  low_small k zero = omega arith
  low_small k (suc n) = go (le_z (get_or g k (pos 0)) (pos 0)) (low_small (suc k) n)
    where
      go : (b : Bool) → low_from g (suc k) n ≤ suc k + n → elim b [ true ↦ suc k | false ↦ low_from g (suc k) n ] ≤ k + suc n
      go true h = omega arith
      go false h = omega (arith, h)

  pub lowest_small : lowest g ≤ 27
  unfolding lowest
  lowest_small = low_small 0 27

  -- the coefficients from k on have been looked at
  pub record Looked (k : ℕ) (n : Option ℕ) : Type 0 where
    pub few : k ≤ 27
    pub number : n ≡ numbered (low_from g k (27 - k))

  pub looked_none : Looked 27 None
  looked_none = record { few = omega arith; number = refl }

  -- the one before them is low, or not
  module _ (k : ℕ) {n : Option ℕ} (l : Looked (k + 1) n) where
    step : (b : Bool) → le_z (get_or g k (pos 0)) (pos 0) ≡ b → low_from g k (27 - k) ≡ elim b [ true ↦ suc k | false ↦ low_from g (k + 1) (27 - (k + 1)) ]
    step b e = let rest : 27 - k ≡ suc (27 - (k + 1)) = omega (arith, l.few) in let next : suc k ≡ k + 1 = omega arith in
        ap (low_from g k) rest ∙ (λ i. elim (e i) as (λ _. ℕ) [ true ↦ suc k | false ↦ low_from g (next i) (27 - (k + 1)) ])

    pub looked_low : le_z (get_or g k (pos 0)) (pos 0) ≡ true → Looked k (Some (k + 1))
    looked_low e = let next : k + 1 ≡ suc k = omega arith in record { few = omega (arith, l.few); number = ap Some next ∙ sym (ap numbered (step true e)) }

    pub looked_on : le_z (get_or g k (pos 0)) (pos 0) ≡ false → Looked k n
    looked_on e = record { few = omega (arith, l.few); number = l.number ∙ sym (ap numbered (step false e)) }

  pub looked_all : {n : Option ℕ} → Looked 0 n → n ≡ numbered (lowest g)
  unfolding lowest
  looked_all l = l.number

-- ---- the lesser of two, as the library has it
pub min_lesser : (x y : ℤ) → int_min x y ≡ lesser x y
min_lesser x y = sym (go (int_lt y x) (at_most_not_less x y))
  where
    go : (t : Bool) → le_z x y ≡ not t → lesser x y ≡ cond t y x
    go true e = ap (λ (b : Bool). cond b x y) e
    go false e = ap (λ (b : Bool). cond b x y) e

-- ---- a cell opened by a search
module _ (a b c : ℕ) (g : List ℤ) where
  pub corner_found : (j : ℕ) → j < 8 → at_corner (cell_of a b c g) j ≡ finding_at (cell_of a b c g) j
  corner_found j h = sym (ap (λ (t : Bool). elim t as (λ _. Finding) [ true ↦ at_corner (cell_of a b c g) j | false ↦ at_cell (cell_of a b c g) j ]) (lt-ltb j 8 h))

  pub cell_found : (j : ℕ) → 8 ≤ j → at_cell (cell_of a b c g) j ≡ finding_at (cell_of a b c g) j
  cell_found j h = sym (ap (λ (t : Bool). elim t as (λ _. Finding) [ true ↦ at_corner (cell_of a b c g) j | false ↦ at_cell (cell_of a b c g) j ]) (le-ltb j 8 h))

  -- after a low corner nothing changes
  pub open_ended : (n : ℕ) (f : Finding) → sought (record { count = n; found = point f }) ≡ noted (cell_of a b c g) (sought (record { count = n; found = point f }))
  unfolding open_cell
  open_ended n f = refl

  module _ (n : ℕ) (o : Found) (going : ended o ≡ false) where
    abbrev opens : Notes
    opens = sought (open_cell (cell_of a b c g) (record { count = n; found = o }))

    pub open_clear : length g ≡ 27 → lowest g ≡ 0 → sought (record { count = n + 1; found = o }) ≡ opens
    unfolding visit
    open_clear sized e = ap sought (visit_none (cell_of a b c g) (record { count = n; found = o }) going 0 sized e)

    module _ (k : ℕ) (some : k ≡ 0 → ⊥) (e : k ≡ lowest g) where
      number : lowest g ≡ suc (k - 1)
      number = let p : k ≡ suc (k - 1) = omega (arith, some) in sym e ∙ p

      pub open_corner : k ≤ 8 → {f : Finding} → f ≡ finding_at (cell_of a b c g) (k - 1) → sought (record { count = n + 1; found = point f }) ≡ opens
      open_corner h w = let l : k - 1 < 8 = omega (arith, some, h) in
          ap (λ (f : Finding). sought (record { count = n + 1; found = point f })) (w ∙ sym (corner_found (k - 1) l)) ∙ ap sought (opened_corner (cell_of a b c g) n o going (k - 1) number l)

      pub open_other : 8 < k → {p : Found} → p ≡ with_coefficient o (finding_at (cell_of a b c g) (k - 1)) → sought (record { count = n + 1; found = p }) ≡ opens
      open_other h w = let l : 8 ≤ k - 1 = omega (arith, h) in
          ap (λ (p : Found). sought (record { count = n + 1; found = p })) (w ∙ ap (with_coefficient o) (sym (cell_found (k - 1) l))) ∙ ap sought (opened_coefficient (cell_of a b c g) n o going (k - 1) number l)

-- ---- a cell seen by a survey
pub seen : (a b c : ℕ) (g : List ℤ) → length g ≡ 27 → (l h : ℤ) {low high : ℤ} → low ≡ least_from l g → high ≡ least_from h (take 8 g) → surveyed (record { low = low; high = high }) ≡ noted (cell_of a b c g) (surveyed (record { low = l; high = h }))
seen a b c g sized l h p q = let all = take_all 27 g (omega (arith, sized)) in
    λ i. surveyed (record { low = (p ∙ ap (least_from l) (sym all) ∙ ap (least_from l) (sym (coefficient_values (cell_of a b c g) sized))) i; high = (q ∙ ap (least_from h) (sym (corner_values_law (cell_of a b c g) sized))) i })

-- ---- whether a cell is not cut
turned : (r : Bool) {t : Bool} → t ≡ not r → r ≡ not t
turned true e = sym (ap not e)
turned false e = sym (ap not e)

pub stops_by : (a b c : ℕ) (g : List ℤ) (o : Found) → ended o ≡ false → {n : Option ℕ} → n ≡ numbered (lowest g) → {r : Bool} → is_some n ≡ not r → r ≡ (ended o || not (blocked (cell_of a b c g)))
stops_by a b c g o going {n} e {r} t = turned r t ∙ ap (λ (m : Option ℕ). not (is_some m)) e ∙ go (lowest g) refl
  where
    go : (k : ℕ) → lowest g ≡ k → not (is_some (numbered k)) ≡ (ended o || not (blocked (cell_of a b c g)))
    go zero p = sym (λ i. going i || not (clear (cell_of a b c g) p i))
    go (suc k) p = sym (λ i. going i || not (low (cell_of a b c g) (λ z. absurd (omega (arith, p, z))) i))
