-- The lowest number of a coefficient that is not above 0, and what it says of a cell's first low coefficient and corner.
use Rattle.std.specs.Prelude.{◌≡◌, Bool, true, false, List, ℕ, zero, suc, ◌+◌, ◌-◌, ◌<◌, ◌≤◌, get_or, ℤ, pos}
use Rattle.std.proofs.Math.Path.{refl}
use Rattle.std.proofs.Common.{sym, ◌∙◌, ap, ap₂, true≢false, arith}
use Rattle.std.proofs.Math.Option.{Option, none, some}
use Rattle.std.specs.Int.Signed.{le_z}
use Rattle.foundation.specs.Lists.{tabulate}
use Rattle.definitions.specs.Jacobian.{side}
use Rattle.definitions.specs.Subdivision.{Cell}
use Rattle.definitions.specs.Verdict.{Finding, first_low, found, coefficients_of, blocked}
use Rattle.verdict_theory.specs.Findings.{or_else}
use Rattle.verdict_theory.specs.Search.{Found, nothing, coefficient, point, finds, pass, ended, open_after, open_cell, corner_values}
use Rattle.search_theory.specs.Meaning.{low_from, lowest}

module _ (g : List ℤ) where
  abbrev step : ℕ → ℕ → Bool → ℕ
  step k n b = elim b [ true ↦ suc k | false ↦ low_from g (suc k) n ]

  -- with some left, the first of them is low or not
  low_here : (k n : ℕ) → 0 < n → le_z (get_or g k (pos 0)) (pos 0) ≡ true → low_from g k n ≡ k + 1
  low_here k zero h e = absurd (omega arith)
  low_here k (suc n) h e = let p : suc k ≡ k + 1 = omega arith in ap (step k n) e ∙ p

  low_later : (k n : ℕ) → 0 < n → le_z (get_or g k (pos 0)) (pos 0) ≡ false → low_from g k n ≡ low_from g (k + 1) (n - 1)
  low_later k zero h e = absurd (omega arith)
  low_later k (suc n) h e = let p : suc k ≡ k + 1 = omega arith in let q : n ≡ suc n - 1 = omega arith in ap (step k n) e ∙ (λ i. low_from g (p i) (q i))

  -- as the code looks for it: none of the first k is low
  pub record Passed (k : ℕ) : Type 0 where
    pub few : k ≤ 27
    pub rest : lowest g ≡ low_from g k (27 - k)

  pub passed_none : Passed 0
  unfolding lowest
  passed_none = record { few = omega arith; rest = refl }

  module _ {k : ℕ} (h : k < 27) (p : Passed k) where
    pub passed_here : le_z (get_or g k (pos 0)) (pos 0) ≡ true → k + 1 ≡ lowest g
    passed_here e = sym (p.rest ∙ low_here k (27 - k) (omega arith) e)

    pub passed_on : le_z (get_or g k (pos 0)) (pos 0) ≡ false → Passed (k + 1)
    passed_on e = let q : 27 - k - 1 ≡ 27 - (k + 1) = omega arith in record { few = omega arith; rest = p.rest ∙ low_later k (27 - k) (omega arith) e ∙ ap (low_from g (k + 1)) q }

  pub passed_all : {k : ℕ} → Passed k → 27 ≤ k → 0 ≡ lowest g
  passed_all {k} p h = let q : 27 - k ≡ 0 = omega arith in sym (p.rest ∙ ap (low_from g k) q)

  -- a number found is past the start
  low_past : (k n : ℕ) → (low_from g k n ≡ 0 → ⊥) → k < low_from g k n
  low_past k zero h = absurd (h refl)
  low_past k (suc n) h = go (le_z (get_or g k (pos 0)) (pos 0)) (low_past (suc k) n) h
    where
      go : (b : Bool) → ((low_from g (suc k) n ≡ 0 → ⊥) → suc k < low_from g (suc k) n) → (step k n b ≡ 0 → ⊥) → k < step k n b
      go true r h = omega arith
      go false r h = let p = r h in omega arith

  -- the first m alone: the same number if it is among them, else none
  abbrev Prefix : ℕ → ℕ → ℕ → Type 0
  Prefix k m l = record { inside : 1 ≤ l → l ≤ k + m → low_from g k m ≡ l; outside : k + m < l → low_from g k m ≡ 0 }

  prefix : (m k n : ℕ) → m ≤ n → Prefix k m (low_from g k n)
  prefix zero k n h = record {
    inside = λ p q. absurd (let e : low_from g k n ≡ 0 → ⊥ = λ z. omega arith in let r = low_past k n e in omega arith);
    outside = λ p. refl;
  }
  prefix (suc m) k zero h = absurd (omega arith)
  prefix (suc m) k (suc n) h = go (le_z (get_or g k (pos 0)) (pos 0)) (prefix m (suc k) n (omega arith))
    where
      go : (b : Bool) → Prefix (suc k) m (low_from g (suc k) n) → record { inside : 1 ≤ step k n b → step k n b ≤ k + suc m → step k m b ≡ step k n b; outside : k + suc m < step k n b → step k m b ≡ 0 }
      go true r = record { inside = λ p q. refl; outside = λ p. absurd (omega arith) }
      go false r = record { inside = λ p q. r.inside p (omega arith); outside = λ p. r.outside (omega arith) }

-- what the number found names
abbrev named : (ℕ → Finding) → ℕ → Option Finding
named f zero = none
named f (suc j) = some (f j)

first_named : (g : List ℤ) (f : ℕ → Finding) → ((k : ℕ) → (f k).value ≡ get_or g k (pos 0)) → (k n : ℕ) → first_low (tabulate f k n) ≡ named f (low_from g k n)
first_named g f h k zero = refl
first_named g f h k (suc n) = ap (λ (z : ℤ). elim (le_z z (pos 0)) as (λ _. Option Finding) [ true ↦ some (f k) | false ↦ first_low (tabulate f (suc k) n) ]) (h k) ∙ go (le_z (get_or g k (pos 0)) (pos 0)) (first_named g f h (suc k) n)
  where
    go : (b : Bool) → first_low (tabulate f (suc k) n) ≡ named f (low_from g (suc k) n) → ◌≡◌ {A = Option Finding} (elim b [ true ↦ some (f k) | false ↦ first_low (tabulate f (suc k) n) ]) (named f (step g k n b))
    go true r = refl
    go false r = r

-- a low coefficient after what was found before: an earlier one stays
abbrev pub with_coefficient : Found → Finding → Found
with_coefficient nothing f = coefficient f
with_coefficient (coefficient g) f = coefficient g
with_coefficient (point g) f = point g

-- ---- of a cell
module _ (s : Cell) where
  abbrev pub at_corner : ℕ → Finding
  at_corner k = record { number = suc k; a = s.a + side 0 k; b = s.b + side 1 k; c = s.c + side 2 k; value = get_or s.control k (pos 0) }

  abbrev pub at_cell : ℕ → Finding
  at_cell n = record { number = suc n; a = s.a; b = s.b; c = s.c; value = get_or s.control n (pos 0) }

  first_corner : first_low (corner_values s) ≡ named at_corner (low_from s.control 0 8)
  unfolding corner_values
  first_corner = first_named s.control at_corner (λ k. refl) 0 8

  first_coefficient : first_low (coefficients_of s) ≡ named at_cell (lowest s.control)
  unfolding coefficients_of lowest
  first_coefficient = first_named s.control at_cell (λ k. refl) 0 27

  eight : Prefix s.control 0 8 (lowest s.control)
  unfolding lowest
  eight = prefix s.control 8 0 27 (omega arith)

  -- a cell is blocked where there is a lowest
  pub clear : lowest s.control ≡ 0 → blocked s ≡ false
  clear e = ap found (first_coefficient ∙ ap (named at_cell) e)

  is_found : (o : Option Finding) (j : ℕ) → o ≡ named at_cell j → (j ≡ 0 → ⊥) → found o ≡ true
  is_found o zero e h = absurd (h refl)
  is_found o (suc j) e h = ap found e

  pub low : (lowest s.control ≡ 0 → ⊥) → blocked s ≡ true
  low h = is_found (first_low (coefficients_of s)) (lowest s.control) first_coefficient h

  -- a low corner; a low coefficient that is no corner
  open_corner : (j : ℕ) → lowest s.control ≡ suc j → j < 8 → (n : ℕ) (k : Option Finding) → open_after n k s ≡ record { count = suc n; found = point (at_corner j) }
  open_corner j e h n k = ap (λ p. pass (suc n) p (or_else k (first_low (coefficients_of s)))) (first_corner ∙ ap (named at_corner) (eight.inside (omega arith) (omega arith) ∙ e))

  open_coefficient : (j : ℕ) → lowest s.control ≡ suc j → 8 ≤ j → (n : ℕ) (k : Option Finding) → open_after n k s ≡ pass (suc n) none (or_else k (some (at_cell j)))
  open_coefficient j e h n k = ap₂ (λ p q. pass (suc n) p (or_else k q)) (first_corner ∙ ap (named at_corner) (eight.outside (omega arith))) (first_coefficient ∙ ap (named at_cell) e)

  -- ---- after what was found before
  abbrev earlier : Found → Option Finding
  earlier nothing = none
  earlier (coefficient f) = some f
  earlier (point f) = none

  open_after_law : (n : ℕ) (o : Found) → ended o ≡ false → open_cell s (record { count = n; found = o }) ≡ open_after n (earlier o) s
  unfolding open_cell
  open_after_law n nothing e = refl
  open_after_law n (coefficient f) e = refl
  open_after_law n (point f) e = absurd (true≢false e)

  joins : (o : Found) → ended o ≡ false → (f : Finding) → finds none (or_else (earlier o) (some f)) ≡ with_coefficient o f
  joins nothing e f = refl
  joins (coefficient g) e f = refl
  joins (point g) e f = absurd (true≢false e)

  next : (n : ℕ) → suc n ≡ n + 1
  next n = omega arith

  module _ (n : ℕ) (o : Found) (e : ended o ≡ false) where
    pub opened_corner : (j : ℕ) → lowest s.control ≡ suc j → j < 8 → record { count = n + 1; found = point (at_corner j) } ≡ open_cell s (record { count = n; found = o })
    opened_corner j h l = sym (open_after_law n o e ∙ open_corner j h l n (earlier o) ∙ (λ i. record { count = next n i; found = point (at_corner j) }))

    pub opened_coefficient : (j : ℕ) → lowest s.control ≡ suc j → 8 ≤ j → record { count = n + 1; found = with_coefficient o (at_cell j) } ≡ open_cell s (record { count = n; found = o })
    opened_coefficient j h l = sym (open_after_law n o e ∙ open_coefficient j h l n (earlier o) ∙ (λ i. record { count = next n i; found = joins o e (at_cell j) i }))
