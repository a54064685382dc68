-- The first finding that is not above 0: what it says of a list, and how it goes over lists laid end to end.
use Rattle.std.specs.Prelude.{◌≡◌, refl, Bool, true, false, List, [], ◌∷◌, ◌++◌, T, pos, ◌≤ℤ◌}
use Rattle.std.proofs.Common.{sym, ◌∙◌, ap, subst}
use Rattle.std.proofs.Math.Option.{Option, none, some}
use Rattle.std.specs.Int.Signed.{le_z, le_z_yes}
use Rattle.foundation.specs.Order.{Positive, not_low_positive, positive_not_low}
use Rattle.foundation.specs.Lists.{All, all_right, concat_map, concat_map_append}
use Rattle.definitions.specs.Subdivision.{Cell}
use Rattle.definitions.specs.Verdict.{Finding, first_low, found}

-- the first of two finds
abbrev pub or_else : {A : Type 0} → Option A → Option A → Option A
or_else none y = y
or_else (some x) y = some x

pub or_else_none : {A : Type 0} (x : Option A) → or_else x none ≡ x
or_else_none none = refl
or_else_none (some x) = refl

pub or_else_assoc : {A : Type 0} (x y z : Option A) → or_else (or_else x y) z ≡ or_else x (or_else y z)
or_else_assoc none y z = refl
or_else_assoc (some x) y z = refl

pub some_not_none : {A : Type 0} (x : A) → some x ≡ none → ⊥
some_not_none x e = subst (λ o. T (found o)) e tt

abbrev pub AboveZero : Finding → Type 0
AboveZero f = Positive f.value

pub low_none : (vs : List Finding) → first_low vs ≡ none → All AboveZero vs
low_none [] e = tt
low_none (v ∷ vs) e = go (le_z v.value (pos 0)) refl (low_none vs) e
  where
    go : (b : Bool) → le_z v.value (pos 0) ≡ b → (first_low vs ≡ none → All AboveZero vs) → ◌≡◌ {A = Option Finding} (elim b [ true ↦ some v | false ↦ first_low vs ]) none → All AboveZero (v ∷ vs)
    go true p h e = absurd (some_not_none v e)
    go false p h e = (not_low_positive v.value p, h e)

pub none_low : (vs : List Finding) → All AboveZero vs → first_low vs ≡ none
none_low [] h = refl
none_low (v ∷ vs) h = ap (λ (b : Bool). elim b as (λ _. Option Finding) [ true ↦ some v | false ↦ first_low vs ]) (positive_not_low v.value h.0) ∙ none_low vs h.1

pub low_append : (vs ws : List Finding) → first_low (vs ++ ws) ≡ or_else (first_low vs) (first_low ws)
low_append [] ws = refl
low_append (v ∷ vs) ws = go (le_z v.value (pos 0)) (low_append vs ws)
  where
    go : (b : Bool) → first_low (vs ++ ws) ≡ or_else (first_low vs) (first_low ws)
        → ◌≡◌ {A = Option Finding} (elim b [ true ↦ some v | false ↦ first_low (vs ++ ws) ]) (or_else (elim b [ true ↦ some v | false ↦ first_low vs ]) (first_low ws))
    go true h = refl
    go false h = h

-- the first finding of a list that is not above 0
pub record First (vs : List Finding) (f : Finding) : Type 0 where
  pub before : List Finding
  pub after : List Finding
  pub splits : vs ≡ before ++ (f ∷ after)
  pub earlier : All (λ v. pos 1 ≤ℤ v.value) before
  pub low : f.value ≤ℤ pos 0

pub low_first : (vs : List Finding) (f : Finding) → first_low vs ≡ some f → First vs f
low_first [] f e = absurd (some_not_none f (sym e))
low_first (v ∷ vs) f e = go (le_z v.value (pos 0)) refl (low_first vs f) e
  where
    the : Finding → Option Finding → Finding
    the d none = d
    the d (some x) = x

    go : (b : Bool) → le_z v.value (pos 0) ≡ b → (first_low vs ≡ some f → First vs f) → ◌≡◌ {A = Option Finding} (elim b [ true ↦ some v | false ↦ first_low vs ]) (some f) → First (v ∷ vs) f
    go true p h e = let q : v ≡ f = ap (the v) e in
        record { before = []; after = vs; splits = ap (λ x. x ∷ vs) q; earlier = tt; low = subst (λ x. x.value ≤ℤ pos 0) q (le_z_yes (subst T (sym p) tt)) }
    go false p h e = let r = h e in
        record { before = v ∷ r.before; after = r.after; splits = ap (λ l. v ∷ l) r.splits; earlier = (not_low_positive v.value p, r.earlier); low = r.low }

-- there is at most one
pub first_low_law : (vs : List Finding) (f : Finding) → First vs f → first_low vs ≡ some f
first_low_law vs f h = ap first_low h.splits ∙ low_append h.before (f ∷ h.after) ∙ ap (λ o. or_else o (first_low (f ∷ h.after))) (none_low h.before h.earlier)
    ∙ ap (λ (b : Bool). elim b as (λ _. Option Finding) [ true ↦ some f | false ↦ first_low h.after ]) (T_true (le_z f.value (pos 0)) h.low.le)
  where
    T_true : (b : Bool) → T b → b ≡ true
    T_true true t = refl
    T_true false t = absurd t

-- it has whatever all have
pub first_has : (P : Finding → Type 0) (vs : List Finding) (f : Finding) → First vs f → All P vs → P f
first_has P vs f h k = (all_right P h.before (f ∷ h.after) (subst (All P) h.splits k)).0

-- what a function shows of the cells of a list, in order
abbrev pub first_of : (Cell → List Finding) → List Cell → Option Finding
first_of g ss = first_low (concat_map g ss)

pub first_of_append : (g : Cell → List Finding) (ss ts : List Cell) → first_of g (ss ++ ts) ≡ or_else (first_of g ss) (first_of g ts)
first_of_append g ss ts = ap first_low (concat_map_append g ss ts) ∙ low_append (concat_map g ss) (concat_map g ts)
