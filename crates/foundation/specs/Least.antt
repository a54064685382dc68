-- The lesser of two numbers, and the least of a list.
use Rattle.std.specs.Prelude.{◌≡◌, refl, Bool, true, false, cond, ◌⊎◌, List, [], ◌∷◌, ◌++◌, ◌<◌, T, length, ℤ, pos, ◌≤ℤ◌, ◌<ℤ◌}
use Rattle.std.proofs.Common.{sym, subst, inl, inr, arith, length-append}
use Rattle.std.specs.Int.Signed.{le_z, le_z_yes, ≤ℤ_refl}
use Rattle.foundation.specs.Order.{le_trans, le_antisym, le_total, lt_le}
use Rattle.foundation.specs.Lists.{All, all_append, all_left, all_right, all_map}

-- ---- of two
abbrev pub lesser : ℤ → ℤ → ℤ
lesser a b = cond (le_z a b) a b

pub lesser_left : (a b : ℤ) → lesser a b ≤ℤ a
lesser_left a b = go (le_total a b) (le_z a b) refl
  where
    go : (a ≤ℤ b) ⊎ (b <ℤ a) → (c : Bool) → le_z a b ≡ c → cond c a b ≤ℤ a
    go o true e = ≤ℤ_refl a
    go (inl h) false e = absurd (subst T e h.le)
    go (inr h) false e = lt_le h

pub lesser_right : (a b : ℤ) → lesser a b ≤ℤ b
lesser_right a b = go (le_z a b) refl
  where
    go : (c : Bool) → le_z a b ≡ c → cond c a b ≤ℤ b
    go true e = le_z_yes (subst T (sym e) tt)
    go false e = ≤ℤ_refl b

-- it is one of the two
lesser_one : (P : ℤ → Type 0) (a b : ℤ) → P a → P b → P (lesser a b)
lesser_one P a b p q = go (le_z a b)
  where
    go : (c : Bool) → P (cond c a b)
    go true = p
    go false = q

pub lesser_greatest : (m a b : ℤ) → m ≤ℤ a → m ≤ℤ b → m ≤ℤ lesser a b
lesser_greatest m = lesser_one (◌≤ℤ◌ m)

-- ---- of a list: one of its members, and none is less
abbrev pub least_from : ℤ → List ℤ → ℤ
least_from v [] = v
least_from v (w ∷ ws) = least_from (lesser v w) ws

abbrev pub least_of : List ℤ → ℤ
least_of [] = pos 0
least_of (v ∷ vs) = least_from v vs

from_all : (P : ℤ → Type 0) (v : ℤ) (vs : List ℤ) → P v → All P vs → P (least_from v vs)
from_all P v [] p h = p
from_all P v (w ∷ ws) p h = from_all P (lesser v w) ws (lesser_one P v w p h.0) h.1

pub least_all : (P : ℤ → Type 0) (vs : List ℤ) → 0 < length vs → All P vs → P (least_of vs)
least_all P [] k h = absurd (omega arith)
least_all P (v ∷ vs) k h = from_all P v vs h.0 h.1

from_is : (v : ℤ) (vs : List ℤ) → (least_from v vs ≤ℤ v) × All (λ w. least_from v vs ≤ℤ w) vs
from_is v [] = (≤ℤ_refl v, tt)
from_is v (w ∷ ws) = let r = from_is (lesser v w) ws in (le_trans r.0 (lesser_left v w), (le_trans r.0 (lesser_right v w), r.1))

pub least_is : (vs : List ℤ) → All (λ w. least_of vs ≤ℤ w) vs
least_is [] = tt
least_is (v ∷ vs) = from_is v vs

pub least_append : (xs ys : List ℤ) → 0 < length xs → 0 < length ys → least_of (xs ++ ys) ≡ lesser (least_of xs) (least_of ys)
least_append xs ys h k = le_antisym whole parts
    (lesser_greatest whole (least_of xs) (least_of ys)
    (least_all (◌≤ℤ◌ whole) xs h (all_left (◌≤ℤ◌ whole) xs ys (least_is (xs ++ ys))))
    (least_all (◌≤ℤ◌ whole) ys k (all_right (◌≤ℤ◌ whole) xs ys (least_is (xs ++ ys)))))
    (least_all (◌≤ℤ◌ parts) (xs ++ ys) (simp length-append (omega arith))
    (all_append (◌≤ℤ◌ parts) xs ys (above xs (lesser_left (least_of xs) (least_of ys))) (above ys (lesser_right (least_of xs) (least_of ys)))))
  where
    whole : ℤ
    whole = least_of (xs ++ ys)

    parts : ℤ
    parts = lesser (least_of xs) (least_of ys)

    above : (vs : List ℤ) → parts ≤ℤ least_of vs → All (◌≤ℤ◌ parts) vs
    above vs p = all_map (◌≤ℤ◌ (least_of vs)) (◌≤ℤ◌ parts) (λ v q. le_trans p q) vs (least_is vs)
