-- Lists of 27 in their numbering, and the numbers by place.
use Rattle.std.specs.Prelude.{◌≡◌, refl, List, [], ◌∷◌, ℕ, zero, suc, ◌+◌, ◌*◌, ◌<◌, min, get_or, length, ℤ, pos}
use Rattle.std.proofs.Common.{sym, ◌∙◌, ap, subst, arith}
use Rattle.foundation.specs.Lists.{All, tabulate, all_every, all_image, all_get_d, all_get_d_default}
use Rattle.definitions.specs.Coefficients.{numbering, place, numbered, numbers, at}

pub length_numbered : (f : ℕ → ℕ → ℕ → ℤ) → length (numbered f) ≡ 27
unfolding numbered
length_numbered f = refl

pub numbered_cong : (f g : ℕ → ℕ → ℕ → ℤ) → ((i j k : ℕ) → i < 3 → j < 3 → k < 3 → f i j k ≡ g i j k) → numbered f ≡ numbered g
unfolding numbered
numbered_cong f g h = λ t. numbered (λ i j k. h (min i 2) (min j 2) (min k 2) (omega arith) (omega arith) (omega arith) t)

pub numbered_all : (P : ℤ → Type 0) (f : ℕ → ℕ → ℕ → ℤ) → ((i j k : ℕ) → P (f i j k)) → All P (numbered f)
unfolding numbered
numbered_all P f h = all_image P (λ corners. f (place 0 corners) (place 1 corners) (place 2 corners)) numbering
    (all_every (λ corners. P (f (place 0 corners) (place 1 corners) (place 2 corners))) (λ corners. h (place 0 corners) (place 1 corners) (place 2 corners)) numbering)

numbers_below : All (λ n. n < 27) numbers
numbers_below = omega arith

-- what holds of all 27 holds at every place
pub at_all : (P : ℤ → Type 0) (c : List ℤ) → length c ≡ 27 → All P c → (i j k : ℕ) → P (at c i j k)
unfolding at
at_all P c e h i j k = let p = 9 * i + 3 * j + k in
    all_get_d P c (pos 0) (get_or numbers p 0) (subst (λ n. get_or numbers p 0 < n) (sym e) (all_get_d_default (λ n. n < 27) numbers 0 p (omega arith) numbers_below)) h

-- and where 0 has it too, whatever the list's length
pub at_default : (P : ℤ → Type 0) (c : List ℤ) → P (pos 0) → All P c → (i j k : ℕ) → P (at c i j k)
unfolding at
at_default P c z h i j k = all_get_d_default P c (pos 0) (get_or numbers (9 * i + 3 * j + k) 0) z h

-- ---- the numbers at the places, in their numbering, are the list itself
tabulate_suc : {A : Type 0} (f : ℕ → A) (i n : ℕ) → tabulate f (suc i) n ≡ tabulate (λ k. f (suc k)) i n
tabulate_suc f i zero = refl
tabulate_suc f i (suc n) = ap (λ l. f (suc i) ∷ l) (tabulate_suc f (suc i) n)

tabulate_get_d : {A : Type 0} (xs : List A) (d : A) → tabulate (λ n. get_or xs n d) 0 (length xs) ≡ xs
tabulate_get_d [] d = refl
tabulate_get_d (x ∷ xs) d = ap (λ l. x ∷ l) (tabulate_suc (λ n. get_or (x ∷ xs) n d) 0 (length xs) ∙ tabulate_get_d xs d)

pub numbered_at : (c : List ℤ) → length c ≡ 27 → numbered (at c) ≡ c
unfolding numbered at
numbered_at c e = ap (tabulate (λ n. get_or c n (pos 0)) 0) (sym e) ∙ tabulate_get_d c (pos 0)
