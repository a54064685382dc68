-- Lists of any elements: what holds of all members, one list for each member, lists by number; and ranges of natural numbers.
use Rattle.std.specs.Prelude.{◌≡◌, refl, Bool, true, false, List, [], ◌∷◌, ◌++◌, map, ℕ, zero, suc, ◌+◌, ◌<◌, ◌≤◌, T, eqb, get_or, length, drop}
use Rattle.std.proofs.Common.{sym, ◌∙◌, ap, ap₂, subst, append_assoc, add-one, arith, eqb→eq, length-append, drop-cons}
use Rattle.std.proofs.Math.Decide.{ℕ_discrete}

-- the lists of f, one after the other
abbrev pub concat_map : {A B : Type 0} → (A → List B) → List A → List B
concat_map f [] = []
concat_map f (x ∷ xs) = f x ++ concat_map f xs

-- f i, f (suc i), ..: n of them
abbrev pub tabulate : {A : Type 0} → (ℕ → A) → ℕ → ℕ → List A
tabulate f i zero = []
tabulate f i (suc n) = f i ∷ tabulate f (suc i) n

-- the sum of numbers
abbrev pub sum : List ℕ → ℕ
sum [] = 0
sum (n ∷ ns) = n + sum ns

abbrev pub All : {A : Type 0} → (A → Type 0) → List A → Type 0
All P [] = Unit {0}
All P (x ∷ xs) = P x × All P xs

-- ---- what holds of all members
module _ {A : Type 0} (P : A → Type 0) where
  pub all_append : (xs ys : List A) → All P xs → All P ys → All P (xs ++ ys)
  all_append [] ys h k = k
  all_append (x ∷ xs) ys h k = (h.0, all_append xs ys h.1 k)

  pub all_left : (xs ys : List A) → All P (xs ++ ys) → All P xs
  all_left [] ys h = tt
  all_left (x ∷ xs) ys h = (h.0, all_left xs ys h.1)

  pub all_right : (xs ys : List A) → All P (xs ++ ys) → All P ys
  all_right [] ys h = h
  all_right (x ∷ xs) ys h = all_right xs ys h.1

  pub all_map : (Q : A → Type 0) → ((x : A) → P x → Q x) → (xs : List A) → All P xs → All Q xs
  all_map Q f [] h = tt
  all_map Q f (x ∷ xs) h = (f x h.0, all_map Q f xs h.1)

  pub all_both : (Q : A → Type 0) (xs : List A) → All P xs → All Q xs → All (λ x. P x × Q x) xs
  all_both Q [] h k = tt
  all_both Q (x ∷ xs) h k = ((h.0, k.0), all_both Q xs h.1 k.1)

  pub all_every : ((x : A) → P x) → (xs : List A) → All P xs
  all_every f [] = tt
  all_every f (x ∷ xs) = (f x, all_every f xs)

  pub all_get_d : (xs : List A) (d : A) (n : ℕ) → n < length xs → All P xs → P (get_or xs n d)
  all_get_d [] d n k h = absurd (omega arith)
  all_get_d (x ∷ xs) d zero k h = h.0
  all_get_d (x ∷ xs) d (suc n) k h = all_get_d xs d n (omega arith) h.1

  pub all_get_d_default : (xs : List A) (d : A) (n : ℕ) → P d → All P xs → P (get_or xs n d)
  all_get_d_default [] d n k h = k
  all_get_d_default (x ∷ xs) d zero k h = h.0
  all_get_d_default (x ∷ xs) d (suc n) k h = all_get_d_default xs d n k h.1

  -- the other way: from each member by number
  pub get_d_all : (xs : List A) (d : A) → ((n : ℕ) → n < length xs → P (get_or xs n d)) → All P xs
  get_d_all [] d h = tt
  get_d_all (x ∷ xs) d h = (h 0 (omega arith), get_d_all xs d (λ n l. h (suc n) (omega arith)))

-- of the images under g
module _ {A B : Type 0} (P : B → Type 0) (g : A → B) where
  pub all_image : (xs : List A) → All (λ x. P (g x)) xs → All P (map g xs)
  all_image [] h = tt
  all_image (x ∷ xs) h = (h.0, all_image xs h.1)

  pub image_all : (xs : List A) → All P (map g xs) → All (λ x. P (g x)) xs
  image_all [] h = tt
  image_all (x ∷ xs) h = (h.0, image_all xs h.1)

pub append_nil : {A : Type 0} (xs : List A) → xs ++ [] ≡ xs
append_nil [] = refl
append_nil (x ∷ xs) = ap (λ l. x ∷ l) (append_nil xs)

-- ---- one list for each member
module _ {A B : Type 0} (P : B → Type 0) (f : A → List B) where
  pub all_concat : (xs : List A) → All (λ x. All P (f x)) xs → All P (concat_map f xs)
  all_concat [] h = tt
  all_concat (x ∷ xs) h = all_append P (f x) (concat_map f xs) h.0 (all_concat xs h.1)

  pub concat_all : (xs : List A) → All P (concat_map f xs) → All (λ x. All P (f x)) xs
  concat_all [] h = tt
  concat_all (x ∷ xs) h = (all_left P (f x) (concat_map f xs) h, concat_all xs (all_right P (f x) (concat_map f xs) h))

module _ {A B : Type 0} (f : A → List B) where
  pub concat_map_append : (xs ys : List A) → concat_map f (xs ++ ys) ≡ concat_map f xs ++ concat_map f ys
  concat_map_append [] ys = refl
  concat_map_append (x ∷ xs) ys = ap (λ l. f x ++ l) (concat_map_append xs ys) ∙ sym (append_assoc (f x) (concat_map f xs) (concat_map f ys))

  pub concat_map_some : (xs : List A) → 0 < length xs → All (λ x. 0 < length (f x)) xs → 0 < length (concat_map f xs)
  concat_map_some [] k h = absurd (omega arith)
  concat_map_some (x ∷ xs) k h = simp length-append (omega (arith, h.0))

-- ---- lists by number
pub drop_next : {A : Type 0} (xs : List A) (k : ℕ) (d : A) → k < length xs → drop k xs ≡ get_or xs k d ∷ drop (k + 1) xs
drop_next xs k d h = drop-cons xs k d h ∙ ap (λ (n : ℕ). get_or xs k d ∷ drop n xs) (sym (add-one k))

pub get_d_image : {A B : Type 0} (f : A → B) (l : List A) (n : ℕ) (a : A) (b : B) → n < length l → get_or (map f l) n b ≡ f (get_or l n a)
get_d_image f [] n a b h = absurd (omega arith)
get_d_image f (x ∷ l) zero a b h = refl
get_d_image f (x ∷ l) (suc n) a b h = get_d_image f l n a b (omega arith)

pub length_tabulate : {A : Type 0} (f : ℕ → A) (i n : ℕ) → length (tabulate f i n) ≡ n
length_tabulate f i zero = refl
length_tabulate f i (suc n) = ap suc (length_tabulate f (suc i) n)

pub tabulate_cong : {A : Type 0} (f g : ℕ → A) (i n : ℕ) → ((k : ℕ) → k < i + n → f k ≡ g k) → tabulate f i n ≡ tabulate g i n
tabulate_cong f g i zero h = refl
tabulate_cong f g i (suc n) h = ap₂ ◌∷◌ (h i (omega arith)) (tabulate_cong f g (suc i) n (λ k p. h k (omega arith)))

pub get_d_tabulate : {A : Type 0} (f : ℕ → A) (i n k : ℕ) (d : A) → k < n → get_or (tabulate f i n) k d ≡ f (i + k)
get_d_tabulate f i zero k d h = absurd (omega arith)
get_d_tabulate f i (suc n) zero d h = ap f (omega arith)
get_d_tabulate f i (suc n) (suc k) d h = let e : suc i + k ≡ i + suc k = omega arith in get_d_tabulate f (suc i) n k d (omega arith) ∙ ap f e

-- counted from 0
pub tabulate_at : {A : Type 0} (f : ℕ → A) (m n : ℕ) (d : A) → n < m → get_or (tabulate f 0 m) n d ≡ f n
tabulate_at f m n d h = let z : 0 + n ≡ n = omega arith in get_d_tabulate f 0 m n d h ∙ ap f z

-- two functions that give one list agree at each of its numbers
pub tabulate_agree : {A : Type 0} (f g : ℕ → A) (m : ℕ) → tabulate f 0 m ≡ tabulate g 0 m → (n : ℕ) → n < m → f n ≡ g n
tabulate_agree f g m e n h = sym (tabulate_at f m n (f n) h) ∙ ap (λ l. get_or l n (f n)) e ∙ tabulate_at g m n (f n) h

module _ {A : Type 0} (P : A → Type 0) (f : ℕ → A) where
  pub all_tabulate : (i n : ℕ) → ((k : ℕ) → i ≤ k → k < i + n → P (f k)) → All P (tabulate f i n)
  all_tabulate i zero h = tt
  all_tabulate i (suc n) h = (h i (omega arith) (omega arith), all_tabulate (suc i) n (λ k p q. h k (omega arith) (omega arith)))

  pub tabulate_all : (i n : ℕ) → All P (tabulate f i n) → (k : ℕ) → i ≤ k → k < i + n → P (f k)
  tabulate_all i zero h k p q = absurd (omega arith)
  tabulate_all i (suc n) h k p q = elim (ℕ_discrete i k) [
    | yes e ↦ subst (λ (j : ℕ). P (f j)) e h.0
    | no e ↦ tabulate_all (suc i) n h.1 k (omega arith) (omega arith)
  ]

-- ---- from one natural number to the next, and back
pub up : (P : ℕ → Type 0) → ((n : ℕ) → P n → P (suc n)) → (m n : ℕ) → m ≤ n → P m → P n
up P f m zero h p = subst P (omega arith) p
up P f m (suc n) h p = elim (ℕ_discrete m (suc n)) [ yes e ↦ subst P e p | no e ↦ f n (up P f m n (omega arith) p) ]

pub down : (P : ℕ → Type 0) → ((n : ℕ) → P (suc n) → P n) → (m n : ℕ) → m ≤ n → P n → P m
down P f m zero h p = subst P (omega arith) p
down P f m (suc n) h p = elim (ℕ_discrete m (suc n)) [ yes e ↦ subst P (sym e) p | no e ↦ down P f m n (omega arith) (f n p) ]

-- ---- one computed test for every number below m
abbrev pub all_below : ℕ → (ℕ → Bool) → Bool
all_below zero f = true
all_below (suc n) f = elim (f n) [ true ↦ all_below n f | false ↦ false ]

pub below : (f : ℕ → Bool) (m : ℕ) → T (all_below m f) → (n : ℕ) → n < m → T (f n)
below f zero t n h = absurd (omega arith)
below f (suc m) t n h = go (f m) refl (below f m) t
  where
    go : (b : Bool) → f m ≡ b → (T (all_below m f) → (n : ℕ) → n < m → T (f n)) → T (elim b [ true ↦ all_below m f | false ↦ false ]) → T (f n)
    go true e r t = elim (ℕ_discrete n m) [ yes p ↦ subst (λ (k : ℕ). T (f k)) (sym p) (subst T (sym e) tt) | no q ↦ r t n (omega arith) ]
    go false e r t = absurd t

-- two functions of numbers, compared by computing
pub equal_below : (f g : ℕ → ℕ) (m : ℕ) → T (all_below m (λ n. eqb (f n) (g n))) → (n : ℕ) → n < m → f n ≡ g n
equal_below f g m t n h = eqb→eq (f n) (g n) (below (λ n. eqb (f n) (g n)) m t n h)
