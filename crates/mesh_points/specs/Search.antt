-- The first number at which a test holds, as a loop from i up to n finds it. Assumes nothing.
use Rattle.std.specs.Prelude.{◌≡◌, refl, Bool, true, false, cond, List, [], ◌∷◌, ℕ, zero, suc, ◌+◌, ◌-◌, ◌<◌, ◌≤◌, get_or, length, Some}
use Rattle.std.specs.List.{position, position_from}
use Rattle.std.specs.Option.{option_map}
use Rattle.std.proofs.lemmas.Iterator.Adapters.{position_from-zero}
use Rattle.std.proofs.Common.{sym, ◌∙◌, ap, subst, add-one, arith}
use Rattle.std.proofs.Math.Option.{Option, none, some}
use Rattle.std.proofs.Math.Bool.{true≢false}
use Rattle.std.proofs.Math.Decide.{ℕ_discrete}
use Rattle.definitions.specs.Mesh.{first_from}
use Rattle.mesh_points.specs.Meaning.{first_of}

-- what is found is not nothing
pub never : {A B : Type 0} {x : A} → some x ≡ none → B
never e = let z : ◌≡◌ {A = ℕ} 0 1 = cc in absurd (omega arith)

module _ (p : ℕ → Bool) where
  -- ---- a turn of the loop, and its end
  pub first_here : (i n : ℕ) → i < n → p i ≡ true → first_from p i (n - i) ≡ some i
  first_here i n h e = let s : n - i ≡ suc (n - (i + 1)) = omega arith in rw (s, e, first_from)

  pub first_later : (i n : ℕ) → i < n → p i ≡ false → first_from p i (n - i) ≡ first_from p (i + 1) (n - (i + 1))
  first_later i n h e =
      let s : n - i ≡ suc (n - (i + 1)) = omega arith in
      let t : suc i ≡ i + 1 = omega arith in
      rw (s, e, first_from) (ap (λ (j : ℕ). first_from p j (n - (i + 1))) t)

  pub first_over : (i n : ℕ) → i ≡ n → first_from p i (n - i) ≡ none
  first_over i n h = let s : n - i ≡ 0 = omega arith in rw s

  -- some turns at which the test does not hold
  pub first_skip : (i d n : ℕ) → i + d ≤ n → ((k : ℕ) → i ≤ k → k < i + d → p k ≡ false) → first_from p i (n - i) ≡ first_from p (i + d) (n - (i + d))
  first_skip i zero n h f = let s : i ≡ i + 0 = omega arith in ap (λ (j : ℕ). first_from p j (n - j)) s
  first_skip i (suc d) n h f =
      let s : i + 1 + d ≡ i + suc d = omega arith in
      first_later i n (omega arith) (f i (omega arith) (omega arith)) ∙ first_skip (i + 1) d n (omega arith) (λ k l u. f k (omega arith) (omega arith)) ∙ ap (λ (j : ℕ). first_from p j (n - j)) s

  -- ---- what the answer says
  pub first_below : (i n k : ℕ) → first_from p i n ≡ some k → k < i + n
  first_below i zero k e = never (sym e)
  first_below i (suc n) k e = step (p i) (first_below (suc i) n k) e
    where
      step : (b : Bool) → (first_from p (suc i) n ≡ some k → k < suc i + n)
          → ◌≡◌ {A = Option ℕ} (elim b [ true ↦ some i | false ↦ first_from p (suc i) n ]) (some k) → k < i + suc n
      step true r e = let z : i ≡ k = cc in omega arith
      step false r e = omega (arith, r e)

  pub first_none : (i n : ℕ) → first_from p i n ≡ none → (k : ℕ) → i ≤ k → k < i + n → p k ≡ false
  first_none i zero e k l h = absurd (omega arith)
  first_none i (suc n) e k l h = step (p i) refl (first_none (suc i) n) e
    where
      step : (b : Bool) → p i ≡ b → (first_from p (suc i) n ≡ none → (k : ℕ) → suc i ≤ k → k < suc i + n → p k ≡ false)
          → ◌≡◌ {A = Option ℕ} (elim b [ true ↦ some i | false ↦ first_from p (suc i) n ]) none → p k ≡ false
      step true f r e = never e
      step false f r e = elim (ℕ_discrete i k) [ yes q ↦ subst (λ (j : ℕ). p j ≡ false) q f | no q ↦ r e k (omega arith) (omega arith) ]

  -- what is found within m is found within more
  pub first_longer : (i m n k : ℕ) → m ≤ n → first_from p i m ≡ some k → first_from p i n ≡ some k
  first_longer i zero n k l e = never (sym e)
  first_longer i (suc m) zero k l e = absurd (omega arith)
  first_longer i (suc m) (suc n) k l e = step (p i) (first_longer (suc i) m n k (omega arith)) e
    where
      step : (b : Bool) → (first_from p (suc i) m ≡ some k → first_from p (suc i) n ≡ some k)
          → ◌≡◌ {A = Option ℕ} (elim b [ true ↦ some i | false ↦ first_from p (suc i) m ]) (some k)
          → ◌≡◌ {A = Option ℕ} (elim b [ true ↦ some i | false ↦ first_from p (suc i) n ]) (some k)
      step true r e = e
      step false r e = r e

  -- where something is found the test holds, and nowhere before
  pub first_found : (i n k : ℕ) → first_from p i n ≡ some k → (p k ≡ true) × ((j : ℕ) → i ≤ j → j < k → p j ≡ false)
  first_found i zero k e = never (sym e)
  first_found i (suc n) k e = step (p i) refl (first_found (suc i) n k) e
    where
      step : (b : Bool) → p i ≡ b → (first_from p (suc i) n ≡ some k → (p k ≡ true) × ((j : ℕ) → suc i ≤ j → j < k → p j ≡ false))
          → ◌≡◌ {A = Option ℕ} (elim b [ true ↦ some i | false ↦ first_from p (suc i) n ]) (some k) → (p k ≡ true) × ((j : ℕ) → i ≤ j → j < k → p j ≡ false)
      step true f r e = let z : i ≡ k = cc in (subst (λ (j : ℕ). p j ≡ true) z f, λ j l h. absurd (omega arith))
      step false f r e = let rest = r e in
          (rest.0, λ j l h. elim (ℕ_discrete i j) [ yes q ↦ subst (λ (j : ℕ). p j ≡ false) q f | no q ↦ rest.1 j (omega arith) (omega arith) ])

-- ---- the library's search of a list, of which the first element has the number i
module _ {A : Type 0} (t : A → Bool) (p : ℕ → Bool) (d : A) where
  position_first : (xs : List A) (i : ℕ) → ((k : ℕ) → k < length xs → t (get_or xs k d) ≡ p (i + k)) → first_of (position_from t i xs) ≡ first_from p i (length xs)
  position_first [] i h = refl
  position_first (x ∷ xs) i h =
      let here : i + 0 ≡ i = omega arith in
      step (t x) (p i) (h 0 (omega arith) ∙ ap p here)
      (ap (λ n. first_of (position_from t n xs)) (add-one i) ∙ position_first xs (suc i) (λ k l. let next : i + suc k ≡ suc i + k = omega arith in h (suc k) (omega arith) ∙ ap p next))
    where
      step : (b c : Bool) → b ≡ c → first_of (position_from t (i + 1) xs) ≡ first_from p (suc i) (length xs)
          → first_of (cond b (Some i) (position_from t (i + 1) xs)) ≡ elim c [ true ↦ some i | false ↦ first_from p (suc i) (length xs) ]
      step true true e r = refl
      step false false e r = r
      step true false e r = absurd (true≢false e)
      step false true e r = absurd (true≢false (sym e))

  -- from the first element on, as the library has it
  pub position_found : (xs : List A) (n : ℕ) → length xs ≡ n → ((k : ℕ) → k < n → t (get_or xs k d) ≡ p k) → first_of (position t xs) ≡ first_from p 0 n
  position_found xs n e h = ap first_of (position_from-zero t xs)
      ∙ position_first xs 0 (λ k l. let here : k ≡ 0 + k = omega arith in h k (omega arith) ∙ ap p here)
      ∙ ap (first_from p 0) e

  -- and from a place s on, in a list that is the rest behind it
  position_shift : (s j : ℕ) (xs : List A) → option_map (λ k. s + k) (position_from t j xs) ≡ position_from t (s + j) xs
  position_shift s j [] = refl
  position_shift s j (x ∷ xs) = step (t x) (let next : s + (j + 1) ≡ s + j + 1 = omega arith in position_shift s (j + 1) xs ∙ ap (λ n. position_from t n xs) next)
    where
      step : (b : Bool) → option_map (λ k. s + k) (position_from t (j + 1) xs) ≡ position_from t (s + j + 1) xs
          → option_map (λ k. s + k) (cond b (Some j) (position_from t (j + 1) xs)) ≡ cond b (Some (s + j)) (position_from t (s + j + 1) xs)
      step true r = refl
      step false r = r

  pub position_behind : (s : ℕ) (xs : List A) (n : ℕ) → length xs ≡ n → ((k : ℕ) → k < n → t (get_or xs k d) ≡ p (s + k)) → first_of (option_map (λ k. s + k) (position t xs)) ≡ first_from p s n
  position_behind s xs n e h =
      let front : s + 0 ≡ s = omega arith in
      ap (λ o. first_of (option_map (λ k. s + k) o)) (position_from-zero t xs)
      ∙ ap first_of (position_shift s 0 xs ∙ ap (λ n. position_from t n xs) front)
      ∙ position_first xs s (λ k l. h k (omega arith))
      ∙ ap (first_from p s) e
