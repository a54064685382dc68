-- The pairs of an element's places with one index: how the code searches them, and what refusal 7 says. Assumes nothing.
use Rattle.std.specs.Prelude.{◌≡◌, Bool, ◌&&◌, List, ◌⊎◌, ℕ, ◌+◌, ◌*◌, ◌-◌, ◌/◌, ◌%◌, ◌<◌, ◌≤◌, eqb, get_or, length, drop, Option as Found}
use Rattle.std.specs.List.{position}
use Rattle.std.specs.Option.{option_map}
use Rattle.std.proofs.Math.Path.{refl, ap, subst}
use Rattle.std.proofs.Common.{sym, ◌∙◌, inl, inr, length-drop, get_or-drop}
use Rattle.std.proofs.Math.Bool.{true, false, and-false, and-eq-true_iff, true≢false}
use Rattle.std.proofs.Math.Option.{Option, none, some}
use native.Mathlib.Omega.{arith}
use borrow.Author.Tests.{eq-eqb, ne_eqb, eqb-true, lt-ltb, le-ltb, ltb-true, ltb-false}
use Rattle.std.proofs.Math.Dec.{ltb}
use Rattle.definitions.specs.Mesh.{first_from, same_index, named_twice}
use Rattle.mesh_points.specs.Search.{first_here, first_later, first_over, first_skip, first_below, first_none, first_longer, first_found, position_behind}
use Rattle.mesh_points.specs.Meaning.{first_of}

-- of the pairs with this first place, the first with one index
unfoldable pub same_after : List ℕ → ℕ → Option ℕ
same_after ix first = first_from (same_index ix) (8 * first) 8

module _ (ix : List ℕ) where
  abbrev at : ℕ → ℕ
  at k = get_or ix k 0

  -- ---- pair 8·i + j is of the places i and j
  pair_of : (i j : ℕ) → j < 8 → same_index ix (8 * i + j) ≡ (ltb i j && eqb (at i) (at j))
  pair_of i j h = let p : (8 * i + j) / 8 ≡ i = omega arith in let q : (8 * i + j) % 8 ≡ j = omega arith in (λ t. ltb (p t) (q t) && eqb (at (p t)) (at (q t)))

  pair_same : (i j : ℕ) → i < j → j < 8 → at i ≡ at j → same_index ix (8 * i + j) ≡ true
  pair_same i j l h e = rw (pair_of i j h, lt-ltb i j l, eq-eqb _ _ e)

  pair_differs : (i j : ℕ) → j < 8 → (at i ≡ at j → ⊥) → same_index ix (8 * i + j) ≡ false
  pair_differs i j h d = rw (pair_of i j h, ne_eqb _ _ d, and-false)

  -- no pair where the second place is not after the first
  pair_back : (i j : ℕ) → j ≤ i → j < 8 → same_index ix (8 * i + j) ≡ false
  pair_back i j l h = rw (pair_of i j h, le-ltb i j l)

  -- ---- the search of the pairs with one first place, from a second place on
  abbrev pub later_pairs : ℕ → ℕ → Option ℕ
  later_pairs i j = first_from (same_index ix) (8 * i + j) (8 * i + 8 - (8 * i + j))

  pub later_places : (i : ℕ) → i < 8 → same_after ix i ≡ later_pairs i (i + 1)
  unfolding same_after
  later_places i h = let s : 8 ≡ 8 * i + 8 - 8 * i = omega arith in
      ap (λ (n : ℕ). first_from (same_index ix) (8 * i) n) s
      ∙ first_skip (same_index ix) (8 * i) (i + 1) (8 * i + 8) (omega arith)
      (λ k l u. let t : 8 * i + (k - 8 * i) ≡ k = omega arith in subst (λ (n : ℕ). same_index ix n ≡ false) t (pair_back i (k - 8 * i) (omega arith) (omega arith)))

  pub later_differs : (i j : ℕ) → j < 8 → (at i ≡ at j → ⊥) → later_pairs i j ≡ later_pairs i (j + 1)
  later_differs i j h d = let s : 8 * i + j + 1 ≡ 8 * i + (j + 1) = omega arith in
      first_later (same_index ix) (8 * i + j) (8 * i + 8) (omega arith) (pair_differs i j h d) ∙ ap (λ (n : ℕ). first_from (same_index ix) n (8 * i + 8 - n)) s

  pub later_same : (i j : ℕ) → i < j → j < 8 → at i ≡ at j → later_pairs i j ≡ some (8 * i + j)
  later_same i j l h e = first_here (same_index ix) (8 * i + j) (8 * i + 8) (omega arith) (pair_same i j l h e)

  pub no_later : (i j : ℕ) → j ≡ 8 → later_pairs i j ≡ none
  no_later i j e = first_over (same_index ix) (8 * i + j) (8 * i + 8) (omega arith)

  -- as the library searches the indices behind the first place
  pub later_found : (i : ℕ) → i < 8 → length ix ≡ 8 → {r : Found ℕ} → r ≡ position (eqb (at i)) (drop (i + 1) ix) → first_of (option_map (λ k. 8 * i + (i + 1) + k) r) ≡ same_after ix i
  later_found i h n e =
      ap (λ o. first_of (option_map (λ k. 8 * i + (i + 1) + k) o)) e
      ∙ position_behind (eqb (at i)) (same_index ix) 0 (8 * i + (i + 1)) (drop (i + 1) ix) (8 * i + 8 - (8 * i + (i + 1))) (simp length-drop (omega arith)) (λ k l. behind k (omega arith))
      ∙ sym (later_places i h)
    where
      behind : (k : ℕ) → i + 1 + k < 8 → eqb (at i) (get_or (drop (i + 1) ix) k 0) ≡ same_index ix (8 * i + (i + 1) + k)
      behind k l =
          let s : 8 * i + (i + 1 + k) ≡ 8 * i + (i + 1) + k = omega arith in
          ap (eqb (at i)) (get_or-drop (i + 1) ix k 0)
          ∙ sym (ap (λ (b : Bool). b && eqb (at i) (at (i + 1 + k))) (lt-ltb i (i + 1 + k) (omega arith)))
          ∙ sym (pair_of i (i + 1 + k) l) ∙ ap (same_index ix) s

  -- ---- the search of all pairs, from a first place on
  abbrev pub pairs_from : ℕ → Option ℕ
  pairs_from i = first_from (same_index ix) (8 * i) (64 - 8 * i)

  pub all_pairs : named_twice ix ≡ pairs_from 0
  unfolding named_twice
  all_pairs = refl

  pub next_place : (i : ℕ) → i < 8 → same_after ix i ≡ none → pairs_from i ≡ pairs_from (i + 1)
  unfolding same_after
  next_place i h e = let s : 8 * i + 8 ≡ 8 * (i + 1) = omega arith in
      first_skip (same_index ix) (8 * i) 8 64 (omega arith) (first_none (same_index ix) (8 * i) 8 e) ∙ ap (λ (n : ℕ). first_from (same_index ix) n (64 - n)) s

  pub this_place : (i k : ℕ) → i < 8 → same_after ix i ≡ some k → pairs_from i ≡ some k
  unfolding same_after
  this_place i k h e = first_longer (same_index ix) (8 * i) 8 (64 - 8 * i) k (omega arith) e

  pub no_place : (i : ℕ) → i ≡ 8 → pairs_from i ≡ none
  no_place i e = first_over (same_index ix) (8 * i) 64 (omega arith)

  -- ---- what is found
  pub twice_below : (k : ℕ) → named_twice ix ≡ some k → k < 64
  unfolding named_twice
  twice_below k e = first_below (same_index ix) 0 64 k e

  not_before : (k a b : ℕ) → named_twice ix ≡ some k → a < b → b < 8 → at a ≡ at b → k ≤ 8 * a + b
  unfolding named_twice
  not_before k a b e l h s = go (ltb (8 * a + b) k) refl
    where
      go : (t : Bool) → ltb (8 * a + b) k ≡ t → k ≤ 8 * a + b
      go true u = absurd (true≢false (sym (pair_same a b l h s) ∙ (first_found (same_index ix) 0 64 k e).1 (8 * a + b) (omega arith) (ltb-true _ _ u)))
      go false u = ltb-false _ _ u

  pub distinct : named_twice ix ≡ none → (a b : ℕ) → a < b → b < 8 → at a ≡ at b → ⊥
  unfolding named_twice
  distinct e a b l h s = true≢false (sym (pair_same a b l h s) ∙ first_none (same_index ix) 0 64 e (8 * a + b) (omega arith) (omega arith))

-- What refusal 7 says of two places, counted from 0: they have one index; "lowest first place and then lowest second" of all that have.
pub record LowestPair (ix : List ℕ) (i j : ℕ) : Type 0 where
  pub lower : i < j
  pub higher : j < 8
  pub same : get_or ix i 0 ≡ get_or ix j 0
  pub lowest : (a b : ℕ) → a < b → b < 8 → get_or ix a 0 ≡ get_or ix b 0 → (i < a) ⊎ ((i ≡ a) × (j ≤ b))

pub lowest_pair : (ix : List ℕ) (k : ℕ) → named_twice ix ≡ some k → LowestPair ix (k / 8) (k % 8)
unfolding named_twice
lowest_pair ix k e =
    let found = (and-eq-true_iff (ltb (k / 8) (k % 8)) (eqb (get_or ix (k / 8) 0) (get_or ix (k % 8) 0))).0 (first_found (same_index ix) 0 64 k e).0 in
    record {
      lower = ltb-true _ _ found.0;
      higher = omega arith;
      same = eqb-true _ _ found.1;
      lowest = λ a b l h s. go a b (not_before ix k a b e l h s) h (ltb (k / 8) a) refl;
    }
  where
    go : (a b : ℕ) → k ≤ 8 * a + b → b < 8 → (t : Bool) → ltb (k / 8) a ≡ t → (k / 8 < a) ⊎ ((k / 8 ≡ a) × (k % 8 ≤ b))
    go a b n h true u = inl (ltb-true _ _ u)
    go a b n h false u = let l = ltb-false (k / 8) a u in inr (omega arith, omega arith)
