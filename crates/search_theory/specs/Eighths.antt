-- What the cut into eight answers: the least of 27 coefficients and the lowest number that holds it, as the code finds them and as they are read.
use Rattle.std.specs.Prelude.{◌≡◌, refl, Bool, true, false, List, [], ◌∷◌, length, ℤ, pos, ◌≤ℤ◌}
use Rattle.std.proofs.Math.Path.{sym, ap, subst}
use Rattle.std.proofs.Common.{◌∙◌, true≢false, zero-lt-suc}
use Prim.Native.Nat.{ℕ, zero, suc, ◌+◌, ◌-◌, ◌<◌, ◌≤◌}
use Rattle.std.proofs.Math.Decide.{ℕ_discrete}
use native.Mathlib.Omega.{arith}
use Rattle.std.proofs.Math.Dec.{T}
use Rattle.std.proofs.Math.ListN.{get_or}
use Rattle.std.specs.Int.Signed.{le_z, le_z_yes, ≤ℤ_refl}
use Rattle.foundation.specs.Lists.{All, all_map, all_get_d, get_d_all, tabulate, tabulate_cong, tabulate_all, all_tabulate}
use Rattle.foundation.specs.Least.{lesser, least_from, least_of, least_all, least_is, least_append}
use Rattle.foundation.specs.Order.{Positive, le_trans, le_antisym, not_low_positive, positive_not_low}
use Rattle.definitions.specs.Jacobian.{side}
use Rattle.definitions.specs.Subdivision.{halve, Cell, child, children}
use Rattle.definitions.specs.Verdict.{found, coefficients_of, blocked}
use Rattle.definitions.specs.Eighths.{place_of, least_number, Eighth, eighth_of, eighths}
use Rattle.expansion_theory.specs.Rows.{in_line}
use Rattle.expansion_theory.specs.RowLaws.{stand, line_small, stand_small, line_stand}
use Rattle.verdict_theory.specs.Findings.{none_low}
use Rattle.verdict_theory.specs.Positive.{positive_findings}
use Rattle.verdict_theory.specs.Clear.{Clear, quarter_of, child_control, child_control_law}
use Rattle.search_theory.specs.Meaning.{lowest}
use Rattle.search_theory.specs.Lowest.{low}
use Rattle.search_theory.specs.Children.{lowest_clear, child_made}

-- ---- the number
module _ (v : ℤ) where
  abbrev step : List ℤ → Bool → ℕ
  step xs b = elim b [ true ↦ 0 | false ↦ suc (place_of v xs) ]

  abbrev AsLow : ℤ → Bool → Type 0
  AsLow x b = le_z x v ≡ b

  -- the first that is not above v
  placed : (c : List ℤ) (k : ℕ) → k < length c → AsLow (get_or c k (pos 0)) true → ((j : ℕ) → j < k → AsLow (get_or c j (pos 0)) false) → place_of v c ≡ k
  placed [] k l e h = absurd (omega arith)
  placed (x ∷ xs) zero l e h = ap (step xs) e
  placed (x ∷ xs) (suc k) l e h = ap (step xs) (h 0 (zero-lt-suc k)) ∙ ap suc (placed xs k (omega arith) e (λ j m. h (suc j) (omega arith)))

  -- there is one, unless all are above
  abbrev Placed : List ℤ → ℕ → Type 0
  Placed c k = record { inside : k < length c; low : AsLow (get_or c k (pos 0)) true; first : (j : ℕ) → j < k → AsLow (get_or c j (pos 0)) false }

  place_is : (c : List ℤ) → (All (λ x. AsLow x false) c → ⊥) → Placed c (place_of v c)
  place_is [] h = absurd (h tt)
  place_is (x ∷ xs) h = go (le_z x v) refl (place_is xs)
    where
      later : AsLow x false → (k : ℕ) → Placed xs k → (j : ℕ) → j < suc k → AsLow (get_or (x ∷ xs) j (pos 0)) false
      later e k p zero l = e
      later e k p (suc j) l = p.first j (omega arith)

      go : (b : Bool) → AsLow x b → ((All (λ x. AsLow x false) xs → ⊥) → Placed xs (place_of v xs)) → Placed (x ∷ xs) (step xs b)
      go true e r = record { inside = zero-lt-suc (length xs); low = e; first = λ j l. absurd (omega arith) }
      go false e r = let p = r (λ a. h (e, a)) in record { inside = omega (arith, p.inside); low = p.low; first = later e (place_of v xs) p }

-- the least of v and three more, these compared first
pub with_three : (v x y z : ℤ) → lesser v (lesser (lesser x y) z) ≡ least_from v (x ∷ y ∷ z ∷ [])
with_three v x y z = sym (least_append (v ∷ []) (x ∷ y ∷ z ∷ []) (zero-lt-suc 0) (zero-lt-suc 2))

-- ---- of 27 coefficients
-- as the code looks for the number: none of the first k is as low as the least
module _ (c : List ℤ) where
  pub record Above (k : ℕ) : Type 0 where
    pub few : k ≤ 27
    pub above : (j : ℕ) → j < k → le_z (get_or c j (pos 0)) (least_of c) ≡ false

  pub above_none : Above 0
  above_none = record { few = omega arith; above = λ j h. absurd (omega arith) }

  module _ {k : ℕ} (h : k < 27) (p : Above k) where
    pub above_on : le_z (get_or c k (pos 0)) (least_of c) ≡ false → Above (k + 1)
    above_on e = record {
      few = omega arith;
      above = λ j l. elim (ℕ_discrete j k) [ yes q ↦ ap (λ (n : ℕ). le_z (get_or c n (pos 0)) (least_of c)) q ∙ e | no q ↦ p.above j (omega arith) ];
    }

module _ (c : List ℤ) (sized : length c ≡ 27) where
  some : 0 < length c
  some = omega (arith, sized)

  -- the least is one of them
  not_all : All (λ x. le_z x (least_of c) ≡ false) c → ⊥
  not_all h = subst T (least_all (λ x. le_z x (least_of c) ≡ false) c some h) (≤ℤ_refl (least_of c)).le

  pub above_here : {k : ℕ} → k < 27 → Above c k → le_z (get_or c k (pos 0)) (least_of c) ≡ true → k + 1 ≡ least_number c
  unfolding least_number
  above_here {k} h p e = let q : k + 1 ≡ suc k = omega arith in q ∙ sym (ap suc (placed (least_of c) c k (omega (arith, sized)) e p.above))

  pub above_all : {k : ℕ} → Above c k → 27 ≤ k → ⊥
  above_all p h = not_all (get_d_all (λ x. le_z x (least_of c) ≡ false) c (pos 0) (λ n l. p.above n (omega (arith, sized))))

  -- what the two say: no coefficient is less, the number holds the least, and every lower number holds more
  pub record LeastHeld (least : ℤ) (number : ℕ) : Type 0 where
    pub least_of_all : All (λ v. least ≤ℤ v) c
    pub from_one : 1 ≤ number
    pub to_27 : number ≤ 27
    pub held : get_or c (number - 1) (pos 0) ≡ least
    pub lowest_such : (j : ℕ) → j < number - 1 → get_or c j (pos 0) ≡ least → ⊥

  pub least_held : LeastHeld (least_of c) (least_number c)
  unfolding least_number
  least_held = let k = place_of (least_of c) c in let p = place_is (least_of c) c not_all in let e : suc k - 1 ≡ k = omega arith in record {
    least_of_all = least_is c;
    from_one = omega arith;
    to_27 = omega (arith, p.inside, sized);
    held = ap (λ (n : ℕ). get_or c n (pos 0)) e ∙ le_antisym (get_or c k (pos 0)) (least_of c) (le_z_yes (subst T (sym p.low) tt)) (all_get_d (λ v. least_of c ≤ℤ v) c (pos 0) k p.inside (least_is c));
    lowest_such = λ j l h. subst T (p.first j (omega (arith, l, e))) (subst (λ (z : ℤ). T (le_z z (least_of c))) (sym h) (≤ℤ_refl (least_of c)).le);
  }

  -- ---- and of a cell with these coefficients
  pub least_clear : le_z (least_of c) (pos 0) ≡ false → Clear c
  least_clear e = (all_map (λ v. least_of c ≤ℤ v) Positive (λ v q. le_trans (not_low_positive (least_of c) e) q) c (least_is c), sized)

  pub least_low : le_z (least_of c) (pos 0) ≡ true → lowest c ≡ 0 → ⊥
  least_low e h = true≢false (sym e ∙ positive_not_low (least_of c) (least_all Positive c some (lowest_clear c sized h).0))

  -- the least so far, and theirs
  pub least_with : (v : ℤ) → least_from v c ≡ lesser v (least_of c)
  least_with v = least_append (v ∷ []) c (zero-lt-suc 0) some

  -- ---- row by row in ξ
  abbrev pub in_rows : List ℤ
  in_rows = tabulate (λ x. get_or c (in_line 0 x) (pos 0)) 0 27

  row_in : (x : ℕ) → x < 27 → least_of c ≤ℤ get_or c x (pos 0)
  row_in x h = all_get_d (λ v. least_of c ≤ℤ v) c (pos 0) x (omega (arith, sized)) (least_is c)

  pub least_rows : least_from (get_or c 0 (pos 0)) in_rows ≡ least_of c
  least_rows = le_antisym (least_of rows) (least_of c)
      (least_all (λ v. least_of rows ≤ℤ v) c some (get_d_all (λ v. least_of rows ≤ℤ v) c (pos 0) (λ n l. let m : n < 27 = omega (arith, sized) in
      subst (λ (z : ℤ). least_of rows ≤ℤ z) (ap (λ (i : ℕ). get_or c i (pos 0)) (line_stand 0 n (omega arith) m)) (tabulate_all (λ v. least_of rows ≤ℤ v) (λ x. get_or c (in_line 0 x) (pos 0)) 0 27 (least_is rows).1 (stand 0 n) (omega arith) (stand_small 0 n (omega arith) m)))))
      (least_all (λ v. least_of c ≤ℤ v) rows (zero-lt-suc 27)
      (row_in 0 (omega arith), all_tabulate (λ v. least_of c ≤ℤ v) (λ x. get_or c (in_line 0 x) (pos 0)) 0 27 (λ x _ l. row_in (in_line 0 x) (line_small 0 x (omega arith) l))))
    where
      rows : List ℤ
      rows = get_or c 0 (pos 0) ∷ in_rows

-- a cell has a coefficient ≤ 0 where the least is
pub blocked_least : (s : Cell) → length s.control ≡ 27 → blocked s ≡ le_z (least_of s.control) (pos 0)
blocked_least s h = go (le_z (least_of s.control) (pos 0)) refl
  where
    go : (b : Bool) → le_z (least_of s.control) (pos 0) ≡ b → blocked s ≡ b
    go true e = low s (least_low s.control h e)
    go false e = ap found (none_low (coefficients_of s) (positive_findings s (least_clear s.control h e)))

-- ---- child k is made from its quarter
pub eighth_made : (g : List ℤ) (k : ℕ) (quarter : List ℤ) → quarter ≡ quarter_of g k → eighth_of (halve 0 (side 0 k) quarter) ≡ eighth_of (child_control g k)
eighth_made g k quarter e = ap eighth_of (child_made g k quarter (halve 0 (side 0 k) quarter) e refl)

-- ---- 02, No. 7: of the cut into eight, for every child, the 27 values, the least of them and the lowest number that holds it
pub cut_into_eight : (s : Cell) (answer : ℕ → Eighth) → ((k : ℕ) → k < 8 → answer k ≡ eighth_of (halve 0 (side 0 k) (quarter_of s.control k))) → tabulate answer 0 8 ≡ eighths s
unfolding eighths children
cut_into_eight s answer h = tabulate_cong answer (λ k. eighth_of (child s k).control) 0 8 (λ k l. h k l ∙ eighth_made s.control k (quarter_of s.control k) refl ∙ ap eighth_of (child_control_law s k))
