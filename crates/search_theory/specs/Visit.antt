-- The search's recursion as the code follows it: by what the pass has found, by the levels left, child after child.
use Rattle.std.specs.Prelude.{◌≡◌, Bool, not, ◌&&◌, ◌||◌, List, [], ◌∷◌, eqb, get_or, length, ℤ, pos}
use Rattle.std.proofs.Math.Path.{refl, sym, ap, ap₂}
use Rattle.std.proofs.Common.{◌∙◌, subst, true≢false, zero-lt-suc, suc-mul, add-mul, mul-le-mul_left, mul-le-mul_right, ne_eqb, eqb-true}
use Rattle.std.proofs.Math.Bool.{true, false, and-eq-true_iff}
use Rattle.std.proofs.Math.Option.{none, some as just}
use Prim.Native.Nat.{ℕ, zero, suc, ◌+◌, ◌*◌, ◌-◌, ◌^◌, ◌<◌, ◌≤◌, zero-le}
use Rattle.std.proofs.Math.Nat.{pow-succ', pow-le-pow_right}
use native.Mathlib.Omega.{arith}
use Rattle.std.proofs.lemmas.Bool.{not-true}
use Rattle.foundation.specs.Lists.{All, all_tabulate}
use Rattle.foundation.specs.Order.{Positive}
use Rattle.definitions.specs.Jacobian.{side}
use Rattle.definitions.specs.Subdivision.{Cell, child, children}
use Rattle.definitions.specs.Verdict.{first_low, blocked}
use Rattle.verdict_theory.specs.Search.{Found, nothing, coefficient, point, Pass, pass, ended, corner_values, open_cell, open_all, visit}
use Rattle.verdict_theory.specs.Findings.{AboveZero, none_low}
use Rattle.verdict_theory.specs.Clear.{Clear, child_control, child_control_law, more, opened_clear, visit_clear}
use Rattle.search_theory.specs.Meaning.{lowest, Held}
use Rattle.search_theory.specs.Lowest.{low}
use Rattle.search_theory.specs.Grid.{grid_low, corners_positive}
use Rattle.search_theory.specs.Children.{lowest_clear}

-- ---- the branches
module _ (s : Cell) (r : Pass) where
  pub visit_ended : (n : ℕ) → ended r.found ≡ true → r ≡ visit n s r
  unfolding visit open_cell
  visit_ended zero e = go r.count r.found e
    where
      go : (m : ℕ) (o : Found) → ended o ≡ true → record { count = m; found = o } ≡ open_cell s (record { count = m; found = o })
      go m nothing e = absurd (true≢false (sym e))
      go m (coefficient f) e = absurd (true≢false (sym e))
      go m (point f) e = refl
  visit_ended (suc n) e = sym (ap (λ (b : Bool). elim b as (λ _. Pass) [ true ↦ r | false ↦ elim (blocked s) as (λ _. Pass) [ true ↦ open_all (visit n) (children s) r | false ↦ r ] ]) e)

  pub visit_last : (n : ℕ) → n ≡ 0 → open_cell s r ≡ visit n s r
  unfolding visit
  visit_last n e = ap (λ (m : ℕ). visit m s r) (sym e)

  module _ (going : ended r.found ≡ false) where
    pub visit_none : (n : ℕ) → length s.control ≡ 27 → lowest s.control ≡ 0 → more (opened_clear 1 n) r ≡ visit n s r
    visit_none n h e = sym (visit_clear n s r (lowest_clear s.control h e) going)

    visit_all : (n : ℕ) → (n ≡ 0 → ⊥) → blocked s ≡ true → visit n s r ≡ open_all (visit (n - 1)) (children s) r
    unfolding visit
    visit_all zero some e = absurd (some refl)
    visit_all (suc n) some e = let p : n ≡ suc n - 1 = omega arith in
        ap₂ (λ (x y : Bool). elim x as (λ _. Pass) [ true ↦ r | false ↦ elim y as (λ _. Pass) [ true ↦ open_all (visit n) (children s) r | false ↦ r ] ]) going e
        ∙ ap (λ (m : ℕ). open_all (visit m) (children s) r) p

-- ---- how many it opens
open_count : (s : Cell) (r : Pass) → (open_cell s r).count ≤ r.count + 1
unfolding open_cell
open_count s r = go r.count r.found
  where
    go : (m : ℕ) (o : Found) → (open_cell s (record { count = m; found = o })).count ≤ m + 1
    go m nothing = omega arith
    go m (coefficient f) = omega arith
    go m (point f) = omega arith

all_count : (f : Cell → Pass → Pass) (b : ℕ) → ((s : Cell) (r : Pass) → (f s r).count ≤ r.count + b) → (ss : List Cell) (r : Pass) → (open_all f ss r).count ≤ r.count + length ss * b
all_count f b h [] r = omega arith
all_count f b h (s ∷ ss) r = omega (arith, all_count f b h ss (f s r), h s r, suc-mul (length ss) b)

pub visit_count : (n : ℕ) (s : Cell) (r : Pass) → (visit n s r).count ≤ r.count + 8 ^ n
unfolding visit children
visit_count zero s r = open_count s r
visit_count (suc n) s r = go (ended r.found) (blocked s) (visit_count n)
  where
    go : (x y : Bool) → ((s : Cell) (r : Pass) → (visit n s r).count ≤ r.count + 8 ^ n) → (elim x as (λ _. Pass) [ true ↦ r | false ↦ elim y as (λ _. Pass) [ true ↦ open_all (visit n) (children s) r | false ↦ r ] ]).count ≤ r.count + 8 ^ suc n
    go true y h = omega arith
    go false true h = omega (arith, all_count (visit n) (8 ^ n) h (children s) r, pow-succ' 8 n)
    go false false h = omega arith

-- ---- a cell of the last level without a low corner, after a low coefficient
abbrev pub is_blocked : Found → Bool
is_blocked nothing = false
is_blocked (coefficient f) = true
is_blocked (point f) = false

open_high : (s : Cell) (r : Pass) → is_blocked r.found ≡ true → first_low (corner_values s) ≡ none → open_cell s r ≡ more 1 r
unfolding open_cell
open_high s r b e = go r.count r.found b
  where
    one : (n : ℕ) → suc n ≡ n + 1
    one n = omega arith

    go : (n : ℕ) (o : Found) → is_blocked o ≡ true → open_cell s (record { count = n; found = o }) ≡ record { count = n + 1; found = o }
    go n nothing b = absurd (true≢false (sym b))
    go n (coefficient f) b = λ i. pass (one n i) (e i) (just f)
    go n (point f) b = absurd (true≢false (sym b))

-- the children have none where J is above 0 at every grid point of their level
high_corners : (s : Cell) → grid_low s.control ≡ false → (k : ℕ) → All AboveZero (corner_values (child s k))
unfolding corner_values
high_corners s e k = let t = child s k in all_tabulate AboveZero (λ n. record { number = suc n; a = t.a + side 0 n; b = t.b + side 1 n; c = t.c + side 2 n; value = get_or t.control n (pos 0) }) 0 8
    (λ n _ l. subst (λ (c : List ℤ). Positive (get_or c n (pos 0))) (child_control_law s k) (corners_positive s.control e k n l))

-- ---- child after child, m levels below each
sum_clear : (n m k : ℕ) → k + opened_clear n m + opened_clear 1 m ≡ k + opened_clear (suc n) m
sum_clear n zero k = omega arith
sum_clear n (suc m) k = omega arith

pub later_clear : (n m k : ℕ) → (m ≡ 0 → ⊥) → k ≡ k + opened_clear n m
later_clear n zero k h = absurd (h refl)
later_clear n (suc m) k h = omega arith

none_clear : (m k : ℕ) → k ≡ k + opened_clear 0 m
none_clear zero k = omega arith
none_clear (suc m) k = omega arith

module _ (s : Cell) (r : Pass) (m : ℕ) where
  abbrev pub over : ℕ → Pass
  over zero = r
  over (suc k) = visit m (child s k) (over k)

  pub over_next : (k : ℕ) → over (k + 1) ≡ visit m (child s k) (over k)
  over_next k = let p : k + 1 ≡ suc k = omega arith in ap over p

  -- children without a low coefficient are passed over
  pub over_clear : (k n : ℕ) → ended (over k).found ≡ false → ((j : ℕ) → k ≤ j → j < k + n → Clear (child_control s.control j)) → over (k + n) ≡ more (opened_clear n m) (over k)
  over_clear k zero going h = let p : k + 0 ≡ k = omega arith in ap over p ∙ (λ i. record { count = none_clear m (over k).count i; found = (over k).found })
  over_clear k (suc n) going h = let p : k + suc n ≡ suc (k + n) = omega arith in
      let ih = over_clear k n going (λ j l u. h j l (omega arith)) in
      ap over p ∙ ap (visit m (child s (k + n))) ih
      ∙ visit_clear m (child s (k + n)) (more (opened_clear n m) (over k)) (subst Clear (child_control_law s (k + n)) (h (k + n) (omega arith) (omega arith))) going
      ∙ (λ i. record { count = sum_clear n m (over k).count i; found = (over k).found })

  -- after a low coefficient the children of the last level are opened, and change nothing where none has a low corner
  pub over_points : m ≡ 0 → grid_low s.control ≡ false → (k n : ℕ) → is_blocked (over k).found ≡ true → over (k + n) ≡ more n (over k)
  over_points z low k zero b = let p : k + 0 ≡ k = omega arith in let q : (over k).count ≡ (over k).count + 0 = omega arith in ap over p ∙ (λ i. record { count = q i; found = (over k).found })
  over_points z low k (suc n) b = let p : k + suc n ≡ suc (k + n) = omega arith in let q : (over k).count + n + 1 ≡ (over k).count + suc n = omega arith in
      let ih = over_points z low k n b in
      ap over p ∙ ap (visit m (child s (k + n))) ih ∙ sym (visit_last (child s (k + n)) (more n (over k)) m z)
      ∙ open_high (child s (k + n)) (more n (over k)) b (none_low (corner_values (child s (k + n))) (high_corners s low (k + n)))
      ∙ (λ i. record { count = q i; found = (over k).found })

  -- after a low corner nothing changes
  over_more : (k n : ℕ) → ended (over k).found ≡ true → over k ≡ over (k + n)
  over_more k zero e = let p : k ≡ k + 0 = omega arith in ap over p
  over_more k (suc n) e = let p : suc (k + n) ≡ k + suc n = omega arith in let ih = over_more k n e in
      ih ∙ visit_ended (child s (k + n)) (over (k + n)) m (sym (ap (λ (q : Pass). ended q.found) ih) ∙ e) ∙ ap over p

  pub over_ended : (k : ℕ) → k ≤ 8 → ended (over k).found ≡ true → over k ≡ over 8
  over_ended k l e = let p : k + (8 - k) ≡ 8 = omega arith in over_more k (8 - k) e ∙ ap over p

  over_count : (k : ℕ) → (over k).count ≤ r.count + k * 8 ^ m
  over_count zero = omega arith
  over_count (suc k) = omega (arith, over_count k, visit_count m (child s k) (over k), suc-mul k (8 ^ m))

-- all eight, where the cell is cut
pub visit_over : (s : Cell) (r : Pass) (n : ℕ) → ended r.found ≡ false → (n ≡ 0 → ⊥) → (lowest s.control ≡ 0 → ⊥) → over s r (n - 1) 8 ≡ visit n s r
unfolding children
visit_over s r n going some h = sym (visit_all s r going n some (low s h))

-- ---- whether the children that are left need not be made, after what was found before: after a low corner; and, of the last level, after a low
-- coefficient, where J is above 0 at every grid point of theirs
abbrev pub high_left : Found → ℕ → List ℤ → Bool
high_left o left g = eqb left 1 && (is_blocked o && not (grid_low g))

abbrev pub rest_known : Found → ℕ → List ℤ → Bool
rest_known o left g = ended o || high_left o left g

-- and how many of n left over are opened then
abbrev opens : Bool → Bool → ℕ → ℕ
opens true q n = 0
opens false true n = n
opens false false n = 0

abbrev pub rest_opened : Found → ℕ → List ℤ → ℕ → ℕ
rest_opened o left g n = opens (ended o) (high_left o left g) n

module _ {A : Type 0} (words : Pass → A) where
  none_more : (p : Pass) (n : ℕ) → n ≡ 0 → words (more n p) ≡ words p
  none_more p n e = let q : p.count + n ≡ p.count = omega arith in (λ i. words (record { count = q i; found = p.found }))

  -- what is told of a pass p, and what becomes of its words
  pub record RestTold (p : Pass) (left : ℕ) (g : List ℤ) (n : ℕ) (known : Bool) (ws : A) : Type 0 where
    pub told : known ≡ rest_known p.found left g
    pub words_are : ws ≡ words (more (rest_opened p.found left g n) p)

  module _ (p : Pass) (left : ℕ) (g : List ℤ) (n : ℕ) (ws : A) where
    pub rest_ended : ended p.found ≡ true → ws ≡ words p → RestTold p left g n true ws
    rest_ended e h = record { told = sym (ap (λ (b : Bool). b || high_left p.found left g) e); words_are = h ∙ sym (none_more p _ (ap (λ (b : Bool). opens b (high_left p.found left g) n) e)) }

    module _ (e : ended p.found ≡ false) where
      pub rest_high : left ≡ 1 → is_blocked p.found ≡ true → grid_low g ≡ false → ws ≡ words (more n p) → RestTold p left g n true ws
      rest_high l b low h = record { told = sym (λ i. e i || (eqb (l i) 1 && (b i && not (low i)))); words_are = h ∙ sym (λ i. words (more (opens (e i) (eqb (l i) 1 && (b i && not (low i))) n) p)) }

      rest_going : high_left p.found left g ≡ false → ws ≡ words p → RestTold p left g n false ws
      rest_going f h = record { told = sym (λ i. e i || f i); words_are = h ∙ sym (none_more p _ (λ i. opens (e i) (f i) n)) }

      pub rest_deeper : (left ≡ 1 → ⊥) → ws ≡ words p → RestTold p left g n false ws
      rest_deeper f = rest_going (ap (λ (b : Bool). b && (is_blocked p.found && not (grid_low g))) (ne_eqb left 1 f))

      pub rest_unblocked : left ≡ 1 → is_blocked p.found ≡ false → ws ≡ words p → RestTold p left g n false ws
      rest_unblocked l f = rest_going (λ i. eqb (l i) 1 && (f i && not (grid_low g)))

      pub rest_low : left ≡ 1 → is_blocked p.found ≡ true → grid_low g ≡ true → ws ≡ words p → RestTold p left g n false ws
      rest_low l b f = rest_going (λ i. eqb (l i) 1 && (b i && not (f i)))

  -- told before child k: if known, the children left over are gone through; if not, nothing is changed
  module _ (s : Cell) (r : Pass) (left k : ℕ) where
    abbrev before : Pass
    before = over s r (left - 1) k

    pub record Rest (known : Bool) (ws : A) : Type 0 where
      pub settled : known ≡ true → ws ≡ words (over s r (left - 1) 8)
      pub same : known ≡ false → ws ≡ words before
      pub going : known ≡ false → ended before.found ≡ false

    pub rest_of : k ≤ 8 → (known : Bool) (ws : A) → RestTold before left s.control (8 - k) known ws → Rest known ws
    rest_of few known ws t = go (ended before.found) refl (high_left before.found left s.control) refl
      where
        go : (e : Bool) → ended before.found ≡ e → (q : Bool) → high_left before.found left s.control ≡ q → Rest known ws
        go true e q f = let yes-known : known ≡ true = t.told ∙ ap (λ (b : Bool). b || high_left before.found left s.control) e in record {
          settled = λ _. t.words_are ∙ none_more before _ (ap (λ (b : Bool). opens b (high_left before.found left s.control) (8 - k)) e) ∙ ap words (over_ended s r (left - 1) k few e);
          same = λ n. absurd (true≢false (sym yes-known ∙ n));
          going = λ n. absurd (true≢false (sym yes-known ∙ n));
        }
        go false e true f = let yes-known : known ≡ true = t.told ∙ (λ i. e i || f i) in
            let one = (and-eq-true_iff (eqb left 1) (is_blocked before.found && not (grid_low s.control))).0 f in let two = (and-eq-true_iff (is_blocked before.found) (not (grid_low s.control))).0 one.1 in
            let l = eqb-true left 1 one.0 in let z : left - 1 ≡ 0 = omega arith in let p : k + (8 - k) ≡ 8 = omega arith in record {
              settled = λ _. t.words_are ∙ (λ i. words (more (opens (e i) (f i) (8 - k)) before)) ∙ ap words (sym (over_points s r (left - 1) z (not-true (grid_low s.control) two.1) k (8 - k) two.0) ∙ ap (over s r (left - 1)) p);
              same = λ n. absurd (true≢false (sym yes-known ∙ n));
              going = λ n. absurd (true≢false (sym yes-known ∙ n));
            }
        go false e false f = let not_known : known ≡ false = t.told ∙ (λ i. e i || f i) in record {
          settled = λ n. absurd (true≢false (sym n ∙ not_known));
          same = λ _. t.words_are ∙ none_more before _ (λ i. opens (e i) (f i) (8 - k));
          going = λ _. e;
        }

-- ---- room for one cell more, and for the cells of n children more
pow_left : (n : ℕ) → (n ≡ 0 → ⊥) → 8 ^ n ≡ 8 * 8 ^ (n - 1)
pow_left zero h = absurd (h refl)
pow_left (suc n) h = let p : n ≡ suc n - 1 = omega arith in pow-succ' 8 n ∙ ap (λ (m : ℕ). 8 * 8 ^ m) p

module _ {A : Type 0} (words : Pass → A) where
  -- room for more is room for fewer
  pub held_less : (m n : ℕ) (ws : A) → n ≤ m → Held words m ws → Held words n ws
  held_less m n ws l held = record { pass = held.pass; is = held.is; room = omega (arith, held.room) }

  pub one_held : (left : ℕ) (ws : A) → Held words (8 ^ left) ws → Held words 1 ws
  one_held left ws held = held_less (8 ^ left) 1 ws (pow-le-pow_right {n = 8} (zero-lt-suc 7) (zero-le {n = left})) held

  pub eight_held : (left : ℕ) → (left ≡ 0 → ⊥) → (ws : A) → Held words (8 ^ left) ws → Held words 8 ws
  eight_held left some ws held = let p : 1 ≤ left = omega arith in held_less (8 ^ left) 8 ws (pow-le-pow_right {n = 8} (zero-lt-suc 7) p) held

  module _ (s : Cell) (left : ℕ) (some : left ≡ 0 → ⊥) (ws : A) (held : Held words (8 ^ left) ws) where
    module _ (k n : ℕ) (l : k + n ≤ 8) (vs : A) (e : vs ≡ words (over s held.pass (left - 1) k)) where
      run_held : Held words (n * 8 ^ (left - 1)) vs
      run_held = let x = 8 ^ (left - 1) in record { pass = over s held.pass (left - 1) k; is = e; room = omega (arith, held.room, pow_left left some, over_count s held.pass (left - 1) k, add-mul k n x, mul-le-mul_right x l) }

      pub skip_held : Held words n vs
      skip_held = let x = 8 ^ (left - 1) in let p : 8 ^ 0 ≤ x = pow-le-pow_right (zero-lt-suc 7) zero-le in let q : n * 1 ≤ n * x = mul-le-mul_left n p in
          record { pass = run_held.pass; is = run_held.is; room = omega (arith, run_held.room, q) }

    pub next_held : (k : ℕ) → k < 8 → (vs : A) → vs ≡ words (over s held.pass (left - 1) k) → Held words (8 ^ (left - 1)) vs
    next_held k l vs e = let p : k + 1 ≤ 8 = omega arith in let h = run_held k 1 p vs e in record { pass = h.pass; is = h.is; room = omega (arith, h.room) }
