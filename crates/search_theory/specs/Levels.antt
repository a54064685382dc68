-- Pass after pass as the code makes them: the pass of a level, what it comes to, and what holds between passes.
use Rattle.std.specs.Prelude.{◌≡◌, refl, true, List, ℕ, suc, ◌+◌, ◌*◌, ◌^◌, ◌<◌, ◌≤◌, length, ℤ, nat_abs}
use Rattle.std.proofs.Common.{sym, ◌∙◌, ap, subst, true≢false, zero-le, le_trans, mul-le-mul_left, zero-lt-suc, arith}
use Rattle.std.proofs.Math.Nat.{pow-le-pow_right}
use Rattle.foundation.specs.Lists.{All, all_map, up}
use Rattle.definitions.specs.Limits.{base}
use Rattle.definitions.specs.Coefficients.{coefficients}
use Rattle.definitions.specs.Subdivision.{Cell, whole, cells}
use Rattle.expansion_theory.specs.Size.{cells_size}
use Rattle.verdict_theory.specs.Named.{Names, named_value}
use Rattle.definitions.specs.Verdict.{Verdict, valid, invalid, undecided, verdict, opened}
use Rattle.verdict_theory.specs.Search.{Found, nothing, coefficient, point, Pass, visit}
use Rattle.verdict_theory.specs.Opened.{most}
use Rattle.verdict_theory.specs.Passes.{Before, before_first, pass_point, pass_nothing, pass_last, pass_on}
use Rattle.search_theory.specs.Meaning.{cell_of, lowest, Small, count_room, Grid, Room, Held}
use Rattle.search_theory.specs.Visit.{visit_none, visit_count, is_blocked}

abbrev pub whole_of : List ℤ → Cell
whole_of g = cell_of 0 0 0 g

-- nothing found yet, n cells opened
abbrev pub fresh : ℕ → Pass
fresh n = record { count = n; found = nothing }

abbrev pub outcome : ℕ → Found → Verdict
outcome l nothing = valid l
outcome l (coefficient f) = undecided l f
outcome l (point f) = invalid l f

pub whole_is : (xs g : List ℤ) → g ≡ coefficients xs → whole_of g ≡ whole xs
unfolding whole
whole_is xs g e = ap whole_of e

-- the pass of level m was made, where the levels before were all blocked
pub record At (xs : List ℤ) (m : ℕ) (r : Pass) : Type 0 where
  pub earlier : ℕ
  pub before : Before xs m earlier
  pub made : visit m (whole xs) (fresh earlier) ≡ r

module _ (xs g : List ℤ) (e : g ≡ coefficients xs) where
  at_first : (r : Pass) → r ≡ visit 0 (whole_of g) (fresh 0) → At xs 0 r
  at_first r h = record { earlier = 0; before = before_first xs; made = sym (h ∙ ap (λ (s : Cell). visit 0 s (fresh 0)) (whole_is xs g e)) }

  blocked_is : (o : Found) → is_blocked o ≡ true → (m : ℕ) (r : Pass) → r.found ≡ o → At xs m r → Before xs (suc m) r.count
  blocked_is nothing b m r q h = absurd (true≢false (sym b))
  blocked_is (coefficient f) b m r q h = pass_on xs m h.earlier h.before r.count r.found h.made f q
  blocked_is (point f) b m r q h = absurd (true≢false (sym b))

  at_next : (m : ℕ) (r r' : Pass) → At xs m r → is_blocked r.found ≡ true → r' ≡ visit (m + 1) (whole_of g) (fresh r.count) → At xs (m + 1) r'
  at_next m r r' h b k = let p : suc m ≡ m + 1 = omega arith in record {
    earlier = r.count;
    before = subst (λ (n : ℕ). Before xs n r.count) p (blocked_is r.found b m r refl h);
    made = sym (k ∙ ap (λ (s : Cell). visit (m + 1) s (fresh r.count)) (whole_is xs g e));
  }

-- the last pass: of the depth, or one that settles
pub settled : (xs : List ℤ) (m D : ℕ) (r : Pass) → m ≤ D → At xs m r → (is_blocked r.found ≡ true → m ≡ D) → (outcome m r.found ≡ verdict xs D) × (r.count ≡ opened xs D)
settled xs m D r l h last = go r.found refl
  where
    go : (o : Found) → r.found ≡ o → (outcome m r.found ≡ verdict xs D) × (r.count ≡ opened xs D)
    go nothing q = let w = pass_nothing xs m h.earlier h.before r.count r.found h.made q D l in (ap (outcome m) q ∙ w.0, w.1)
    go (coefficient f) q = let w = pass_last xs m h.earlier h.before r.count r.found h.made f q in let e = last (ap is_blocked q) in (ap (outcome m) q ∙ w.0 ∙ ap (verdict xs) e, w.1 ∙ ap (opened xs) e)
    go (point f) q = let w = pass_point xs m h.earlier h.before r.count r.found h.made f q D l in (ap (outcome m) q ∙ w.0, w.1)

-- an element without a low coefficient needs no pass
pub settled_clear : (xs g : List ℤ) → g ≡ coefficients xs → length g ≡ 27 → lowest g ≡ 0 → (D : ℕ) → (outcome 0 nothing ≡ verdict xs D) × (1 ≡ opened xs D)
settled_clear xs g e h low D =
    let q : record { count = 1; found = nothing } ≡ visit 0 (whole_of g) (fresh 0) = visit_none (whole_of g) (fresh 0) refl 0 h low in
    settled xs 0 D (record { count = 1; found = nothing }) zero-le (at_first xs g e (record { count = 1; found = nothing }) q) (λ b. absurd (true≢false (sym b)))

whole_within : (b : ℕ) (xs g : List ℤ) → g ≡ coefficients xs → All (λ v. nat_abs v ≤ b) g → All (λ v. nat_abs v ≤ b) (whole xs).control
unfolding whole
whole_within b xs g e w = subst (All (λ v. nat_abs v ≤ b)) e w

-- the value that is named is one of the coefficients, so it is no larger than they
pub named_small : (top : ℕ) (xs g : List ℤ) (D : ℕ) → g ≡ coefficients xs → Small top g D → (P : ℤ → Type 0) → ((v : ℤ) → nat_abs v ≤ top → P v) → Names (λ f. P f.value) (verdict xs D)
named_small top xs g D e small P h = named_value xs D P λ m l.
    all_map (λ s. All (λ v. nat_abs v ≤ small.bound * 64 ^ m) s.control) (λ s. All P s.control)
    (λ s. all_map (λ v. nat_abs v ≤ small.bound * 64 ^ m) P (λ v q. h v (le_trans q (le_trans (mul-le-mul_left small.bound (pow-le-pow_right (zero-lt-suc 63) l)) small.small))) s.control)
    (cells xs m) (cells_size xs small.bound (whole_within small.bound xs g e small.control.within) m)

-- ---- the count stays small
most_next : (m : ℕ) → most (m + 1) ≡ most m + 8 ^ (m + 1)
most_next m = let p : m + 1 ≡ suc m = omega arith in ap most p ∙ ap (λ (n : ℕ). most m + 8 ^ n) (sym p)

most_room : (m c c' : ℕ) → c ≤ most m → c' ≤ c + 8 ^ (m + 1) → c' ≤ most (m + 1)
most_room m c c' h k = omega (arith, most_next m)

pub most_less : (m : ℕ) → m ≤ base.depth → most m ≤ most base.depth
most_less m h = up (λ k. most m ≤ most k) (λ k q. omega arith) m base.depth h (omega arith)

count_room_law : (m c : ℕ) → m < base.depth → c ≤ most m → c + 8 ^ (m + 1) < count_room
count_room_law m c h k = let l : m + 1 ≤ base.depth = omega arith in let p : 8 ^ (m + 1) ≤ 8 ^ base.depth = pow-le-pow_right (zero-lt-suc 7) l in omega (arith, most_less m (omega arith))

-- ---- the whole element has room for every level
pub whole_room : (top : ℕ) (g : List ℤ) (level : ℕ) → Small top g level → level ≤ base.depth → Room top g 0 0 0 level
whole_room top g level small h =
    let p : 2 ^ level ≤ 2 ^ base.depth = pow-le-pow_right (zero-lt-suc 1) h in
    let grid : Grid 0 level = omega arith in
    record { small = small; a_grid = grid; b_grid = grid; c_grid = grid }

-- ---- what holds a pass between passes
module _ {A : Type 0} (words : Pass → A) where
  pub whole_held : (level m : ℕ) (ws : A) → ws ≡ words (fresh m) → m + 8 ^ level < count_room → Held words (8 ^ level) ws
  whole_held level m ws e h = record { pass = fresh m; is = e; room = h }

  pub record Made (g : List ℤ) (m : ℕ) (ws : A) : Type 0 where
    pub pass : Pass
    pub is : ws ≡ words pass
    pub few : pass.count ≤ most m
    pub at : (xs : List ℤ) → g ≡ coefficients xs → At xs m pass

  module _ (g : List ℤ) where
    pub made_first : (ws : A) → ws ≡ words (visit 0 (whole_of g) (fresh 0)) → Made g 0 ws
    made_first ws e = record { pass = visit 0 (whole_of g) (fresh 0); is = e; few = visit_count 0 (whole_of g) (fresh 0); at = λ xs h. at_first xs g h (visit 0 (whole_of g) (fresh 0)) refl }

    pub made_next : (m : ℕ) (ws vs : A) (made : Made g m ws) → is_blocked made.pass.found ≡ true → vs ≡ words (visit (m + 1) (whole_of g) (fresh made.pass.count)) → Made g (m + 1) vs
    made_next m ws vs made b e = let r = visit (m + 1) (whole_of g) (fresh made.pass.count) in record {
      pass = r;
      is = e;
      few = most_room m made.pass.count r.count made.few (visit_count (m + 1) (whole_of g) (fresh made.pass.count));
      at = λ xs h. at_next xs g h m made.pass r (made.at xs h) b refl;
    }

    pub made_room : (m : ℕ) (ws : A) → m < base.depth → Made g m ws → Held words (8 ^ (m + 1)) ws
    made_room m ws h made = record { pass = made.pass; is = made.is; room = count_room_law m made.pass.count h made.few }
