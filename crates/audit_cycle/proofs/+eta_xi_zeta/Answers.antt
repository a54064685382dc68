-- The answers of the cycle of calls {ξ, η, ζ}. ξ cuts a cell that is not of the last level, η both halves, ζ the four quarters, and goes through the eight children in
-- path order. Assumes nothing.
use mathlib.Core.Path.{◌≡◌, refl, sym, ap, subst, ◌∙◌}
use mathlib.Core.Bool.{true, false}
use mathlib.Core.List.{List}
use Prim.Native.Nat.{ℕ, suc, ◌+◌, ◌*◌, ◌-◌, ◌/◌, ◌%◌, ◌^◌, ◌<◌}
use native.Mathlib.Omega.{arith}
use lib.IntN.{ℤ}
use Rattle.definitions.specs.Jacobian.{side}
use Rattle.definitions.specs.Subdivision.{children}
use Rattle.expansion_theory.specs.Control.{Cuttable}
use Rattle.verdict_theory.specs.Clear.{child_control}
use Rattle.search_theory.specs.Meaning.{cell_of, Room}
use Rattle.audit_theory.specs.Walk.{Notes, opened, through, walk, walk_last, walk_by}
use Rattle.audit_theory.specs.Cuts.{first_cut, second_cut, InQuarters, made_room, made_cell, over, over_next, over_all, levels_left, same_levels, last_levels}
use Rattle.audit_theory.proofs.Counted.{over_room}
use Rattle.audit_cut.specs.Word.{largest}
use Rattle.audit_notes.specs.Meaning.{cell_at, notes_of}
use Rattle.audit_cycle.specs.Children.{one_level, quarters_cut, child_is}
use Rattle.audit_cycle.proofs.+eta_xi_zeta.Goals as goal

-- ---- η
pub eta-cut-requires : goal.eta-cut-requires
eta-cut-requires t c = let h = c.requires.0 in subst (Cuttable largest) (sym h.halves.lower_is) (second_cut largest h.control _ h.room.small 0 0)

pub eta-cut-requires-2 : goal.eta-cut-requires-2
eta-cut-requires-2 t c = let h = c.requires.0 in subst (Cuttable largest) (sym h.halves.upper_is) (second_cut largest h.control _ h.room.small 0 1)

-- ---- ξ
pub xi-returns-then-left-eq0 : goal.xi-returns-then-left-eq0
xi-returns-then-left-eq0 t c = let s = c.args in
    c.noted.ensures ∙ walk_last (s.left / 3) (cell_at s.p s.g.now) (notes_of s.n) (last_levels s.left c.if-left-eq0.true)

pub xi-returns-then-stops : goal.xi-returns-then-stops
xi-returns-then-stops t c = let s = c.args in let x = cell_at s.p s.g.now in
    let levels : suc ((s.left - 1) / 3) ≡ s.left / 3 = omega (arith, levels_left s.left c.requires.1 c.if-left-eq0.false) in
    walk_by ((s.left - 1) / 3) x (notes_of s.n) true (sym (c.stops.ensures s.p.a s.p.b s.p.c) ∙ c.if-stops.true) ∙ ap (λ (m : ℕ). walk m x (notes_of s.n)) levels

pub xi-cut-requires : goal.xi-cut-requires
xi-cut-requires t c = let s = c.args in
    let room = subst (λ (m : ℕ). Room largest s.g.now s.p.a s.p.b s.p.c m) (levels_left s.left c.requires.1 c.if-left-eq0.false) c.requires.0 in
    first_cut largest s.g.now ((s.left - 1) / 3) room.small

pub xi-returns : goal.xi-returns
xi-returns t c = let s = c.args in let x = cell_at s.p s.g.now in
    let levels : suc ((s.left - 1) / 3) ≡ s.left / 3 = omega (arith, levels_left s.left c.requires.1 c.if-left-eq0.false) in
    c.eta.ensures s.g.now (record { lower_is = c.cut.ensures.0; upper_is = c.cut.ensures.1 })
    ∙ walk_by ((s.left - 1) / 3) x (notes_of s.n) false (sym (c.stops.ensures s.p.a s.p.b s.p.c) ∙ c.if-stops.false) ∙ ap (λ (m : ℕ). walk m x (notes_of s.n)) levels

-- ---- ζ
-- the next child gone through
gone : (a b c deep : ℕ) (n : Notes) (g : List ℤ) (k : ℕ) {now next : Notes} {x y z : ℕ} {xs : List ℤ} → now ≡ over (cell_of a b c g) deep n k
    → x ≡ 2 * a + side 0 k → y ≡ 2 * b + side 1 k → z ≡ 2 * c + side 2 k → xs ≡ child_control g k → next ≡ walk deep (cell_of x y z xs) now → next ≡ over (cell_of a b c g) deep n (suc k)
gone a b c deep n g k h p q r e w = over_next (cell_of a b c g) deep n k h (made_cell largest g a b c k p q r e) w

-- what the walk of child k asks, when those before it are gone through: room for it, a third of the cuts left for each direction, and a count that fits
child_asks : (left a b c : ℕ) (n : Notes) {q1 q2 q3 q4 : List ℤ} (h : InQuarters largest q1 q2 q3 q4 a b c (left / 3)) → left % 3 ≡ 1 → opened n + 8 ^ (left / 3 + 1) < 2 ^ 32
    → (k : ℕ) → k < 8 → {now : Notes} {x y z : ℕ} {xs : List ℤ} → now ≡ over (cell_of a b c h.control) ((left - 1) / 3) n k
    → x ≡ 2 * a + side 0 k → y ≡ 2 * b + side 1 k → z ≡ 2 * c + side 2 k → xs ≡ child_control h.control k
    → Room largest xs x y z ((left - 1) / 3) × ((left - 1) % 3 ≡ 0) × (opened now + 8 ^ ((left - 1) / 3) < 2 ^ 32)
child_asks left a b c n h third fits k l d p q r e = let deep = (left - 1) / 3 in
    let same : left / 3 ≡ deep = same_levels left (λ z. absurd (omega (arith, z, third))) in (
      made_room largest h.control a b c k p q r e deep (subst (λ (m : ℕ). Room largest h.control a b c (m + 1)) same h.room),
      omega (arith, third),
      over_room (cell_of a b c h.control) deep n k l (subst (λ (m : ℕ). opened n + 8 ^ (m + 1) < 2 ^ 32) same fits) d,
    )

pub zeta-eighths-requires : goal.zeta-eighths-requires
zeta-eighths-requires t c = let h = c.requires.0 in quarters_cut h.control c.args.quarters.now h.quarters largest (c.args.left / 3) h.room.small

pub zeta-child_point-requires : goal.zeta-child_point-requires
zeta-child_point-requires t c = let r = c.requires.0.room in (one_level c.args.p.a (c.args.left / 3) r.a_grid, one_level c.args.p.b (c.args.left / 3) r.b_grid, one_level c.args.p.c (c.args.left / 3) r.c_grid)

pub zeta-loop-k-init : goal.zeta-loop-k-init
zeta-loop-k-init t c = λ g q. refl

pub zeta-xi-notes-requires : goal.zeta-xi-notes-requires
zeta-xi-notes-requires t c = let s = c.args in let p = s.p in let h = c.requires.0 in let k = c.loop-k.k in let at = c.child_point.ensures in
    (omega (arith, c.decreases, c.requires.1), child_asks s.left p.a p.b p.c (notes_of s.n) h c.requires.1 c.requires.2 k c.loop-k-test.true (c.loop-k.invariant h.control h.quarters) at.0 at.1 at.2 (child_is h.control s.quarters.now h.quarters c.eighths.ensures k c.loop-k-test.true))

pub zeta-loop-k-preserved : goal.zeta-loop-k-preserved
zeta-loop-k-preserved t c = λ g q. let s = c.args in let p = s.p in let k = c.loop-k.k in let at = c.child_point.ensures in let deep = (s.left - 1) / 3 in let e : suc k ≡ k + 1 = omega arith in
    gone p.a p.b p.c deep (notes_of s.n) g k (c.loop-k.invariant g q) at.0 at.1 at.2 (child_is g s.quarters.now q c.eighths.ensures k c.loop-k-test.true) c.xi-notes.ensures
    ∙ ap (over (cell_at p g) deep (notes_of s.n)) e

pub zeta-returns : goal.zeta-returns
zeta-returns t c = λ g q. let s = c.args in let x = cell_at s.p g in let deep = (s.left - 1) / 3 in
    let all : c.loop-k.k ≡ 8 = omega (arith, c.loop-k-test.false, c.loop-k.auto.k-end) in
    let same : s.left / 3 ≡ deep = same_levels s.left (λ z. absurd (omega (arith, z, c.requires.1))) in
    c.loop-k.invariant g q ∙ ap (over x deep (notes_of s.n)) all ∙ over_all x deep (notes_of s.n) ∙ ap (λ (k : ℕ). through (walk k) (children x) (notes_of s.n)) (sym same)
