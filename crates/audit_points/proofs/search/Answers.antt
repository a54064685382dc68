-- `audit_points::search` meets its contract: the walk that settles, or the one at the depth, gives the record. Assumes nothing.
use mathlib.Core.Path.{◌≡◌, refl, sym, subst, ◌∙◌}
use Prim.Native.Nat.{ℕ, ◌≤◌}
use native.Mathlib.Omega.{arith}
use Rattle.std.proofs.Common.{true≢false}
use Rattle.search_theory.specs.Children.{small_less}
use Rattle.search_theory.specs.Levels.{fresh}
use Rattle.audit_theory.specs.Walk.{sought}
use Rattle.audit_cut.specs.Word.{largest}
use Rattle.audit_notes.specs.Meaning.{notes_of}
use Rattle.audit_points.specs.Points.{Ready, first, ready_few, walk_room, walked, next, settles, is_blocked_in}
use Rattle.audit_points.proofs.search.Goals as goal

pub loop-m-init : goal.loop-m-init
loop-m-init c = first refl refl

pub xi-n-requires : goal.xi-n-requires
xi-n-requires c = let g = c.args.g.now in let m = c.loop-m.m in let l : m ≤ c.args.depth = omega (arith, c.loop-m-test.true) in let d : m ≤ 8 = omega (arith, l, c.requires.1) in
    walk_room g m (small_less largest g m c.args.depth l c.requires.0) d (sought (fresh c.loop-m.opened)) (ready_few g m c.loop-m.opened c.loop-m.invariant d)

pub loop-m-preserved : goal.loop-m-preserved
loop-m-preserved c = let g = c.args.g.now in let m = c.loop-m.m in let n = notes_of c.xi-n.result in let made = walked g m c.loop-m.opened c.loop-m.invariant c.xi-n.ensures in
    next g m c.loop-m.opened n made (is_blocked_in g m n made c.blocked.ensures ∙ c.if-not-blocked.false) c.count-opened.ensures

pub returns-then-not-blocked : goal.returns-then-not-blocked
returns-then-not-blocked c = λ xs e. let g = c.args.g.now in let m = c.loop-m.m in let n = notes_of c.xi-n.result in let made = walked g m c.loop-m.opened c.loop-m.invariant c.xi-n.ensures in
    c.record.ensures ∙ settles g xs m c.args.depth n made e (omega (arith, c.loop-m-test.true)) (λ b. absurd (true≢false (sym b ∙ is_blocked_in g m n made c.blocked.ensures ∙ c.if-not-blocked.true)))

-- after the loop the level is the depth
at_depth : (c : goal.After-loop-m) → Ready c.args.g.now c.args.depth c.loop-m.opened
at_depth c = let e : c.loop-m.m ≡ c.args.depth = omega (arith, c.loop-m-test.false, c.loop-m.auto.m-end) in subst (λ (m : ℕ). Ready c.args.g.now m c.loop-m.opened) e c.loop-m.invariant

pub xi-n-requires-2 : goal.xi-n-requires-2
xi-n-requires-2 c = let g = c.args.g.now in let D = c.args.depth in walk_room g D c.requires.0 c.requires.1 (sought (fresh c.loop-m.opened)) (ready_few g D c.loop-m.opened (at_depth c) c.requires.1)

pub returns : goal.returns
returns c = λ xs e. let g = c.args.g.now in let D = c.args.depth in let n = notes_of c.xi-n-2.result in
    c.record-2.ensures ∙ settles g xs D D n (walked g D c.loop-m.opened (at_depth c.before.before) c.xi-n-2.ensures) e (omega arith) (λ b. refl)
