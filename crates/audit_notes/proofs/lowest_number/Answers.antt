-- `lowest_number` meets its contract: all coefficients have been looked at. Assumes nothing.
use mathlib.Core.Path.{◌≡◌, subst}
use Prim.Native.Nat.{ℕ}
use native.Mathlib.Omega.{arith}
use Rattle.audit_notes.specs.Notes.{Looked, looked_all}
use Rattle.audit_notes.proofs.lowest_number.Goals as goal

pub returns : goal.returns
returns c = let g = c.args.g.now in let e : c.loop-k.k ≡ 0 = omega (arith, c.loop-k-test.false) in looked_all g (subst (λ (k : ℕ). Looked g k c.loop-k.number) e c.loop-k.invariant)
