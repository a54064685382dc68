-- What grows less at each call of the cycle {ξ, η, ζ}: the cuts left; and what holds when a turn of ζ's loop begins: the children before k are gone through.
use mathlib.Core.Path.{◌≡◌}
use mathlib.Core.List.{List}
use Prim.Native.Nat.{◌-◌, ◌/◌}
use lib.IntN.{ℤ}
use Rattle.audit_theory.specs.Cuts.{Quarters, over}
use Rattle.audit_notes.specs.Meaning.{cell_at, notes_of}
use Rattle.audit_cycle.specs.Children.{cells}
use Rattle.audit_cycle.proofs.+eta_xi_zeta.Given as goal

abbrev pub decreases-xi : goal.decreases-xi
decreases-xi l = l.left

abbrev pub decreases-eta : goal.decreases-eta
decreases-eta l = l.left

abbrev pub decreases-zeta : goal.decreases-zeta
decreases-zeta l = l.left

abbrev pub invariant-zeta-loop-k : goal.invariant-zeta-loop-k
invariant-zeta-loop-k l = (g : List ℤ) → Quarters g (cells l.quarters 0) (cells l.quarters 1) (cells l.quarters 2) (cells l.quarters 3) → notes_of l.notes ≡ over (cell_at l.p g) ((l.left - 1) / 3) (notes_of l.fn.n) l.k
