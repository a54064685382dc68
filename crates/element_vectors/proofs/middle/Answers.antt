-- Three sums of two differences.
use mathlib.Core.Path.{◌≡◌}
use mathlib.Core.List.{[], ◌∷◌}
use Prim.Native.Nat.{◌+◌, ◌≤◌}
use lib.IntN.{ℤ, nat_abs, ◌+ℤ◌}
use mir.Syntax.{w64}
use mir.Val.{to_z, of_z}
use Rattle.foundation.specs.Held.{answered, add}
use Rattle.element_vectors.specs.Widened.{widest}
use Rattle.element_vectors.proofs.middle.Goals as goal

-- what a difference ensures of its result
abbrev Differs : ℤ → ℤ → Type 0
Differs r z = (r ≡ z) × (nat_abs z ≤ widest + widest)

sum : {r s y z : ℤ} → Differs r y → Differs s z → to_z w64 (of_z w64 (to_z w64 (of_z w64 r) +ℤ to_z w64 (of_z w64 s))) ≡ y +ℤ z
sum d e = (add (answered (widest + widest) d.0 d.1 tt) (answered (widest + widest) e.0 e.1 tt) tt).value

pub returns : goal.returns
returns c = λ i. sum c.difference.ensures c.difference-2.ensures i ∷ sum c.difference-3.ensures c.difference-4.ensures i ∷ sum c.difference-5.ensures c.difference-6.ensures i ∷ []
