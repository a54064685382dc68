-- `with_entry` meets its contract: product and sum fit 128 bits. Assumes nothing.
use mathlib.Core.Path.{◌∙◌, ap}
use mathlib.Core.List.{[], ◌∷◌}
use Prim.Native.Nat.{ℕ, zero, suc, ◌≤◌, zero-le}
use lib.ListN.{get_or}
use lib.IntN.{ℤ, nat_abs, ◌+ℤ◌, ◌*ℤ◌}
use mir.Syntax.{w128}
use mir.Facts.{to_z-of_z}
use Rattle.std.proofs.Common.{subst, sym}
use Rattle.foundation.specs.Words.{Op, arg, times, plus, args}
use Rattle.audit_theory.specs.Exact.{held_is}
use Rattle.audit_volumes.specs.Limits.{volume_limit}
use Rattle.audit_coefficients.specs.Rows.{entry_limit, sum_limit}
use Rattle.audit_coefficients.proofs.with_entry.Goals as goal

abbrev whole : Op
whole = plus (times (arg 0) (arg 1)) (arg 2)

-- an entry, a volume and a sum with their limits
bounded : (x y z : ℤ) → nat_abs x ≤ entry_limit → nat_abs y ≤ volume_limit → nat_abs z ≤ sum_limit → (i : ℕ) → nat_abs (args (x ∷ y ∷ z ∷ []) i) ≤ get_or (entry_limit ∷ volume_limit ∷ sum_limit ∷ []) i 0
bounded x y z p q r zero = p
bounded x y z p q r (suc zero) = q
bounded x y z p q r (suc (suc zero)) = r
bounded x y z p q r (suc (suc (suc i))) = zero-le

pub returns : goal.returns
returns c = let x = c.from.result in let y = c.args.volume in let z = c.args.sum in let read = c.from.ensures ∙ to_z-of_z c.ranges.entry in
    held_is w128 (args (x ∷ y ∷ z ∷ [])) (λ i. get_or (entry_limit ∷ volume_limit ∷ sum_limit ∷ []) i 0)
    (bounded x y z (subst (λ (e : ℤ). nat_abs e ≤ entry_limit) (sym read) c.requires.0) c.requires.1 c.requires.2) whole tt
    ∙ ap (λ (e : ℤ). e *ℤ y +ℤ z) read
