-- Signed numbers of 32 bits are the machine's. Assumes nothing.
use Rattle.std.proofs.Common.{◌≡◌, refl, ap, Bool, true, false, arith, ℕ, suc, ◌-◌, ◌^◌, ltb, ℤ, pos, negsuc, w32, to_z}
use mir.Val.{sel}
use Rattle.lot_format.specs.Numbers.{signed}

pub signed_to_z : (x : ℕ) → signed x ≡ to_z w32 x
unfolding signed
signed_to_z x = go (ltb x (2 ^ 31))
  where
    go : (b : Bool) → ◌≡◌ {A = ℤ} (elim b [ true ↦ pos x | false ↦ negsuc (2 ^ 32 - 1 - x) ]) (sel b (pos x) (negsuc (2 ^ 32 - suc x)))
    go true = refl
    go false = let e : 2 ^ 32 - 1 - x ≡ 2 ^ 32 - suc x = omega arith in ap negsuc e
