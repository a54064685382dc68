-- A 32-bit number as a 64-bit one.
use Rattle.std.specs.Prelude.{◌≡◌, ℕ, ◌^◌, ◌<◌, ℤ}
use Rattle.std.proofs.Common.{sym, ◌∙◌, subst, SFits, to_z, of_z, to_z-of_z}
use Rattle.std.specs.Int.Signed.{mag}
use Rattle.std.specs.Int.{w32, w64}
use Rattle.std.proofs.Math.Facts.{sfits_widen}

-- the largest magnitude of a 32-bit number
abbrev pub widest : ℕ
widest = 2 ^ 31

module _ (z : ℤ) (h : mag z < widest) where
  narrow : SFits w32 z
  narrow = record { sfits = h }

  pub widened_fits : SFits w64 (to_z w32 (of_z w32 z))
  widened_fits = subst (SFits w64) (sym (to_z-of_z narrow)) (sfits_widen tt narrow)

  pub widened : to_z w64 (of_z w64 (to_z w32 (of_z w32 z))) ≡ z
  widened = to_z-of_z widened_fits ∙ to_z-of_z narrow
