-- What fits the 128 bits, signed, in which the crates `audit_*` hold a number.
use Rattle.std.specs.Prelude.{◌≡◌, refl, ℕ, ◌+◌, ◌*◌, ◌-◌, ◌/◌, ◌^◌, ◌≤◌}
use Rattle.std.proofs.Common.{arith}

-- the largest magnitude of a number, and of one that can be cut
abbrev pub largest : ℕ
largest = 2 ^ 127 - 1

abbrev pub cut_largest : ℕ
cut_largest = 2 ^ 127 / 4 - 1

-- a number that is at most a quarter of the largest can be cut
pub can_be_cut : (n : ℕ) → 4 * n ≤ largest → n ≤ cut_largest
can_be_cut n h = go largest cut_largest refl h
  where
    go : (top quarter : ℕ) → top ≡ 4 * quarter + 3 → 4 * n ≤ top → n ≤ quarter
    go top quarter e h = omega (arith, e, h)
