-- `row` meets its contract: the sum of the terms behind k. Assumes nothing.
use mathlib.Core.Path.{◌≡◌, sym, ap₂, subst, ◌∙◌}
use mathlib.Core.List.{List}
use Prim.Native.Nat.{ℕ, ◌+◌, ◌-◌, ◌*◌, ◌≤◌}
use native.Mathlib.Omega.{arith}
use lib.IntN.{ℤ, nat_abs, ◌+ℤ◌, ◌*ℤ◌}
use mir.Syntax.{w64, w128}
use mir.Val.{to_z}
use mir.Facts.{to_z-of_z}
use Rattle.foundation.specs.Words.{args, within}
use Rattle.wrapping_theory.specs.Runs.{size_fits}
use Rattle.audit_volumes.specs.Limits.{volume_limit}
use Rattle.audit_coefficients.specs.Rows.{entry_limit, entry_of, entry_small, Summed, none_summed, summed_small, one_summed, all_terms}
use Rattle.audit_coefficients.proofs.row.Goals as goal

pub loop-k-init : goal.loop-k-init
loop-k-init c = none_summed (entry_of c.args.table.now c.args.n) (args c.args.v.now)

-- the entry and the volume of a turn
module _ (c : goal.After-with_entry-arg-in-loop-k-1) where
  abbrev k : ℕ
  k = c.loop-k.k - 1

  abbrev entry : ℤ
  entry = entry_of c.args.table.now c.args.n k

  abbrev volume : ℤ
  volume = args c.args.v.now k

  entry_within : nat_abs entry ≤ entry_limit
  entry_within = subst (λ (xs : List ℤ). nat_abs (entry_of xs c.args.n k) ≤ entry_limit) (sym c.requires.table.same) (entry_small (20 * c.args.n + k) (omega (arith, c.requires.number, c.loop-k.auto.k, c.loop-k-test.true)))

  volume_within : nat_abs volume ≤ volume_limit
  volume_within = within volume_limit c.args.v.now c.requires.volumes k

pub with_entry-sum-requires : goal.with_entry-sum-requires
with_entry-sum-requires c = (
  subst (λ (z : ℤ). nat_abs z ≤ entry_limit) (sym (to_z-of_z (size_fits w64 entry_limit (entry c) (entry_within c) tt))) (entry_within c),
  subst (λ (z : ℤ). nat_abs z ≤ volume_limit) (sym (to_z-of_z (size_fits w128 volume_limit (volume c) (volume_within c) tt))) (volume_within c),
  summed_small c.loop-k.invariant,
)

pub loop-k-preserved : goal.loop-k-preserved
loop-k-preserved c = let a = c.before in
    one_summed (entry_of c.args.table.now c.args.n) (args c.args.v.now) c.loop-k.k c.loop-k-test.true c.loop-k.invariant (entry_within a) (volume_within a)
    (to_z-of_z {w = w128} (record { sfits = c.with_entry-sum.type_inv }) ∙ c.with_entry-sum.ensures
    ∙ ap₂ (λ (x y : ℤ). x *ℤ y +ℤ to_z w128 c.loop-k.sum-bits) (to_z-of_z (size_fits w64 entry_limit (entry a) (entry_within a) tt)) (to_z-of_z (size_fits w128 volume_limit (volume a) (volume_within a) tt)))

pub returns : goal.returns
returns c = let v = args c.args.v.now in let n = c.args.n in let e : c.loop-k.k ≡ 0 = omega (arith, c.loop-k-test.false) in
    all_terms n c.requires.number c.args.v.now c.told-v
    (subst (λ (xs : List ℤ). Summed (entry_of xs n) v 0 (to_z w128 c.loop-k.sum-bits)) c.requires.table.same (subst (λ (k : ℕ). Summed (entry_of c.args.table.now n) v k (to_z w128 c.loop-k.sum-bits)) e c.loop-k.invariant))
