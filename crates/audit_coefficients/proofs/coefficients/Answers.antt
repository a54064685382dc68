-- `coefficients` meets its contract: the rows against the volumes. Assumes nothing.
use mathlib.Core.Path.{◌≡◌, refl, sym, subst, ◌∙◌}
use Prim.Native.Nat.{ℕ}
use native.Mathlib.Omega.{arith}
use mir.Syntax.{w128}
use mir.Facts.{to_z-of_z}
use Rattle.foundation.specs.Filled.{Filled, none_filled, one_filled}
use Rattle.foundation.specs.Polynomial.{integers}
use Rattle.foundation.specs.Words.{Within}
use Rattle.definitions.specs.Coefficients.{row, dot}
use Rattle.audit_volumes.specs.Limits.{volume_limit}
use Rattle.audit_volumes.specs.Sizes.{volumes_small}
use Rattle.audit_coefficients.specs.Rows.{rows_coefficients}
use Rattle.audit_coefficients.proofs.coefficients.Goals as goal

pub loop-n-init : goal.loop-n-init
loop-n-init c = none_filled (λ n. dot integers (row n) c.volumes-v.result) refl

pub row-requires : goal.row-requires
row-requires c = record { table = c.copy-table.ensures; number = c.loop-n-test.true; volumes = subst (Within volume_limit) (sym c.volumes-v.ensures) (volumes_small c.requires) }

pub loop-n-preserved : goal.loop-n-preserved
loop-n-preserved c = one_filled (λ n. dot integers (row n) c.volumes-v.result) c.loop-n.invariant c.loop-n-test.true (to_z-of_z {w = w128} (record { sfits = c.row.type_inv }) ∙ c.row.ensures)

pub returns : goal.returns
returns c = let e : c.loop-n.n ≡ 27 = omega (arith, c.loop-n-test.false, c.loop-n.auto.n-end) in
    rows_coefficients c.args.p.now c.volumes-v.ensures (subst (λ (n : ℕ). Filled (λ m. dot integers (row m) c.volumes-v.result) 27 n c.loop-n.out) e c.loop-n.invariant)
