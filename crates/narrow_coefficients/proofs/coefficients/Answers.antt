-- The rows against the volumes of the points, which are within the rows' limits.
use mathlib.Core.Path.{◌≡◌, sym, subst}
use mathlib.Core.List.{List}
use Prim.Native.Nat.{◌≤◌}
use native.Mathlib.Nat.{le_trans}
use lib.Dec.{lit≤}
use lib.IntN.{ℤ}
use Rattle.foundation.specs.Lists.{tabulate}
use Rattle.foundation.specs.Polynomial.{integers}
use Rattle.foundation.specs.Words.{split_cases}
use Rattle.definitions.specs.Jacobian.{nodes_of}
use Rattle.definitions.specs.Coefficients.{volumes, row, dot, coefficients}
use Rattle.coefficient_rows.specs.Limits.{WithinLimits}
use Rattle.element_vectors.specs.Range.{InRange}
use Rattle.narrow_volumes.specs.Range.{volume_limit}
use Rattle.narrow_volumes.specs.Sizes.{volumes_small}
use Rattle.narrow_coefficients.proofs.coefficients.Goals as goal

-- the coefficients are the rows against the volumes
coefficients_are : (xs : List ℤ) {vs cs : List ℤ} → vs ≡ volumes integers (nodes_of xs) → cs ≡ tabulate (λ n. dot integers (row n) vs) 0 27 → cs ≡ coefficients xs
unfolding coefficients
coefficients_are xs {cs = cs} p q = subst (λ ws. cs ≡ tabulate (λ n. dot integers (row n) ws) 0 27) p q

within_limits : {vs : List ℤ} → InRange volume_limit vs → WithinLimits vs
within_limits h = record { small = λ i. le_trans (h.small i) (split_cases (λ m. volume_limit ≤ m) (lit≤ tt) (lit≤ tt) 8 i) }

pub rows-requires : goal.rows-requires
rows-requires c = within_limits (subst (InRange volume_limit) (sym c.volumes-volumes.ensures) (volumes_small c.requires))

pub returns : goal.returns
returns c = coefficients_are c.args.p.now c.volumes-volumes.ensures c.rows.ensures
