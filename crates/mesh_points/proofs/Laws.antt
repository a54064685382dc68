-- The tests that the code makes against those of the definitions, and a store that fills a list from the front. Assumes nothing.
use mathlib.Core.Path.{◌≡◌, sym, ◌∙◌, subst}
use mathlib.Core.Bool.{◌&&◌}
use mathlib.Core.List.{List}
use Prim.Native.Nat.{ℕ, ◌+◌, ◌-◌, ◌<◌}
use native.Mathlib.Omega.{arith}
use native.Mathlib.Decide.{ℕ_discrete}
use lib.ListN.{get_or, length, set, length-set}
use lib.Seq.{get_or-set_same, get_or-set_other}
use lib.IntN.{ℤ, pos, negsuc}
use lib.Signed.{le_z}
use Rattle.foundation.specs.Magnitude.{within_tests}
use Rattle.definitions.specs.Limits.{base}
use Rattle.definitions.specs.Mesh.{usable}

pub usable_tests : (x : ℤ) → (le_z (negsuc (base.range - 1)) x && le_z x (pos base.range)) ≡ usable base x
usable_tests x = within_tests (base.range - 1) x

-- the first k of p are those of q; the store of the next one
fill_next : (p q : List ℤ) (k : ℕ) (v : ℤ) → k < length p → ((j : ℕ) → j < k → get_or p j (pos 0) ≡ get_or q j (pos 0)) → v ≡ get_or q k (pos 0)
    → (j : ℕ) → j < k + 1 → get_or (set p k v) j (pos 0) ≡ get_or q j (pos 0)
fill_next p q k v n below e j l = elim (ℕ_discrete k j) [
  | yes r ↦ subst (λ (i : ℕ). get_or (set p k v) i (pos 0) ≡ get_or q i (pos 0)) r (get_or-set_same p k v (pos 0) n ∙ e)
  | no r ↦ get_or-set_other p k j v (pos 0) (λ s. r (sym s)) ∙ below j (omega arith)
]

-- and of the next three
pub fill_three : (p q : List ℤ) (k : ℕ) (x y z : ℤ) → k + 2 < length p → ((j : ℕ) → j < k → get_or p j (pos 0) ≡ get_or q j (pos 0)) → x ≡ get_or q k (pos 0) → y ≡ get_or q (k + 1) (pos 0) → z ≡ get_or q (k + 2) (pos 0)
    → (j : ℕ) → j < k + 3 → get_or (set (set (set p k x) (k + 1) y) (k + 2) z) j (pos 0) ≡ get_or q j (pos 0)
fill_three p q k x y z n below e f g =
    let one = set p k x in
    let two = set one (k + 1) y in
    let first = fill_next p q k x (omega arith) below e in
    let second = fill_next one q (k + 1) y (simp length-set (omega arith)) first f in
    λ j l. fill_next two q (k + 2) z (simp length-set (omega arith)) (λ i m. second i (omega arith)) g j (omega arith)
