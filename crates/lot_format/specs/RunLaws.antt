-- Groups and their runs: each is had from the other.
use Rattle.std.specs.Prelude.{◌≡◌, refl, List, [], ◌∷◌, ◌++◌, ℕ, ◌+◌, ◌<◌, get_or, length, take, drop, ℤ}
use Rattle.std.proofs.Common.{◌∙◌, ap, ap₂, arith, length-drop, take-append-drop, length-take-le}
use Rattle.std.proofs.Math.Seq.{take-append_seam, drop-append_seam}
use Rattle.foundation.specs.Lists.{drop_next, sum}
use Rattle.lot_format.specs.Format.{Lot, Group}
use Rattle.lot_format.specs.Runs.{Runs, names_of, lengths_of, offsets_of, runs_of, groups_of, lot_from}

-- ---- the groups of their runs
pub groups_back : (gs : List Group) → groups_of (names_of gs) (lengths_of gs) (offsets_of gs) ≡ gs
groups_back [] = refl
groups_back (g ∷ gs) =
    ap₂ (λ (name rest : List ℕ). record { name = name; offset = g.offset } ∷ groups_of rest (lengths_of gs) (offsets_of gs)) (take-append_seam g.name (names_of gs)) (drop-append_seam g.name (names_of gs))
    ∙ ap (λ (l : List Group). g ∷ l) (groups_back gs)

pub lot_back : (lot : Lot) → lot_from (runs_of lot) ≡ lot
lot_back lot = ap (λ (gs : List Group). record { label = lot.label; nodes = lot.nodes; elements = lot.elements; groups = gs }) (groups_back lot.groups)

-- ---- lengths from a place on
pub total_next : (xs : List ℕ) (k : ℕ) → k < length xs → sum (drop k xs) ≡ get_or xs k 0 + sum (drop (k + 1) xs)
total_next xs k h = ap sum (drop_next xs k 0 h)

-- ---- the runs of groups that fit together
module _ (names lengths offsets : List ℕ) where
  -- the names are as long as their lengths say, and there are as many lengths as counts
  abbrev pub Fitting : Type 0
  Fitting = (length lengths ≡ length offsets) × (sum lengths ≡ length names)

pub names_back : (names lengths offsets : List ℕ) → Fitting names lengths offsets → names_of (groups_of names lengths offsets) ≡ names
names_back [] [] offsets f = refl
names_back (x ∷ names) [] offsets f = absurd (omega (arith, f.1))
names_back names (l ∷ lengths) [] f = absurd (omega (arith, f.0))
names_back names (l ∷ lengths) (b ∷ offsets) f =
    ap (λ (rest : List ℕ). take l names ++ rest) (names_back (drop l names) lengths offsets (omega (arith, f.0), length_then)) ∙ take-append-drop l names
  where
    length_then : sum lengths ≡ length (drop l names)
    length_then = simp length-drop (omega (arith, f.1))

pub lengths_back : (names lengths offsets : List ℕ) → Fitting names lengths offsets → lengths_of (groups_of names lengths offsets) ≡ lengths
lengths_back names [] offsets f = refl
lengths_back names (l ∷ lengths) [] f = absurd (omega (arith, f.0))
lengths_back names (l ∷ lengths) (b ∷ offsets) f =
    ap₂ ◌∷◌ (length-take-le l names (omega (arith, f.1))) (lengths_back (drop l names) lengths offsets (omega (arith, f.0), length_then))
  where
    length_then : sum lengths ≡ length (drop l names)
    length_then = simp length-drop (omega (arith, f.1))

pub offsets_back : (names lengths offsets : List ℕ) → length lengths ≡ length offsets → offsets_of (groups_of names lengths offsets) ≡ offsets
offsets_back names [] [] f = refl
offsets_back names [] (b ∷ offsets) f = absurd (omega (arith, f))
offsets_back names (l ∷ lengths) [] f = absurd (omega (arith, f))
offsets_back names (l ∷ lengths) (b ∷ offsets) f = ap (λ (l : List ℕ). b ∷ l) (offsets_back (drop l names) lengths offsets (omega (arith, f)))

-- ---- runs that are the same in each part
pub same_runs : {l l' : List ℕ} {n n' : List ℤ} {e e' s s' k k' b b' : List ℕ} → l ≡ l' → n ≡ n' → e ≡ e' → s ≡ s' → k ≡ k' → b ≡ b'
    → ◌≡◌ {A = Runs} (record { label = l; nodes = n; elements = e; names = s; lengths = k; offsets = b }) (record { label = l'; nodes = n'; elements = e'; names = s'; lengths = k'; offsets = b' })
same_runs p q r s t u = cc
