-- The walk over the cells below a cell, in path order: a search notes what it finds and stops where nothing is due, a survey gathers both bounds and never
-- stops. Both are one recursion over the eight children.
use Rattle.std.specs.Prelude.{◌≡◌, refl, Bool, true, false, not, ◌||◌, List, [], ◌∷◌, ℕ, zero, suc}
use Rattle.std.proofs.Common.{sym, ◌∙◌, ap}
use Rattle.definitions.specs.Subdivision.{Cell, children}
use Rattle.definitions.specs.Verdict.{blocked}
use Rattle.verdict_theory.specs.Search.{Pass, ended, open_cell, open_all, visit}
use Rattle.verdict_theory.specs.Extremes.{Extremes, with, with_all, extremes}

-- what a walk has noted: a search what it found and how many cells it opened, a survey the least coefficient and the least corner
pub data Notes : Type 0 where
  sought : Pass → Notes
  surveyed : Extremes → Notes

-- whether a cell is not cut: a search has ended, or the cell has no coefficient that is not above 0
abbrev pub stops : Cell → Notes → Bool
stops s (sought p) = ended p.found || not (blocked s)
stops s (surveyed e) = false

-- a cell of the last level
abbrev pub noted : Cell → Notes → Notes
noted s (sought p) = sought (open_cell s p)
noted s (surveyed e) = surveyed (with s e)

-- one after the other
abbrev pub through : (Cell → Notes → Notes) → List Cell → Notes → Notes
through f [] n = n
through f (s ∷ ss) n = through f ss (f s n)

-- the cells m levels below s
unfoldable pub walk : ℕ → Cell → Notes → Notes
walk zero s n = noted s n
walk (suc m) s n = elim (stops s n) as (λ _. Notes) [ true ↦ n | false ↦ through (walk m) (children s) n ]

-- ---- a search's walk is the visit that gives the verdict, a survey's the recursion that gives both bounds
through_sought : (m : ℕ) → ((s : Cell) (p : Pass) → walk m s (sought p) ≡ sought (visit m s p)) → (ss : List Cell) (p : Pass) → through (walk m) ss (sought p) ≡ sought (open_all (visit m) ss p)
through_sought m h [] p = refl
through_sought m h (s ∷ ss) p = ap (through (walk m) ss) (h s p) ∙ through_sought m h ss (visit m s p)

pub walk_sought : (m : ℕ) (s : Cell) (p : Pass) → walk m s (sought p) ≡ sought (visit m s p)
unfolding walk visit
walk_sought zero s p = refl
walk_sought (suc m) s p = go (ended p.found) (blocked s) (walk_sought m)
  where
    go : (e b : Bool) → ((s : Cell) (p : Pass) → walk m s (sought p) ≡ sought (visit m s p))
        → elim (e || not b) as (λ _. Notes) [ true ↦ sought p | false ↦ through (walk m) (children s) (sought p) ] ≡ sought (elim e as (λ _. Pass) [ true ↦ p | false ↦ elim b as (λ _. Pass) [ true ↦ open_all (visit m) (children s) p | false ↦ p ] ])
    go true b h = refl
    go false true h = through_sought m h (children s) p
    go false false h = refl

through_surveyed : (m : ℕ) → ((s : Cell) (e : Extremes) → walk m s (surveyed e) ≡ surveyed (extremes m s e)) → (ss : List Cell) (e : Extremes) → through (walk m) ss (surveyed e) ≡ surveyed (with_all (extremes m) ss e)
through_surveyed m h [] e = refl
through_surveyed m h (s ∷ ss) e = ap (through (walk m) ss) (h s e) ∙ through_surveyed m h ss (extremes m s e)

pub walk_surveyed : (m : ℕ) (s : Cell) (e : Extremes) → walk m s (surveyed e) ≡ surveyed (extremes m s e)
unfolding walk extremes
walk_surveyed zero s e = refl
walk_surveyed (suc m) s e = through_surveyed m (walk_surveyed m) (children s) e

-- ---- how many cells are counted
abbrev pub opened : Notes → ℕ
opened (sought p) = p.count
opened (surveyed e) = 0

-- ---- the branches
pub walk_last : (m : ℕ) (s : Cell) (n : Notes) → m ≡ 0 → noted s n ≡ walk m s n
unfolding walk
walk_last m s n e = ap (λ (k : ℕ). walk k s n) (sym e)

pub walk_by : (m : ℕ) (s : Cell) (n : Notes) (b : Bool) → stops s n ≡ b → elim b as (λ _. Notes) [ true ↦ n | false ↦ through (walk m) (children s) n ] ≡ walk (suc m) s n
unfolding walk
walk_by m s n b e = sym (ap (λ (t : Bool). elim t as (λ _. Notes) [ true ↦ n | false ↦ through (walk m) (children s) n ]) e)
