-- Marks by number. Assumes nothing.
use Rattle.std.proofs.Common.{◌≡◌, refl}
use mathlib.Core.Bool.{Bool, true, false, ◌&&◌}
use mathlib.Core.Option.{none}
use Prim.Native.Nat.{ℕ, ◌+◌, ◌*◌, ◌/◌, ◌%◌}
use native.Mathlib.Omega.{arith}
use borrow.Author.Tests.{eqb-true}
use lib.Dec.{eqb}
use lib.ListN.{get_or}
use Rattle.lot_format.specs.Numbers.{number}
use Rattle.lot_format.specs.Format.{Mark, LB, ND, HX, GR, EN, letters, is_mark, mark_of}

-- a number whose low and high byte are the letters of no mark
letters_number : (m : Mark) → number (letters m) ≡ get_or (letters m) 0 0 + 256 * get_or (letters m) 1 0
letters_number LB = refl
letters_number ND = refl
letters_number HX = refl
letters_number GR = refl
letters_number EN = refl

not_mark : (x : ℕ) (m : Mark) → (x ≡ number (letters m) → ⊥) → is_mark m (x % 256) (x / 256) ≡ false
not_mark x m h = go (eqb (x % 256) (get_or (letters m) 0 0)) refl (eqb (x / 256) (get_or (letters m) 1 0)) refl
  where
    go : (s : Bool) → eqb (x % 256) (get_or (letters m) 0 0) ≡ s → (t : Bool) → eqb (x / 256) (get_or (letters m) 1 0) ≡ t → (s && t) ≡ false
    go false p t q = refl
    go true p false q = refl
    go true p true q = absurd (h (omega (arith, letters_number m, eqb-true (x % 256) _ p, eqb-true (x / 256) _ q)))

pub mark_none : (x : ℕ) → (x ≡ 17486 → ⊥) → (x ≡ 22600 → ⊥) → (x ≡ 16972 → ⊥) → (x ≡ 21063 → ⊥) → (x ≡ 20037 → ⊥) → mark_of (x % 256) (x / 256) ≡ none
unfolding mark_of
mark_none x nd hx lb gr en = rw (not_mark x LB lb, not_mark x ND nd, not_mark x HX hx, not_mark x GR gr, not_mark x EN en, mark_of)
