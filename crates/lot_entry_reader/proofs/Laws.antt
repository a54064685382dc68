-- What is left from a place on, and a name from one of its bytes on. Assumes nothing.
use mathlib.Core.Path.{◌≡◌, refl, sym, ◌∙◌, ap, ap₂}
use mathlib.Core.Bool.{Bool, true, false, ◌&&◌}
use mathlib.Core.List.{List, [], ◌∷◌}
use Rattle.std.specs.List.{list_all}
use Prim.Native.Nat.{ℕ, ◌+◌, ◌-◌, ◌/◌, ◌%◌}
use native.Mathlib.Omega.{arith}
use lib.ListN.{get_or, length, take, drop, length-drop}
use lib.Seq.{drop-drop, get_or-drop}
use Rattle.lot_format.specs.Format.{mark_of, name_byte, name_bytes}

-- the mark, and what is left, from a place on
pub mark_drop : (xs : List ℕ) (at x : ℕ) → x % 256 ≡ get_or xs at 0 → x / 256 ≡ get_or xs (at + 1) 0 → mark_of (x % 256) (x / 256) ≡ mark_of (get_or (drop at xs) 0 0) (get_or (drop at xs) 1 0)
mark_drop xs at x low high = let e : at + 0 ≡ at = omega arith in ap₂ mark_of (low ∙ sym (get_or-drop at xs 0 0 ∙ ap (λ (i : ℕ). get_or xs i 0) e)) (high ∙ sym (get_or-drop at xs 1 0))

pub length_rest : (xs : List ℕ) (at n : ℕ) → length (drop n (drop at xs)) ≡ length xs - (at + n)
length_rest xs at n = ap length (drop-drop n at xs) ∙ length-drop (at + n) xs

pub part_is_body : (xs : List ℕ) (at len : ℕ) → take (at + 4 + len - (at + 4)) (drop (at + 4) xs) ≡ take len (drop 4 (drop at xs))
part_is_body xs at len = let e : at + 4 + len - (at + 4) ≡ len = omega arith in rw (e, drop-drop 4 at xs)

-- all bytes of a name, tested one by one
pub name_bytes_all : (name : List ℕ) → list_all name_byte name ≡ name_bytes name
name_bytes_all [] = refl
name_bytes_all (b ∷ bs) = go (name_byte b) (name_bytes_all bs)
  where
    go : (t : Bool) → list_all name_byte bs ≡ name_bytes bs → (t && list_all name_byte bs) ≡ elim t [ true ↦ name_bytes bs | false ↦ false ]
    go true e = e
    go false e = refl
