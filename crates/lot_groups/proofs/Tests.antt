-- Tests of each number of a list. Assumes nothing.
use Rattle.std.proofs.Common.{◌≡◌, refl, ap, Bool, ◌&&◌, List, [], ◌∷◌, ℕ, leb}
use Rattle.std.specs.List.{list_all}
use Rattle.lot_format.specs.Groups.{all_up_to}

-- lengths, tested one by one
pub all_tested : (n : ℕ) (xs : List ℕ) → list_all (λ x. leb x n) xs ≡ all_up_to n xs
all_tested n [] = refl
all_tested n (x ∷ xs) = ap (λ (t : Bool). leb x n && t) (all_tested n xs)
