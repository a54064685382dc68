-- The numbers of a run by their places. Assumes nothing.
use Rattle.std.proofs.Common.{◌≡◌, refl, ◌∙◌, ap, arith, List, ℕ, zero, suc, ◌+◌, ◌*◌, ◌<◌, get_or, length, take, drop, drop-drop}
use Rattle.lot_format.specs.Numbers.{number, unsigneds}

pub get_d_unsigneds : (n k : ℕ) (bs : List ℕ) → k < n → get_or (unsigneds n bs) k 0 ≡ number (take 4 (drop (4 * k) bs))
get_d_unsigneds zero k bs h = absurd (omega arith)
get_d_unsigneds (suc n) zero bs h = refl
get_d_unsigneds (suc n) (suc k) bs h = let e : 4 + 4 * k ≡ 4 * suc k = omega arith in get_d_unsigneds n k (drop 4 bs) (omega arith) ∙ ap (λ (l : List ℕ). number (take 4 l)) (drop-drop (4 * k) 4 bs ∙ ap (λ (i : ℕ). drop i bs) e)

pub length_unsigneds : (n : ℕ) (bs : List ℕ) → length (unsigneds n bs) ≡ n
length_unsigneds zero bs = refl
length_unsigneds (suc n) bs = ap suc (length_unsigneds n (drop 4 bs))
