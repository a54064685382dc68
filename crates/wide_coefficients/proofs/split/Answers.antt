-- All twenty of either sort stand in their places.
use Rattle.std.proofs.Common.{◌≡◌, sym, ◌∙◌, ext_get_or, List, map, ℕ, length, ℤ, pos, arith}
use Rattle.std.proofs.lemmas.List.{length-map}
use Rattle.foundation.specs.Filled.{Filled}
use Rattle.foundation.specs.Lists.{get_d_image}
use Rattle.wide_coefficients.specs.Joined.{digit_at}
use Rattle.wide_coefficients.proofs.split.Goals as goal

-- numbers that are one digit of each
all_split : (f : ℤ × ℤ → ℤ) (ds : List (ℤ × ℤ)) {k : ℕ} {xs : List ℤ} → length ds ≡ 20 → k ≡ 20 → Filled (λ i. f (digit_at ds i)) 20 k xs → xs ≡ map f ds
all_split f ds {k} {xs} l e h = ext_get_or (pos 0) xs (map f ds) (h.sized ∙ sym l ∙ sym (length-map ds f))
    (λ i m. h.first i (omega (arith, h.sized)) ∙ sym (get_d_image f ds i (pos 0, pos 0) (pos 0) (omega (arith, h.sized))))

pub returns : goal.returns
returns c = record {
  upper = all_split (λ d. d.0) c.args.digits.now (omega arith) (omega arith) c.loop-k.invariant.0;
  lower = all_split (λ d. d.1) c.args.digits.now (omega arith) (omega arith) c.loop-k.invariant.1;
}
