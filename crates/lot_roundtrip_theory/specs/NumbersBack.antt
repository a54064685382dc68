-- Numbers of 32 bits are had back from their bytes.
use Rattle.std.specs.Prelude.{◌≡◌, refl, List, [], ◌∷◌, map, ℕ, zero, suc, ◌-◌, ◌/◌, ◌^◌, ◌<◌, length, ℤ, pos, negsuc}
use Rattle.std.proofs.Common.{◌∙◌, ap, ap₂, pow-suc, arith, lt-ltb, le-ltb}
use Rattle.std.proofs.lemmas.List.{length-map}
use Rattle.std.specs.Int.Signed.{mag}
use Rattle.foundation.specs.Lists.{All, all_map, all_image}
use Rattle.lot_format.specs.Numbers.{number, number_bytes, signed, bits, unsigneds, signeds, unsigned_bytes, signed_bytes}

pub number_number_bytes : (n x : ℕ) → x < 256 ^ n → number (number_bytes n x) ≡ x
number_number_bytes zero x h = omega arith
number_number_bytes (suc n) x h = omega (arith, number_number_bytes n (x / 256) (omega (arith, pow-suc 256 n)))

pub bits_small : (z : ℤ) → mag z < 2 ^ 31 → bits z < 2 ^ 32
bits_small (pos x) h = omega arith
bits_small (negsuc x) h = omega arith

pub signed_bits : (z : ℤ) → mag z < 2 ^ 31 → signed (bits z) ≡ z
unfolding signed
signed_bits (pos x) h = rw (lt-ltb x (2 ^ 31) h, signed)
signed_bits (negsuc x) h =
    let e : 2 ^ 32 - 1 - (2 ^ 32 - 1 - x) ≡ x = omega arith in
    rw (le-ltb (2 ^ 32 - 1 - x) (2 ^ 31) (omega arith), signed) (ap negsuc e)

-- ---- many numbers
pub unsigneds_back : (n : ℕ) (xs : List ℕ) → length xs ≡ n → All (λ x. x < 2 ^ 32) xs → unsigneds n (unsigned_bytes xs) ≡ xs
unsigneds_back zero [] e h = refl
unsigneds_back zero (x ∷ xs) e h = absurd (omega arith)
unsigneds_back (suc n) [] e h = absurd (omega arith)
unsigneds_back (suc n) (x ∷ xs) e h = ap₂ ◌∷◌ (number_number_bytes 4 x h.0) (unsigneds_back n xs (omega arith) h.1)

signs_back : (zs : List ℤ) → All (λ z. mag z < 2 ^ 31) zs → map signed (map bits zs) ≡ zs
signs_back [] h = refl
signs_back (z ∷ zs) h = ap₂ ◌∷◌ (signed_bits z h.0) (signs_back zs h.1)

pub signeds_back : (n : ℕ) (zs : List ℤ) → length zs ≡ n → All (λ z. mag z < 2 ^ 31) zs → signeds n (signed_bytes zs) ≡ zs
signeds_back n zs e h =
    let small = all_image (λ x. x < 2 ^ 32) bits zs (all_map (λ z. mag z < 2 ^ 31) (λ z. bits z < 2 ^ 32) bits_small zs h) in
    ap (map signed) (unsigneds_back n (map bits zs) (length-map zs bits ∙ e) small) ∙ signs_back zs h
