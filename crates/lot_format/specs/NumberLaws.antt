-- Bytes and the numbers that they stand for: each is had from the other.
use Rattle.std.specs.Prelude.{◌≡◌, refl, Bool, true, false, List, [], ◌∷◌, ◌++◌, map, ℕ, zero, suc, ◌+◌, ◌-◌, ◌*◌, ◌/◌, ◌%◌, ◌^◌, ◌<◌, ◌≤◌, ltb, get_or, length, take, drop, pos, negsuc}
use Rattle.std.proofs.Common.{sym, ◌∙◌, ap, ap₂, pow-suc, arith, length-take, length-drop, take-append-drop, length-take-le, drop-cons, ltb-true, ltb-false}
use Rattle.std.specs.Int.Signed.{mag}
use Rattle.foundation.specs.Lists.{All, all_left, all_right, all_map, all_image, get_d_all}
use Rattle.lot_format.specs.Numbers.{Byte, number, number_bytes, signed, bits, unsigneds, signeds, unsigned_bytes, signed_bytes}

pub bytes_take : (n : ℕ) (bs : List ℕ) → All Byte bs → All Byte (take n bs)
bytes_take n bs h = all_left Byte (take n bs) (drop n bs) (rw take-append-drop h)

pub bytes_drop : (n : ℕ) (bs : List ℕ) → All Byte bs → All Byte (drop n bs)
bytes_drop n bs h = all_right Byte (take n bs) (drop n bs) (rw take-append-drop h)

pub bytes_by_place : (bs : List ℕ) → ((i : ℕ) → Byte (get_or bs i 0)) → All Byte bs
bytes_by_place bs h = get_d_all Byte bs 0 (λ i l. h i)

-- ---- one number
pub number_bytes_number : (bs : List ℕ) → All Byte bs → number_bytes (length bs) (number bs) ≡ bs
number_bytes_number [] h = refl
number_bytes_number (b ∷ bs) h = let x = b + 256 * number bs in
    let low : x % 256 ≡ b = omega (arith, h.0) in
    let high : x / 256 ≡ number bs = omega (arith, h.0) in
    ap₂ ◌∷◌ low (ap (number_bytes (length bs)) high ∙ number_bytes_number bs h.1)

pub number_small : (n : ℕ) (bs : List ℕ) → All Byte bs → length bs ≤ n → number bs < 256 ^ n
number_small zero [] h l = omega arith
number_small zero (b ∷ bs) h l = absurd (omega arith)
number_small (suc n) [] h l = omega (arith, pow-suc 256 n, number_small n [] tt (omega arith))
number_small (suc n) (b ∷ bs) h l = omega (arith, pow-suc 256 n, number_small n bs h.1 (omega arith), h.0)

-- ---- two bytes and four at a place
drop_two : (xs : List ℕ) (at : ℕ) → at + 2 ≤ length xs → drop at xs ≡ get_or xs at 0 ∷ get_or xs (at + 1) 0 ∷ drop (at + 2) xs
drop_two xs at h =
    let one : at + 1 ≡ suc at = omega arith in
    let two : at + 2 ≡ suc (suc at) = omega arith in
    drop-cons xs at 0 (omega arith) ∙ ap (λ (l : List ℕ). get_or xs at 0 ∷ l) (drop-cons xs (suc at) 0 (omega arith) ∙ rw (one, two))

pub number_two : (xs : List ℕ) (at : ℕ) → at + 2 ≤ length xs → number (take 2 (drop at xs)) ≡ get_or xs at 0 + 256 * get_or xs (at + 1) 0
number_two xs at h = ap (λ (l : List ℕ). number (take 2 l)) (drop_two xs at h) ∙ omega arith

pub number_four : (xs : List ℕ) (at : ℕ) → at + 4 ≤ length xs → number (take 4 (drop at xs)) ≡ number (take 2 (drop at xs)) + 65536 * number (take 2 (drop (at + 2) xs))
number_four xs at h =
    let e : at + 2 + 2 ≡ at + 4 = omega arith in
    let first = drop_two xs at (omega arith) in
    let second = drop_two xs (at + 2) (omega arith) in
    ap (λ (l : List ℕ). number (take 4 l)) (first ∙ ap (λ (l : List ℕ). get_or xs at 0 ∷ get_or xs (at + 1) 0 ∷ l) second)
    ∙ omega (arith, number_two xs at (omega arith), number_two xs (at + 2) (omega arith))

-- ---- signed numbers of 32 bits
pub bits_signed : (x : ℕ) → x < 2 ^ 32 → bits (signed x) ≡ x
unfolding signed
bits_signed x h = go (ltb x (2 ^ 31))
  where
    go : (t : Bool) → bits (elim t [ true ↦ pos x | false ↦ negsuc (2 ^ 32 - 1 - x) ]) ≡ x
    go true = refl
    go false = omega arith

pub signed_small : (x : ℕ) → x < 2 ^ 32 → mag (signed x) < 2 ^ 31
unfolding signed
signed_small x h = go (ltb x (2 ^ 31)) refl
  where
    go : (t : Bool) → ltb x (2 ^ 31) ≡ t → mag (elim t [ true ↦ pos x | false ↦ negsuc (2 ^ 32 - 1 - x) ]) < 2 ^ 31
    go true e = ltb-true x (2 ^ 31) e
    go false e = omega (arith, ltb-false x (2 ^ 31) e)

-- ---- many numbers
pub word_small : (bs : List ℕ) → All Byte bs → number (take 4 bs) < 2 ^ 32
word_small bs h = number_small 4 (take 4 bs) (bytes_take 4 bs h) (simp length-take (omega arith))

pub unsigneds_small : (n : ℕ) (bs : List ℕ) → All Byte bs → All (λ x. x < 2 ^ 32) (unsigneds n bs)
unsigneds_small zero bs h = tt
unsigneds_small (suc n) bs h = (word_small bs h, unsigneds_small n (drop 4 bs) (bytes_drop 4 bs h))

pub signeds_small : (n : ℕ) (bs : List ℕ) → All Byte bs → All (λ z. mag z < 2 ^ 31) (signeds n bs)
signeds_small n bs h = all_image (λ z. mag z < 2 ^ 31) signed (unsigneds n bs) (all_map (λ x. x < 2 ^ 32) (λ x. mag (signed x) < 2 ^ 31) signed_small (unsigneds n bs) (unsigneds_small n bs h))

word_bytes : (bs : List ℕ) → All Byte bs → 4 ≤ length bs → number_bytes 4 (number (take 4 bs)) ≡ take 4 bs
word_bytes bs h l = ap (λ n. number_bytes n (number (take 4 bs))) (sym (length-take-le 4 bs l)) ∙ number_bytes_number (take 4 bs) (bytes_take 4 bs h)

pub unsigned_bytes_unsigneds : (n : ℕ) (bs : List ℕ) → All Byte bs → length bs ≡ 4 * n → unsigned_bytes (unsigneds n bs) ≡ bs
unsigned_bytes_unsigneds zero [] h l = refl
unsigned_bytes_unsigneds zero (b ∷ bs) h l = absurd (omega arith)
unsigned_bytes_unsigneds (suc n) bs h l = ap₂ ◌++◌ (word_bytes bs h (omega arith)) (unsigned_bytes_unsigneds n (drop 4 bs) (bytes_drop 4 bs h) (simp length-drop (omega arith))) ∙ take-append-drop 4 bs

bits_back : (xs : List ℕ) → All (λ x. x < 2 ^ 32) xs → map bits (map signed xs) ≡ xs
bits_back [] h = refl
bits_back (x ∷ xs) h = ap₂ ◌∷◌ (bits_signed x h.0) (bits_back xs h.1)

pub signed_bytes_signeds : (n : ℕ) (bs : List ℕ) → All Byte bs → length bs ≡ 4 * n → signed_bytes (signeds n bs) ≡ bs
signed_bytes_signeds n bs h l = ap unsigned_bytes (bits_back (unsigneds n bs) (unsigneds_small n bs h)) ∙ unsigned_bytes_unsigneds n bs h l
