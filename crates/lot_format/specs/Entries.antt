-- What it means that a whole entry stands first in the bytes that are left: each test was passed, and the bytes begin with its writing-out.
use Rattle.std.specs.Prelude.{◌≡◌, Bool, true, false, ◌&&◌, List, [], ◌∷◌, ◌++◌, ℕ, ◌+◌, ◌≤◌, T, eqb, ltb, get_or, take, drop}
use Rattle.std.proofs.Math.Path.{refl}
use Rattle.std.proofs.Common.{sym, ◌∙◌, ap₂, subst, append_assoc, arith, eqb→eq, take-append-drop, length-take-le, drop-drop}
use Rattle.std.proofs.Math.Option.{Option, none, some}
use Rattle.std.specs.Float.Ieee.Fits.{and_l, and_r}
use Rattle.std.proofs.Math.ListN.{length, length-drop}
use borrow.Author.Tests.{ltb-false}
use Rattle.foundation.specs.Lists.{All}
use Rattle.lot_format.specs.Numbers.{Byte, number, number_bytes}
use Rattle.lot_format.specs.Format.{FileLimits, Mark, LB, ND, HX, GR, EN, letters, is_mark, mark_of, right_length, Stage, in_place, entry_bytes}
use Rattle.lot_format.specs.Reading.{Unreadable, cut_short, unknown_mark, wrong_length, out_of_place, body_fault, Entry, faulty_entry, whole_entry, body_of, known_of, entry_of}
use Rattle.lot_format.specs.NumberLaws.{bytes_take, bytes_drop, number_bytes_number}

-- ---- the two letters of a mark
letters_two : (m : Mark) → letters m ≡ get_or (letters m) 0 0 ∷ get_or (letters m) 1 0 ∷ []
letters_two LB = refl
letters_two ND = refl
letters_two HX = refl
letters_two GR = refl
letters_two EN = refl

module _ (a b : ℕ) where
  same_two : (x y : ℕ) → (eqb a x && eqb b y) ≡ true → x ∷ y ∷ [] ≡ a ∷ b ∷ []
  same_two x y e = let t : T (eqb a x && eqb b y) = subst T (sym e) tt in
      sym (ap₂ (λ x y. x ∷ y ∷ []) (eqb→eq a x (and_l (eqb a x) (eqb b y) t)) (eqb→eq b y (and_r (eqb a x) (eqb b y) t)))

  is_letters : (m : Mark) → is_mark m a b ≡ true → letters m ≡ a ∷ b ∷ []
  is_letters m e = letters_two m ∙ same_two (get_or (letters m) 0 0) (get_or (letters m) 1 0) e

  tested : (m k : Mark) (o : Option Mark) → (o ≡ some m → letters m ≡ a ∷ b ∷ []) → ◌≡◌ {A = Option Mark} (elim (is_mark k a b) [ true ↦ some k | false ↦ o ]) (some m) → letters m ≡ a ∷ b ∷ []
  tested m k o f e = go (is_mark k a b) refl e
    where
      go : (t : Bool) → is_mark k a b ≡ t → ◌≡◌ {A = Option Mark} (elim t [ true ↦ some k | false ↦ o ]) (some m) → letters m ≡ a ∷ b ∷ []
      go true p e = let q : k ≡ m = cc in subst (λ m. letters m ≡ a ∷ b ∷ []) q (is_letters k p)
      go false p e = f e

  pub mark_letters : (m : Mark) → mark_of a b ≡ some m → letters m ≡ a ∷ b ∷ []
  unfolding mark_of
  mark_letters m e = tested m LB _ (tested m ND _ (tested m HX _ (tested m GR _ (tested m EN none (λ e. cc))))) e

-- ---- a whole entry stands first exactly where each test was passed
module _ {m : Mark} {body : List ℕ} where
  not_faulty : {X : Type 0} (r : Unreadable) → faulty_entry r ≡ whole_entry m body → X
  not_faulty r e = let z : ◌≡◌ {A = ℕ} 0 1 = cc in absurd (omega arith)

  failed : (t : Bool) (r : Unreadable) (e : Entry) → elim t [ true ↦ faulty_entry r | false ↦ e ] ≡ whole_entry m body → (t ≡ false) × (e ≡ whole_entry m body)
  failed true r e p = not_faulty r p
  failed false r e p = (refl, p)

  passed : (t : Bool) (r : Unreadable) (e : Entry) → elim t [ false ↦ faulty_entry r | true ↦ e ] ≡ whole_entry m body → (t ≡ true) × (e ≡ whole_entry m body)
  passed true r e p = (refl, p)
  passed false r e p = not_faulty r p

  found : {A : Type 0} (o : Option A) (r : Unreadable) (f : A → Entry) → elim o [ none ↦ faulty_entry r | some x ↦ f x ] ≡ whole_entry m body → (x : A) × (o ≡ some x) × (f x ≡ whole_entry m body)
  found none r f p = not_faulty r p
  found (some x) r f p = (x, refl, p)

  no_fault : (o : Option Unreadable) (e : Entry) → elim o [ some r ↦ faulty_entry r | none ↦ e ] ≡ whole_entry m body → (o ≡ none) × (e ≡ whole_entry m body)
  no_fault none e p = (refl, p)
  no_fault (some r) e p = not_faulty r p

-- all that the tests found of a whole entry
pub record IsWhole (F : FileLimits) (stage : Stage) (n : ℕ) (bytes : List ℕ) (m : Mark) (body : List ℕ) : Type 0 where
  pub mark : mark_of (get_or bytes 0 0) (get_or bytes 1 0) ≡ some m
  pub placed : in_place stage m ≡ true
  pub says : number (take 2 (drop 2 bytes)) ≡ length body
  pub right : right_length F m (length body) ≡ true
  pub fits : 4 + length body ≤ length bytes
  pub stands : take (length body) (drop 4 bytes) ≡ body
  pub clear : body_fault F m n body ≡ none

module _ {F : FileLimits} {stage : Stage} {n : ℕ} {bytes : List ℕ} {m : Mark} {body : List ℕ} where
  body_whole : (k : Mark) (long : ℕ) → 4 ≤ length bytes → number (take 2 (drop 2 bytes)) ≡ long → mark_of (get_or bytes 0 0) (get_or bytes 1 0) ≡ some k → in_place stage k ≡ true
      → right_length F k long ≡ true → body_of F k n long (drop 4 bytes) ≡ whole_entry m body → IsWhole F stage n bytes m body
  unfolding body_of
  body_whole k long four says mark placed right e =
      let room = failed (ltb (length (drop 4 bytes)) long) cut_short _ e in
      let clear = no_fault (body_fault F k n (take long (drop 4 bytes))) _ room.1 in
      let fits : long ≤ length (drop 4 bytes) = ltb-false _ _ room.0 in
      let same : long ≡ length body = cc (length-take-le long (drop 4 bytes) fits) in
      record { mark = cc; placed = cc; says = cc; right = cc; fits = omega (arith, length-drop 4 bytes); stands = cc; clear = cc }

  pub whole_is : entry_of F stage n bytes ≡ whole_entry m body → IsWhole F stage n bytes m body
  unfolding entry_of known_of
  whole_is e =
      let four = failed (ltb (length bytes) 4) cut_short _ e in
      let marked = found (mark_of (get_or bytes 0 0) (get_or bytes 1 0)) unknown_mark _ four.1 in
      let placed = passed (in_place stage marked.0) out_of_place _ marked.2 in
      let right = passed (right_length F marked.0 (number (take 2 (drop 2 bytes)))) wrong_length _ placed.1 in
      body_whole marked.0 (number (take 2 (drop 2 bytes))) (ltb-false _ _ four.0) refl marked.1 placed.0 right.0 right.1

-- ---- the bytes of a whole entry
first_four : (bytes : List ℕ) → 4 ≤ length bytes → (get_or bytes 0 0 ∷ get_or bytes 1 0 ∷ []) ++ (take 2 (drop 2 bytes) ++ drop 4 bytes) ≡ bytes
first_four [] l = absurd (omega arith)
first_four (a ∷ []) l = absurd (omega arith)
first_four (a ∷ b ∷ []) l = absurd (omega arith)
first_four (a ∷ b ∷ c ∷ []) l = absurd (omega arith)
first_four (a ∷ b ∷ c ∷ d ∷ bytes) l = refl

module _ {F : FileLimits} {stage : Stage} {n : ℕ} {bytes : List ℕ} {m : Mark} {body : List ℕ} (w : IsWhole F stage n bytes m body) where
  length_bytes : All Byte bytes → number_bytes 2 (length body) ≡ take 2 (drop 2 bytes)
  length_bytes h =
      let two : length (take 2 (drop 2 bytes)) ≡ 2 = length-take-le 2 (drop 2 bytes) (simp length-drop (omega arith)) in
      ap₂ number_bytes (sym two) (sym w.says) ∙ number_bytes_number (take 2 (drop 2 bytes)) (bytes_take 2 (drop 2 bytes) (bytes_drop 2 bytes h))

  body_rest : body ++ drop (4 + length body) bytes ≡ drop 4 bytes
  body_rest = ap₂ ◌++◌ (sym w.stands) (sym (drop-drop (length body) 4 bytes)) ∙ take-append-drop (length body) (drop 4 bytes)

  pub entry_first : All Byte bytes → bytes ≡ entry_bytes m body ++ drop (4 + length body) bytes
  entry_first h = sym (append_assoc (letters m) (number_bytes 2 (length body) ++ body) (drop (4 + length body) bytes)
      ∙ ap₂ ◌++◌ (mark_letters (get_or bytes 0 0) (get_or bytes 1 0) m w.mark) (ap₂ ◌++◌ (length_bytes h) body_rest)
      ∙ first_four bytes (omega arith))
