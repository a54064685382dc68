-- An entry that is written out where it is in place is read as it was written.
use Rattle.std.specs.Prelude.{◌≡◌, refl, true, false, List, [], ◌++◌, ℕ, suc, ◌+◌, ◌/◌, ◌<◌, T, get_or, length, take, drop}
use Rattle.std.proofs.Common.{sym, ◌∙◌, ap, subst, arith, leb-true, eqb-true, length-append, drop_at}
use Rattle.std.proofs.Math.Option.{none, some}
use Rattle.std.proofs.Math.Seq.{take-append_seam}
use Rattle.lot_format.specs.Numbers.{number, number_bytes}
use Rattle.lot_format.specs.Format.{FileLimits, Lot, Mark, LB, ND, HX, GR, EN, mark_of, right_length, Stage, at_label, at_nodes, at_elements, at_end, in_place, stage_after, entry_bytes}
use Rattle.lot_format.specs.Reading.{body_fault, whole_entry, entry_of, taken, Reading, readable, has_ended, read_from}
use Rattle.lot_format.specs.Steps.{entry_known, known_body, body_right, read_whole, read_ended}
use Rattle.lot_format.specs.Enough.{enough}
use Rattle.lot_roundtrip_theory.specs.Lengths.{length_entry_bytes}
use Rattle.lot_roundtrip_theory.specs.NumbersBack.{number_number_bytes}

-- ---- the head of an entry
head_mark : (m : Mark) (body rest : List ℕ) → mark_of (get_or (entry_bytes m body ++ rest) 0 0) (get_or (entry_bytes m body ++ rest) 1 0) ≡ some m
unfolding mark_of
head_mark LB body rest = refl
head_mark ND body rest = refl
head_mark HX body rest = refl
head_mark GR body rest = refl
head_mark EN body rest = refl

head_says : (m : Mark) (body rest : List ℕ) → take 2 (drop 2 (entry_bytes m body ++ rest)) ≡ number_bytes 2 (length body)
head_says LB body rest = refl
head_says ND body rest = refl
head_says HX body rest = refl
head_says GR body rest = refl
head_says EN body rest = refl

head_rest : (m : Mark) (body rest : List ℕ) → drop 4 (entry_bytes m body ++ rest) ≡ body ++ rest
head_rest LB body rest = refl
head_rest ND body rest = refl
head_rest HX body rest = refl
head_rest GR body rest = refl
head_rest EN body rest = refl

-- a right length is a number of two bytes
right_short : (F : FileLimits) (m : Mark) (n : ℕ) → F.name < 65536 → right_length F m n ≡ true → n < 65536
right_short F LB n h e = omega (arith, leb-true n F.name e)
right_short F ND n h e = omega (arith, eqb-true n 12 e)
right_short F HX n h e = omega (arith, eqb-true n 32 e)
right_short F GR n h e = omega (arith, leb-true n F.name e)
right_short F EN n h e = omega (arith, eqb-true n 0 e)

-- what an entry has to be, where so many elements stand before it
pub record Right (F : FileLimits) (stage : Stage) (n : ℕ) (m : Mark) (body : List ℕ) : Type 0 where
  pub placed : in_place stage m ≡ true
  pub right : right_length F m (length body) ≡ true
  pub clear : body_fault F m n body ≡ none

-- an entry can only be in place before the end
before_end : (stage : Stage) (m : Mark) → in_place stage m ≡ true → has_ended stage ≡ false
before_end at_label m e = refl
before_end at_nodes m e = refl
before_end at_elements m e = refl
before_end at_end m e = absurd (subst T (sym e) tt)

-- all the bytes that are left, read
abbrev pub read_on : FileLimits → Stage → Lot → List ℕ → Reading
read_on F stage lot bytes = read_from F (suc (length bytes)) stage lot bytes

module _ (F : FileLimits) where
  module _ (name : F.name < 65536) (stage : Stage) (m : Mark) (body rest : List ℕ) where
    entry_back : {n : ℕ} → Right F stage n m body → entry_of F stage n (entry_bytes m body ++ rest) ≡ whole_entry m body
    entry_back {n} h =
        let long : length (entry_bytes m body ++ rest) ≡ 4 + length body + length rest = length-append (entry_bytes m body) rest ∙ omega (arith, length_entry_bytes m body) in
        let says : length body ≡ number (take 2 (drop 2 (entry_bytes m body ++ rest))) = sym (ap number (head_says m body rest) ∙ number_number_bytes 2 (length body) (right_short F m (length body) name h.right)) in
        let stands : take (length body) (body ++ rest) ≡ body = take-append_seam body rest in
        entry_known F stage n (entry_bytes m body ++ rest) (omega arith) (head_mark m body rest)
        ∙ known_body F stage m n (entry_bytes m body ++ rest) h.placed says h.right
        ∙ rw (head_rest m body rest) (body_right F m n (length body) (body ++ rest) (simp length-append (omega arith)) (rw stands h.clear))
        ∙ ap (whole_entry m) stands

    -- one entry, read
    pub read_entry : (lot : Lot) → Right F stage (length lot.elements / 8) m body → read_on F stage lot (entry_bytes m body ++ rest) ≡ read_on F (stage_after m) (taken m body lot) rest
    read_entry lot h =
        let head = length_entry_bytes m body in
        let long = length-append (entry_bytes m body) rest in
        read_whole F (length (entry_bytes m body ++ rest)) stage lot (entry_bytes m body ++ rest) (before_end stage m h.placed) (entry_back h)
        ∙ ap (read_from F (length (entry_bytes m body ++ rest)) (stage_after m) (taken m body lot)) (drop_at (entry_bytes m body) rest (4 + length body) head)
        ∙ enough F (length (entry_bytes m body ++ rest)) (suc (length rest)) (stage_after m) (taken m body lot) rest (omega arith) (omega arith)

  -- nothing left, after the end
  pub read_end : (lot : Lot) → read_on F at_end lot [] ≡ readable lot
  read_end lot = read_ended F 0 at_end lot [] refl
