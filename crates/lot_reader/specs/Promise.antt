-- What `lot_reader::read` hands out is what the file holds: a file whose number is 0 is the writing-out of the label that is handed back and of the words that are filled.
use Rattle.std.specs.Prelude.{◌≡◌, ℕ, ◌*◌, take, drop}
use Rattle.std.proofs.Math.Path.{sym}
use Rattle.std.proofs.Common.{◌∙◌, ap, ap₂, arith}
use mathlib.Core.List.{List}
use Rattle.std.proofs.Math.ListN.{get_or, length, length-map}
use Rattle.std.proofs.Math.Seq.{take-append_seam}
use Rattle.foundation.specs.Lists.{All}
use Rattle.foundation.specs.Laid.{laid_over}
use Rattle.lot_format.specs.Numbers.{Byte}
use Rattle.lot_format.specs.Format.{lot_file, Lot, Group, written}
use Rattle.lot_format.specs.Runs.{Runs, runs_of, lot_from}
use Rattle.lot_format.specs.Reading.{Reading, readable, read_lot, read_into, lot_of, handed_out, reading_numbers}
use Rattle.lot_format.specs.RunLaws.{lot_back, same_runs}
use Rattle.lot_format.specs.Numbered.{zero_accepted}
use Rattle.lot_format.proofs.Accepted.{reading_accepted, accepted_lawful, accepted_written}

-- the reading into lent runs; a label is not lent
abbrev pub read_over : List ℕ → Runs → Reading
read_over file lent = read_into lot_file file lent.nodes lent.elements lent.names lent.lengths lent.offsets

-- what `read` ensures of the label, the lent runs and the answer
pub record Read (file : List ℕ) (lent now : Runs) (answer : List ℕ) : Type 0 where
  pub label_is : now.label ≡ (handed_out (read_over file lent)).label
  pub nodes_are : now.nodes ≡ laid_over (handed_out (read_over file lent)).nodes lent.nodes
  pub elements_are : now.elements ≡ laid_over (handed_out (read_over file lent)).elements lent.elements
  pub names_are : now.names ≡ laid_over (handed_out (read_over file lent)).names lent.names
  pub lengths_are : now.lengths ≡ laid_over (handed_out (read_over file lent)).lengths lent.lengths
  pub offsets_are : now.offsets ≡ laid_over (handed_out (read_over file lent)).offsets lent.offsets
  pub answer_is : answer ≡ reading_numbers (read_over file lent)

-- the words that the answer counts
abbrev pub as_read : Runs → List ℕ → Runs
as_read now answer = record {
  label = now.label;
  nodes = take (3 * get_or answer 1 0) now.nodes;
  elements = take (8 * get_or answer 2 0) now.elements;
  names = take (get_or answer 4 0) now.names;
  lengths = take (get_or answer 3 0) now.lengths;
  offsets = take (get_or answer 3 0) now.offsets;
}

-- the start of a list that a run was laid over
part_is : {A : Type 0} (n : ℕ) (xs space now : List A) → now ≡ laid_over xs space → n ≡ length xs → take n now ≡ xs
part_is n xs space now e l = ap₂ (λ (k : ℕ) s. take k s) l e ∙ take-append_seam xs (drop (length xs) space)

module _ (file : List ℕ) (lent now : Runs) (answer : List ℕ) (h : All Byte file) (x : Read file lent now answer) (e : get_or answer 0 0 ≡ 0) where
  abbrev pub out : Lot
  out = lot_of (read_over file lent)

  pub read_accepted : read_lot lot_file file ≡ readable out
  unfolding reading_numbers
  read_accepted = (reading_accepted lot_file file _ out (zero_accepted (read_over file lent) (sym (ap (λ (l : List ℕ). get_or l 0 0) x.answer_is) ∙ e))).0

  -- the answer's words, by number
  word : (k : ℕ) → get_or answer k 0 ≡ get_or (reading_numbers (read_over file lent)) k 0
  word k = ap (λ (l : List ℕ). get_or l k 0) x.answer_is

  pub read_runs : as_read now answer ≡ runs_of out
  unfolding reading_numbers
  read_runs =
      let lawful = accepted_lawful lot_file file out h read_accepted in
      let gs = out.groups in
      let nodes : 3 * get_or answer 1 0 ≡ length out.nodes = omega (arith, word 1, lawful.nodes.threes) in
      let elements : 8 * get_or answer 2 0 ≡ length out.elements = omega (arith, word 2, lawful.elements.eights) in
      let offsets : get_or answer 3 0 ≡ length (runs_of out).offsets = word 3 ∙ length-map gs (λ (g : Group). length g.name) ∙ sym (length-map gs (λ (g : Group). g.offset)) in
      same_runs x.label_is
      (part_is _ out.nodes lent.nodes now.nodes x.nodes_are nodes)
      (part_is _ out.elements lent.elements now.elements x.elements_are elements)
      (part_is _ (runs_of out).names lent.names now.names x.names_are (word 4))
      (part_is _ (runs_of out).lengths lent.lengths now.lengths x.lengths_are (word 3))
      (part_is _ (runs_of out).offsets lent.offsets now.offsets x.offsets_are offsets)

  pub read_as_written : file ≡ written (lot_from (as_read now answer))
  read_as_written = accepted_written lot_file file out h read_accepted ∙ ap written (sym (lot_back out) ∙ ap lot_from (sym read_runs))
