-- `tested` meets its contract: test by test, those before it passed. Assumes nothing.
use mathlib.Core.Path.{◌≡◌, sym, ◌∙◌, ap}
use mathlib.Core.Bool.{true, false}
use Prim.Native.Nat.{ℕ, suc, ◌/◌, ◌%◌, ◌<◌, ◌≤◌}
use native.Mathlib.Omega.{arith}
use borrow.Author.Tests.{eq-eqb, ne_eqb, le-leb, lt-leb}
use lib.ListN.{length}
use Rattle.std.proofs.Common.{Err}
use Rattle.std.proofs.Math.Option.{some}
use Rattle.std.proofs.lemmas.Result.{err_from_is_err_and}
use Rattle.lot_format.specs.Format.{lot_file, written}
use Rattle.lot_format.specs.Runs.{Runs, lot_from}
use Rattle.lot_format.specs.Groups.{fit_together}
use Rattle.lot_format.specs.Writing.{writing}
use Rattle.lot_roundtrip_theory.specs.Lengths.{runs_length, length_runs}
use Rattle.lot_roundtrip_theory.specs.Tests.{PassedUpTo, together_parts, test, none_tested, one_more, first_unwritten, all_written}
use Rattle.lot_runs.specs.declared.Lot.{Lot}
use Rattle.lot_runs.specs.Meaning.{lot_held}
use Rattle.lot_groups.specs.declared.GroupFault.{GroupFault}
use Rattle.lot_groups.specs.declared.GroupFault.TheVariants.{Apart, NameTooLong, BadByte}
use Rattle.lot_groups.specs.Meaning.{first_fault, fault_told}
use Rattle.lot_groups.specs.Answers.{told_by}
use Rattle.lot_writer.specs.Meaning.{length_is, refuses, unwritable_of, unwritable_held, written_held, answer_of, capped}
use Rattle.lot_writer.proofs.tested.Goals as goal

-- ---- the tests of what is handed in; those before the n-th passed
module _ (x : Runs) (room : ℕ) where
  abbrev Passed : ℕ → Type 0
  Passed n = PassedUpTo lot_file x room n

  abbrev Passes : ℕ → Type 0
  Passes n = (test lot_file x room n).passed ≡ true

  passes : (n : ℕ) → n < 8 → Passed n → Passes n → Passed (suc n)
  passes n h p e = one_more lot_file x room n h p e

  fails : (n : ℕ) → n < 8 → Passed n → (test lot_file x room n).passed ≡ false → refuses (test lot_file x room n).otherwise ≡ answer_of (writing lot_file x room)
  fails n h p e = sym (ap answer_of (first_unwritten lot_file x room n h p e))

  after0 : Passed 0
  after0 = none_tested lot_file x room

  after1 : length x.nodes % 3 ≡ 0 → Passed 1
  after1 a = passes 0 (omega arith) after0 (eq-eqb _ _ a)

  after2 : length x.nodes % 3 ≡ 0 → length x.elements % 8 ≡ 0 → Passed 2
  after2 a b = passes 1 (omega arith) (after1 a) (eq-eqb _ _ b)

  after3 : length x.nodes % 3 ≡ 0 → length x.elements % 8 ≡ 0 → Passes 2 → Passed 3
  after3 a b t = passes 2 (omega arith) (after2 a b) t

  after4 : length x.nodes % 3 ≡ 0 → length x.elements % 8 ≡ 0 → Passes 2 → Passes 3 → Passed 4
  after4 a b t s = passes 3 (omega arith) (after3 a b t) s

  after5 : length x.nodes % 3 ≡ 0 → length x.elements % 8 ≡ 0 → Passes 2 → Passes 3 → Passes 4 → Passed 5
  after5 a b t s k = passes 4 (omega arith) (after4 a b t s) k

  after6 : length x.nodes % 3 ≡ 0 → length x.elements % 8 ≡ 0 → Passes 2 → Passes 3 → Passes 4 → length x.elements / 8 ≤ lot_file.elements → Passed 6
  after6 a b t s k f = passes 5 (omega arith) (after5 a b t s k) (le-leb _ _ f)

-- a fault of the label or the groups is what the writer refuses
refused : (lot : Lot) (room : ℕ) → length (lot_held lot).nodes % 3 ≡ 0 → length (lot_held lot).elements % 8 ≡ 0 → (f : GroupFault)
    → some f ≡ first_fault lot.label.now lot.groups (length lot.elements.now / 8) → refuses (unwritable_held (unwritable_of f)) ≡ answer_of (writing lot_file (lot_held lot) room)
refused lot room a b Apart h =
    let t = told_by lot.label.now lot.groups (length lot.elements.now / 8) _ h in
    fails (lot_held lot) room 2 (omega arith) (after2 (lot_held lot) room a b) t
refused lot room a b NameTooLong h =
    let t = told_by lot.label.now lot.groups (length lot.elements.now / 8) _ h in
    fails (lot_held lot) room 3 (omega arith) (after3 (lot_held lot) room a b t.0) t.1
refused lot room a b BadByte h =
    let t = told_by lot.label.now lot.groups (length lot.elements.now / 8) _ h in
    fails (lot_held lot) room 4 (omega arith) (after4 (lot_held lot) room a b t.0 t.1) t.2

-- the length of the file, and what is had of it from its counts
abbrev size : Runs → ℕ
size x = length (written (lot_from x))

long : (x : Runs) → length x.nodes % 3 ≡ 0 → length x.elements % 8 ≡ 0 → fit_together x.lengths x.offsets (length x.names) (length x.elements / 8) ≡ true → size x ≡ runs_length x
long x a b t = let fit = together_parts x.lengths x.offsets (length x.names) (length x.elements / 8) t in length_runs x a b (fit.0, fit.1) fit.2

-- ---- the needs
pub returns-then-lot-ne0 : goal.returns-then-lot-ne0
returns-then-lot-ne0 c =
    let x = lot_held c.args.lot in
    let room = c.args.room in
    fails x room 0 (omega arith) (after0 x room) (ne_eqb _ _ c.if-lot-ne0.true)

pub returns-then-lot-ne0-2 : goal.returns-then-lot-ne0-2
returns-then-lot-ne0-2 c =
    let x = lot_held c.args.lot in
    let room = c.args.room in
    fails x room 1 (omega arith) (after1 x room c.if-lot-ne0.false) (ne_eqb _ _ c.if-lot-ne0-2.true)

pub returns-in_err-check : goal.returns-in_err-check
returns-in_err-check c =
    let p = err_from_is_err_and c.from_residual.result c.from_residual.ensures.1 in
    ap written_held (p.1 ∙ ap Err p.2) ∙ refused c.args.lot c.args.room c.if-lot-ne0.false c.if-lot-ne0-2.false _ (sym (ap fault_told c.in_err-check.was) ∙ c.check.ensures)

pub returns-then-elements-gt-MAX_ELEMENTS : goal.returns-then-elements-gt-MAX_ELEMENTS
returns-then-elements-gt-MAX_ELEMENTS c =
    let x = lot_held c.args.lot in
    let room = c.args.room in
    let p = told_by c.args.lot.label.now c.args.lot.groups (length c.args.lot.elements.now / 8) _ (sym (ap fault_told c.in_ok-check.was) ∙ c.check.ensures) in
    let t = p.0 in
    let s = p.1 in
    let k = p.2 in
    fails x room 5 (omega arith) (after5 x room c.if-lot-ne0.false c.if-lot-ne0-2.false t s k) (lt-leb _ _ c.if-elements-gt-MAX_ELEMENTS.true)

pub returns-then-n-gt-MAX_BYTES : goal.returns-then-n-gt-MAX_BYTES
returns-then-n-gt-MAX_BYTES c =
    let x = lot_held c.args.lot in
    let room = c.args.room in
    let p = told_by c.args.lot.label.now c.args.lot.groups (length c.args.lot.elements.now / 8) _ (sym (ap fault_told c.in_ok-check.was) ∙ c.check.ensures) in
    let t = p.0 in
    let s = p.1 in
    let k = p.2 in
    let counted : c.file_length-n.result ≡ capped (size x) = c.file_length-n.ensures ∙ ap capped (sym (long x c.if-lot-ne0.false c.if-lot-ne0-2.false t)) in
    fails x room 6 (omega arith) (after6 x room c.if-lot-ne0.false c.if-lot-ne0-2.false t s k c.if-elements-gt-MAX_ELEMENTS.false) (lt-leb (size x) lot_file.bytes (omega (arith, counted, c.if-n-gt-MAX_BYTES.true)))

pub returns-then-room-n : goal.returns-then-room-n
returns-then-room-n c =
    let x = lot_held c.args.lot in
    let room = c.args.room in
    let p = told_by c.args.lot.label.now c.args.lot.groups (length c.args.lot.elements.now / 8) _ (sym (ap fault_told c.in_ok-check.was) ∙ c.check.ensures) in
    let t = p.0 in
    let s = p.1 in
    let k = p.2 in
    let counted : c.file_length-n.result ≡ capped (size x) = c.file_length-n.ensures ∙ ap capped (sym (long x c.if-lot-ne0.false c.if-lot-ne0-2.false t)) in
    let all = passes x room 6 (omega arith) (after6 x room c.if-lot-ne0.false c.if-lot-ne0-2.false t s k c.if-elements-gt-MAX_ELEMENTS.false) (le-leb (size x) lot_file.bytes (omega (arith, counted, c.if-n-gt-MAX_BYTES.false))) in
    fails x room 7 (omega arith) all (lt-leb (size x) room (omega (arith, counted, c.if-n-gt-MAX_BYTES.false, c.if-room-n.true)))

pub returns : goal.returns
returns c =
    let x = lot_held c.args.lot in
    let room = c.args.room in
    let p = told_by c.args.lot.label.now c.args.lot.groups (length c.args.lot.elements.now / 8) _ (sym (ap fault_told c.in_ok-check.was) ∙ c.check.ensures) in
    let t = p.0 in
    let s = p.1 in
    let k = p.2 in
    let counted : c.file_length-n.result ≡ capped (size x) = c.file_length-n.ensures ∙ ap capped (sym (long x c.if-lot-ne0.false c.if-lot-ne0-2.false t)) in
    let all = passes x room 6 (omega arith) (after6 x room c.if-lot-ne0.false c.if-lot-ne0-2.false t s k c.if-elements-gt-MAX_ELEMENTS.false) (le-leb (size x) lot_file.bytes (omega (arith, counted, c.if-n-gt-MAX_BYTES.false))) in
    let same : c.file_length-n.result ≡ size x = omega (arith, counted, c.if-n-gt-MAX_BYTES.false) in
    let whole = passes x room 7 (omega arith) all (le-leb (size x) room (omega (arith, same, c.if-room-n.false))) in
    ap length_is same ∙ sym (ap answer_of (all_written lot_file x room whole))
