-- `entry_at` meets its contract: by whether four bytes are left, and by the mark. Assumes nothing.
use Rattle.std.proofs.Common.{sym, ◌∙◌, ap, arith, List, ℕ, ◌-◌, ◌≤◌, length, drop, length-drop}
use Rattle.lot_format.specs.Format.{lot_file}
use Rattle.lot_format.specs.Steps.{entry_cut, entry_unknown, entry_known}
use Rattle.lot_marks.specs.Meaning.{marked_held}
use Rattle.lot_entry_reader.proofs.entry_at.Goals as goal

module _ (file : List ℕ) (at : ℕ) (h : 4 ≤ length file - at) where
  four_left : 4 ≤ length (drop at file)
  four_left = omega (arith, length-drop at file)

pub returns-then-file-at-lt4-clause-result_value : goal.returns-then-file-at-lt4-clause-result_value
returns-then-file-at-lt4-clause-result_value c = sym (entry_cut lot_file _ _ _ (omega (arith, length-drop c.args.at c.args.file.now)))

pub returns-in_default-clause-result_value : goal.returns-in_default-clause-result_value
returns-in_default-clause-result_value c =
    sym (entry_unknown lot_file _ _ _ (four_left c.args.file.now c.args.at c.if-file-at-lt4.false) (sym c.mark_at.ensures ∙ ap marked_held c.in_default.is))

pub returns-clause-result_value : goal.returns-clause-result_value
returns-clause-result_value c =
    let same = entry_known lot_file _ _ _ (four_left c.args.file.now c.args.at c.if-file-at-lt4.false) (sym c.mark_at.ensures ∙ ap marked_held c.in-Some.is) in
    c.known_at.ensures.result_value ∙ sym same
