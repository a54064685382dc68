-- `known_at` meets its contract: each return has the tests that led to it. Assumes nothing.
use Rattle.std.proofs.Common.{◌≡◌, true, sym, ◌∙◌, subst, ℕ}
use Rattle.lot_format.specs.Format.{lot_file, right_length}
use Rattle.lot_format.specs.Steps.{known_out, known_length, known_body}
use Rattle.lot_marks.specs.Meaning.{mark_held}
use Rattle.lot_entry_reader.proofs.known_at.Goals as goal

pub returns-then-not-in_place-clause-result_value : goal.returns-then-not-in_place-clause-result_value
returns-then-not-in_place-clause-result_value c = sym (known_out lot_file _ _ _ _ (sym c.in_place.ensures ∙ c.if-not-in_place.true))

pub returns-then-not-right-clause-result_value : goal.returns-then-not-right-clause-result_value
returns-then-not-right-clause-result_value c =
    let placed = sym c.in_place.ensures ∙ c.if-not-in_place.false in
    let wrong = sym c.right_length-right.ensures ∙ c.if-not-right.true in
    sym (known_length lot_file _ _ _ _ placed c.length_at-len.ensures.0 wrong)

pub returns-clause-result_value : goal.returns-clause-result_value
returns-clause-result_value c =
    let placed = sym c.in_place.ensures ∙ c.if-not-in_place.false in
    let len = c.body_length.ensures in
    let right = subst (λ (n : ℕ). right_length lot_file (mark_held c.args.mark) n ≡ true) (sym len) (sym c.right_length-right.ensures ∙ c.if-not-right.false) in
    c.body_at.ensures.result_value ∙ sym (known_body lot_file _ _ _ _ placed (len ∙ c.length_at-len.ensures.0) right)
