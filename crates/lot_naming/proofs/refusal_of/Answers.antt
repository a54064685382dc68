-- `refusal_of` meets its contract: test by test, those before it passed. Assumes nothing.
use Rattle.std.proofs.Common.{◌≡◌, sym, ◌∙◌, ap, lt-ltb, le-ltb, List, ℕ, Err}
use Rattle.std.proofs.Math.Option.{some}
use Rattle.std.proofs.lemmas.Result.{err_from_is_err_and}
use Rattle.lot_format.specs.Format.{lot_file}
use Rattle.lot_runs.specs.declared.Groups.{Groups}
use Rattle.lot_groups.specs.declared.GroupFault.{GroupFault}
use Rattle.lot_groups.specs.declared.GroupFault.TheVariants.{Apart, NameTooLong, BadByte}
use Rattle.lot_groups.specs.Meaning.{first_fault, fault_told}
use Rattle.lot_groups.specs.Answers.{told_by}
use Rattle.lot_naming.specs.Meaning.{unnamed_of, unnamed_held, naming_of, refusal_in, refusal_told}
use Rattle.lot_naming.specs.Answers.{are_apart, are_long, are_wrong, is_none, is_named}
use Rattle.lot_naming.proofs.refusal_of.Goals as goal

-- a fault of the label or the groups is what the namer refuses
refused : (label : List ℕ) (g : Groups) (elements e : ℕ) (f : GroupFault) → some f ≡ first_fault label g elements → some (unnamed_held (unnamed_of f)) ≡ refusal_in (naming_of lot_file label g elements e)
refused label g elements e Apart h = let t = told_by label g elements _ h in sym (ap refusal_in (are_apart _ _ _ _ _ _ e t))
refused label g elements e NameTooLong h = let t = told_by label g elements _ h in sym (ap refusal_in (are_long _ _ _ _ _ _ e t.0 t.1))
refused label g elements e BadByte h = let t = told_by label g elements _ h in sym (ap refusal_in (are_wrong _ _ _ _ _ _ e t.0 t.1 t.2))

pub returns-in_err-check : goal.returns-in_err-check
returns-in_err-check c =
    let p = err_from_is_err_and c.from_residual.result c.from_residual.ensures.1 in
    ap refusal_told (p.1 ∙ ap Err p.2) ∙ refused c.args.label.now c.args.groups c.args.elements c.args.element _ (sym (ap fault_told c.in_err-check.was) ∙ c.check.ensures)

pub returns-then-elements-element : goal.returns-then-elements-element
returns-then-elements-element c =
    let t = told_by c.args.label.now c.args.groups c.args.elements _ (sym (ap fault_told c.in_ok-check.was) ∙ c.check.ensures) in
    sym (ap refusal_in (is_none _ _ _ _ _ _ _ t.0 t.1 t.2 (le-ltb _ _ c.if-elements-element.true)))

pub returns : goal.returns
returns c =
    let t = told_by c.args.label.now c.args.groups c.args.elements _ (sym (ap fault_told c.in_ok-check.was) ∙ c.check.ensures) in
    sym (ap refusal_in (is_named _ _ _ _ _ _ _ t.0 t.1 t.2 (lt-ltb _ _ c.if-elements-element.false)))
