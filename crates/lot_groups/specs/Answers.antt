-- What an answer of the tests tells of each of them.
use Rattle.std.proofs.Math.Path.{◌≡◌, refl}
use Rattle.std.specs.Prelude.{Bool, true, false, List, ℕ, length}
use Rattle.std.proofs.Math.Option.{Option, none, some}
use Rattle.lot_format.specs.Format.{lot_file}
use Rattle.lot_format.specs.Groups.{fit_together, short_names, clean_names}
use Rattle.lot_runs.specs.declared.Groups.{Groups}
use Rattle.lot_groups.specs.declared.GroupFault.{GroupFault}
use Rattle.lot_groups.specs.declared.GroupFault.TheVariants.{Apart, NameTooLong, BadByte}
use Rattle.lot_groups.specs.Meaning.{first_fault}

-- the first of three tests that fails
abbrev pub first_of : Bool → Bool → Bool → Option GroupFault
first_of fit short clean = elim fit [ true ↦ elim short [ true ↦ elim clean [ true ↦ none | false ↦ some BadByte ] | false ↦ some NameTooLong ] | false ↦ some Apart ]

-- what a fault, or none, tells of the three tests
abbrev pub Told : Option GroupFault → Bool → Bool → Bool → Type 0
Told none fit short clean = (fit ≡ true) × (short ≡ true) × (clean ≡ true)
Told (some Apart) fit short clean = fit ≡ false
Told (some NameTooLong) fit short clean = (fit ≡ true) × (short ≡ false)
Told (some BadByte) fit short clean = (fit ≡ true) × (short ≡ true) × (clean ≡ false)

told_first : (fit short clean : Bool) → Told (first_of fit short clean) fit short clean
told_first false short clean = refl
told_first true false clean = (refl, refl)
told_first true true false = (refl, refl, refl)
told_first true true true = (refl, refl, refl)

pub told_by : (label : List ℕ) (g : Groups) (elements : ℕ) (o : Option GroupFault) → o ≡ first_fault label g elements
    → Told o (fit_together g.lengths.now g.offsets.now (length g.names.now) elements) (short_names lot_file (length label) g.lengths.now) (clean_names label g.names.now)
told_by label g elements o e =
    let fit = fit_together g.lengths.now g.offsets.now (length g.names.now) elements in
    let short = short_names lot_file (length label) g.lengths.now in
    let clean = clean_names label g.names.now in
    rw e (told_first fit short clean)
