-- The numbers that tell an element's name are said of the part of the names that is in force, and the bytes that they tell are the name.
use Rattle.std.specs.Prelude.{◌≡◌, refl, Bool, true, false, List, [], ◌∷◌, ℕ, ◌+◌, ◌≤◌, eqb, get_or, length, take, drop}
use Rattle.std.proofs.Common.{sym, ◌∙◌, ap, ap₂, arith, eq-eqb, ne_eqb, length-drop, length-take-le}
use Rattle.std.proofs.Math.Seq.{take-length}
use Rattle.lot_format.specs.Format.{Group}
use Rattle.lot_format.specs.Naming.{name_in_force, place_in_force, is_empty, name_of, groups_apart, name_too_long, bad_byte, no_such_element, Naming, named, unnamed, name_given, naming_number}
use Rattle.brundhal_name_answers.specs.declared.BrundhalName.{BrundhalName}
use Rattle.brundhal_name_answers.specs.Meaning.{part_numbers, name_numbers, name_fields, name_told, part_said, name_said}

empty_by_length : (xs : List ℕ) → eqb (length xs) 0 ≡ is_empty xs
empty_by_length [] = refl
empty_by_length (x ∷ xs) = ne_eqb (length (x ∷ xs)) 0 (λ h. absurd (omega (arith, h)))

-- ---- a name as it is said, case by case
module _ (number start len label : ℕ) where
  abbrev said_by : Bool → List ℕ
  said_by b = elim b [ true ↦ 0 ∷ part_said start len label | false ↦ number ∷ 0 ∷ 0 ∷ 0 ∷ [] ]

  abbrev named_by : Bool → List ℕ
  named_by b = 0 ∷ elim b [ true ↦ 0 ∷ 0 ∷ label ∷ [] | false ↦ 1 ∷ start ∷ len ∷ [] ]

  pub refusal_said : (number ≡ 0 → ⊥) → name_said number start len label ≡ number ∷ 0 ∷ 0 ∷ 0 ∷ []
  refusal_said h = ap said_by (ne_eqb number 0 h)

  pub label_said : number ≡ 0 → len ≡ 0 → name_said number start len label ≡ 0 ∷ 0 ∷ 0 ∷ label ∷ []
  label_said z h = ap said_by (eq-eqb number 0 z) ∙ ap named_by (eq-eqb len 0 h)

  pub part_said_law : number ≡ 0 → (len ≡ 0 → ⊥) → name_said number start len label ≡ 0 ∷ 1 ∷ start ∷ len ∷ []
  part_said_law z h = ap said_by (eq-eqb number 0 z) ∙ ap named_by (ne_eqb len 0 h)

-- ---- the part that is in force
-- the bytes that a list of numbers tells
abbrev told_by : List ℕ → List ℕ → List ℕ → List ℕ
told_by l label names = elim (eqb (get_or l 1 0) 1) [ true ↦ take (get_or l 3 0) (drop (get_or l 2 0) names) | false ↦ take (get_or l 3 0) (drop (get_or l 2 0) label) ]

module _ (label names : List ℕ) (gs : List Group) (e start len : ℕ) (within : start + len ≤ length names)
    (name : take len (drop start names) ≡ name_in_force [] gs e) (place : start ≡ place_in_force 0 0 gs e) where
  long : len ≡ length (name_in_force [] gs e)
  long = sym (length-take-le len (drop start names) (simp length-drop (omega arith))) ∙ ap length name

  part_numbers_law : part_said start len (length label) ≡ part_numbers label gs e
  part_numbers_law =
      ap₂ (λ (a b : ℕ). part_said a b (length label)) place long
      ∙ ap (λ (b : Bool). elim b [ true ↦ 0 ∷ 0 ∷ length label ∷ [] | false ↦ 1 ∷ place_in_force 0 0 gs e ∷ length (name_in_force [] gs e) ∷ [] ]) (empty_by_length (name_in_force [] gs e))

  name_numbers_law : (n : Naming) → name_said (naming_number n) start len (length label) ≡ name_numbers label gs e n
  name_numbers_law (named name) = ap (λ (l : List ℕ). 0 ∷ l) part_numbers_law
  name_numbers_law (unnamed groups_apart) = refl
  name_numbers_law (unnamed name_too_long) = refl
  name_numbers_law (unnamed bad_byte) = refl
  name_numbers_law (unnamed no_such_element) = refl

  stands : take (length (name_in_force [] gs e)) (drop (place_in_force 0 0 gs e) names) ≡ name_in_force [] gs e
  stands = sym (ap₂ (λ (a b : ℕ). take b (drop a names)) place long) ∙ name

  part_told : told_by (0 ∷ part_numbers label gs e) label names ≡ name_of label gs e
  part_told = go (is_empty (name_in_force [] gs e))
    where
      go : (b : Bool) → told_by (0 ∷ elim b [ true ↦ 0 ∷ 0 ∷ length label ∷ [] | false ↦ 1 ∷ place_in_force 0 0 gs e ∷ length (name_in_force [] gs e) ∷ [] ]) label names ≡ elim b [ true ↦ label | false ↦ name_in_force [] gs e ]
      go true = take-length label
      go false = stands

  name_of_numbers : (n : Naming) → (naming_number n ≡ 0 → n ≡ named (name_of label gs e)) → told_by (name_numbers label gs e n) label names ≡ name_given n
  name_of_numbers (named name) is = part_told ∙ sym (ap name_given (is refl))
  name_of_numbers (unnamed r) is = refl

  -- an answer that is said of the part in force has the numbers of the naming, and tells its name
  pub name_answered : (n : Naming) → (naming_number n ≡ 0 → n ≡ named (name_of label gs e)) → (number : ℕ) → number ≡ naming_number n → (r : BrundhalName) → name_fields r ≡ name_said number start len (length label)
      → (name_fields r ≡ name_numbers label gs e n) × (name_told r label names ≡ name_given n)
  name_answered n is number same r said =
      let numbers = said ∙ ap (λ (k : ℕ). name_said k start len (length label)) same ∙ name_numbers_law n in
      (numbers, ap (λ (l : List ℕ). told_by l label names) numbers ∙ name_of_numbers n is)
