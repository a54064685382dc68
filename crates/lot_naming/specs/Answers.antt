-- The namer's tests, one after the other, and what the number that answers tells of the naming.
use Rattle.std.proofs.Math.Path.{◌≡◌, refl}
use Rattle.std.specs.Prelude.{true, false, List, [], ℕ, ltb, length}
use Rattle.std.proofs.Math.Option.{Option, none, some}
use Rattle.std.proofs.Common.{sym, ap, arith, Result, Ok, Err}
use Rattle.lot_format.specs.Format.{FileLimits, Group}
use Rattle.lot_format.specs.Runs.{groups_of}
use Rattle.lot_format.specs.Groups.{first_failed, fit_together, short_names, clean_names}
use Rattle.lot_format.specs.Naming.{name_of, Unnamed, groups_apart, name_too_long, bad_byte, no_such_element, unnamed_number, naming_tests, Naming, named, unnamed, naming, name_given, naming_number}
use Rattle.lot_naming.specs.declared.Unnamed.{Unnamed as CodeUnnamed}
use Rattle.lot_naming.specs.Meaning.{unnamed_held, refusal_in, refusal_told, number_told}
use Rattle.lot_naming.specs.Place.{place_given}

-- no refusal has the number 0
not_zero : (r : Unnamed) → unnamed_number r ≡ 0 → ⊥
not_zero groups_apart e = absurd (omega arith)
not_zero name_too_long e = absurd (omega arith)
not_zero bad_byte e = absurd (omega arith)
not_zero no_such_element e = absurd (omega arith)

module _ (F : FileLimits) (label names lengths offsets : List ℕ) (elements e : ℕ) where
  abbrev pub answer : Naming
  answer = naming F label names lengths offsets elements e

  -- ---- test by test
  pub are_apart : fit_together lengths offsets (length names) elements ≡ false → answer ≡ unnamed groups_apart
  unfolding naming
  are_apart a = rw (a, naming)

  module _ (fit : fit_together lengths offsets (length names) elements ≡ true) where
    pub are_long : short_names F (length label) lengths ≡ false → answer ≡ unnamed name_too_long
    unfolding naming
    are_long a = rw (fit, a, naming)

    module _ (short : short_names F (length label) lengths ≡ true) where
      pub are_wrong : clean_names label names ≡ false → answer ≡ unnamed bad_byte
      unfolding naming
      are_wrong a = rw (fit, short, a, naming)

      module _ (clean : clean_names label names ≡ true) where
        pub is_none : ltb e elements ≡ false → answer ≡ unnamed no_such_element
        unfolding naming
        is_none a = rw (fit, short, clean, a, naming)

        pub is_named : ltb e elements ≡ true → answer ≡ named (name_of label (groups_of names lengths offsets) e)
        unfolding naming
        is_named a = rw (fit, short, clean, a, naming)

  -- ---- the number
  pub zero_named : naming_number answer ≡ 0 → answer ≡ named (name_of label (groups_of names lengths offsets) e)
  unfolding naming
  zero_named z = go (first_failed (naming_tests F label names lengths offsets elements e)) z
    where
      go : (o : Option Unnamed) → naming_number (elim o [ none ↦ named (name_of label (groups_of names lengths offsets) e) | some r ↦ unnamed r ]) ≡ 0
          → ◌≡◌ {A = Naming} (elim o [ none ↦ named (name_of label (groups_of names lengths offsets) e) | some r ↦ unnamed r ]) (named (name_of label (groups_of names lengths offsets) e))
      go none z = refl
      go (some r) z = absurd (not_zero r z)

-- a naming by its refusal
pub refused_is : (n : Naming) (r : Unnamed) → some r ≡ refusal_in n → n ≡ unnamed r
refused_is (named name) r e = cc
refused_is (unnamed s) r e = cc

pub not_refused : (n : Naming) → none ≡ refusal_in n → naming_number n ≡ 0
not_refused (named name) e = refl
not_refused (unnamed s) e = cc

pub number_is : (r : Result Unit CodeUnnamed) (n : Naming) → refusal_told r ≡ refusal_in n → number_told r ≡ naming_number n
number_is (Ok u) n e = sym (not_refused n e)
number_is (Err r) n e = sym (ap naming_number (refused_is n (unnamed_held r) e))

-- another number is that of a refusal
pub other_nothing : (n : Naming) → (naming_number n ≡ 0 → ⊥) → name_given n ≡ []
other_nothing (named name) h = absurd (h refl)
other_nothing (unnamed r) h = refl

pub other_place : (label names : ℕ × ℕ) (gs : List Group) (e : ℕ) (n : Naming) → (naming_number n ≡ 0 → ⊥) → place_given label names gs e n ≡ label
other_place label names gs e (named name) h = absurd (h refl)
other_place label names gs e (unnamed r) h = refl
