-- Elements that are named, and small lists of each refusal of the namer, the later tests failing too, as a single list under one claim.
use Rattle.std.specs.Prelude.{◌≡◌, refl, List, [], ◌∷◌, ℕ}
use Rattle.foundation.specs.Lists.{All}
use Rattle.lot_format.specs.Format.{FileLimits}
use Rattle.lot_format.specs.Naming.{groups_apart, name_too_long, bad_byte, no_such_element, Naming, named, unnamed, naming}

-- what is handed in, and the answer
pub record Example : Type 0 where
  pub label : List ℕ
  pub names : List ℕ
  pub lengths : List ℕ
  pub offsets : List ℕ
  pub elements : ℕ
  pub element : ℕ
  pub answer : Naming

-- a label or name is at most two bytes
abbrev limits : FileLimits
limits = record { bytes = 0; name = 2; elements = 0 }

-- the label L, four groups named with nothing, A, nothing and Zz before elements 0, 1, 1 and 2 of three
abbrev right : ℕ → Naming → Example
right e answer = record { label = 76 ∷ []; names = 65 ∷ 90 ∷ 122 ∷ []; lengths = 0 ∷ 1 ∷ 0 ∷ 2 ∷ []; offsets = 0 ∷ 1 ∷ 1 ∷ 2 ∷ []; elements = 3; element = e; answer = answer }

-- of two elements, the one behind the last
abbrev wrong : List ℕ → List ℕ → List ℕ → List ℕ → Naming → Example
wrong label names lengths offsets answer = record { label = label; names = names; lengths = lengths; offsets = offsets; elements = 2; element = 2; answer = answer }

abbrev bare : ℕ → Naming → Example
bare elements answer = record { label = 76 ∷ []; names = []; lengths = []; offsets = []; elements = elements; element = 0; answer = answer }

abbrev pub examples : List Example
examples =
    right 0 (named (76 ∷ [])) ∷
    right 1 (named (76 ∷ [])) ∷
    right 2 (named (90 ∷ 122 ∷ [])) ∷
    right 3 (unnamed no_such_element) ∷
    bare 1 (named (76 ∷ [])) ∷
    bare 0 (unnamed no_such_element) ∷
    wrong (0 ∷ 0 ∷ 0 ∷ []) (65 ∷ []) (1 ∷ 0 ∷ []) (0 ∷ []) (unnamed groups_apart) ∷
    wrong (0 ∷ 0 ∷ 0 ∷ []) (65 ∷ []) (1 ∷ []) (0 ∷ 0 ∷ []) (unnamed groups_apart) ∷
    wrong (0 ∷ 0 ∷ 0 ∷ []) (65 ∷ 0 ∷ []) (1 ∷ []) (0 ∷ []) (unnamed groups_apart) ∷
    wrong (0 ∷ 0 ∷ 0 ∷ []) (65 ∷ 0 ∷ []) (3 ∷ []) (0 ∷ []) (unnamed groups_apart) ∷
    wrong (0 ∷ 0 ∷ 0 ∷ []) [] (0 ∷ 0 ∷ []) (1 ∷ 0 ∷ []) (unnamed groups_apart) ∷
    wrong (0 ∷ 0 ∷ 0 ∷ []) [] (0 ∷ 0 ∷ []) (1 ∷ 3 ∷ []) (unnamed groups_apart) ∷
    wrong (0 ∷ 0 ∷ 0 ∷ []) [] [] [] (unnamed name_too_long) ∷
    wrong [] (0 ∷ 0 ∷ 0 ∷ []) (3 ∷ []) (2 ∷ []) (unnamed name_too_long) ∷
    wrong (32 ∷ 31 ∷ []) (32 ∷ []) (1 ∷ []) (2 ∷ []) (unnamed bad_byte) ∷
    wrong (126 ∷ []) (126 ∷ 127 ∷ []) (2 ∷ []) (2 ∷ []) (unnamed bad_byte) ∷ []

-- The one claim.
abbrev pub Holds : Example → Type 0
Holds x = naming limits x.label x.names x.lengths x.offsets x.elements x.element ≡ x.answer

pub examples_hold : All Holds examples
unfolding naming
examples_hold = (refl, (refl, (refl, (refl, (refl, (refl, (refl, (refl, (refl, (refl, (refl, (refl, (refl, (refl, (refl, (refl, tt))))))))))))))))
