-- Small runs of each refusal of the writer, and of two at once where the order of the tests decides, as a single list under one claim.
use Rattle.std.specs.Prelude.{◌≡◌, refl, List, [], ◌∷◌, ℕ, take}
use Rattle.foundation.specs.Lists.{All}
use Rattle.lot_format.specs.Format.{FileLimits, written}
use Rattle.lot_format.specs.Runs.{Runs, runs_of}
use Rattle.lot_format.specs.Writing.{partial_node, partial_element, groups_apart, name_too_long, bad_byte, too_many_elements, too_long, no_room, Writing, file, unwritten, writing}
use Rattle.lot_format.specs.Examples.{grouped, grouped_file}

-- the limits, what is handed in, the lent bytes, and the answer
pub record Example : Type 0 where
  pub limits : FileLimits
  pub runs : Runs
  pub room : ℕ
  pub answer : Writing

abbrev limits : ℕ → ℕ → ℕ → FileLimits
limits bytes name elements = record { bytes = bytes; name = name; elements = elements }

-- the runs of the lot `grouped`, with so many numbers of its nodes and elements; its file has 119 bytes, its names are A and Zz
abbrev cut : ℕ → ℕ → List ℕ → List ℕ → List ℕ → List ℕ → Runs
cut nodes elements label names lengths offsets = record { label = label; nodes = take nodes grouped.nodes; elements = take elements grouped.elements; names = names; lengths = lengths; offsets = offsets }

abbrev names : List ℕ
names = 65 ∷ 90 ∷ 122 ∷ []

abbrev lengths : List ℕ
lengths = 0 ∷ 1 ∷ 0 ∷ 2 ∷ []

abbrev offsets : List ℕ
offsets = 0 ∷ 1 ∷ 1 ∷ 2 ∷ []

abbrev right : FileLimits → ℕ → Writing → Example
right F room answer = record { limits = F; runs = runs_of grouped; room = room; answer = answer }

-- under limits that nothing fits, so that the later tests fail too
abbrev wrong : Runs → Writing → Example
wrong x answer = record { limits = limits 0 2 0; runs = x; room = 0; answer = answer }

abbrev pub examples : List Example
examples =
    right (limits 119 4 2) 119 (file grouped_file) ∷
    right (limits 119 4 2) 118 (unwritten no_room) ∷
    right (limits 118 4 2) 0 (unwritten too_long) ∷
    right (limits 0 4 1) 0 (unwritten too_many_elements) ∷
    right (limits 0 3 0) 0 (unwritten name_too_long) ∷
    wrong (cut 0 8 (32 ∷ 31 ∷ []) [] [] []) (unwritten bad_byte) ∷
    wrong (cut 0 8 [] (126 ∷ 127 ∷ []) (1 ∷ 1 ∷ []) (0 ∷ 0 ∷ [])) (unwritten bad_byte) ∷
    wrong (cut 0 8 (0 ∷ 0 ∷ 0 ∷ []) [] [] []) (unwritten name_too_long) ∷
    wrong (cut 0 8 [] (0 ∷ 0 ∷ 0 ∷ []) (0 ∷ 3 ∷ []) (0 ∷ 0 ∷ [])) (unwritten name_too_long) ∷
    wrong (cut 0 16 (0 ∷ 0 ∷ 0 ∷ []) names lengths (0 ∷ 1 ∷ 1 ∷ [])) (unwritten groups_apart) ∷
    wrong (cut 0 16 [] names (0 ∷ 1 ∷ 2 ∷ []) offsets) (unwritten groups_apart) ∷
    wrong (cut 0 16 [] names (0 ∷ 1 ∷ 0 ∷ 1 ∷ []) offsets) (unwritten groups_apart) ∷
    wrong (cut 0 16 [] names (0 ∷ 1 ∷ 0 ∷ 3 ∷ []) offsets) (unwritten groups_apart) ∷
    wrong (cut 0 16 [] names lengths (0 ∷ 2 ∷ 1 ∷ 2 ∷ [])) (unwritten groups_apart) ∷
    wrong (cut 0 8 [] names lengths offsets) (unwritten groups_apart) ∷
    wrong (cut 0 15 [] names [] []) (unwritten partial_element) ∷
    wrong (cut 2 15 [] [] [] []) (unwritten partial_node) ∷
    record { limits = limits 8 0 0; runs = cut 0 0 [] [] [] []; room = 9; answer = file (76 ∷ 66 ∷ 0 ∷ 0 ∷ 69 ∷ 78 ∷ 0 ∷ 0 ∷ []) } ∷ []

-- The one claim.
abbrev pub Holds : Example → Type 0
Holds e = writing e.limits e.runs e.room ≡ e.answer

pub examples_hold : All Holds examples
unfolding written writing
examples_hold = (refl, (refl, (refl, (refl, (refl, (refl, (refl, (refl, (refl, (refl, (refl, (refl, (refl, (refl, (refl, (refl, (refl, (refl, tt))))))))))))))))))
