-- The answers about meshes as plain numbers, numbered as document 01 numbers them, and what a caller's plain numbers stand for.
use Rattle.std.specs.Prelude.{◌≡◌, refl, Bool, true, false, List, [], ◌∷◌, ℕ, eqb, get_or}
use Rattle.std.proofs.Common.{◌∙◌, ap, eq-eqb, ne_eqb}
use Rattle.std.proofs.Math.Option.{Option, none, some}
use Rattle.definitions.specs.Mesh.{depth_too_great, bad_coordinates, bad_indices, bad_space, Counts, Inspection, mesh_accepted, mesh_refused, inspection_number, inspection_counts, Stamp, sound, faulty, «open», stamp_of, stamp_given}
use Rattle.brundhal_mesh_answers.specs.declared.BrundhalInspection.{BrundhalInspection}

-- ---- what an answer says: the numbers of the definition's answer, and beside them the fields of the struct, each once and in the same order
-- an inspection: its number and its counts
abbrev pub inspection_numbers : Inspection → List ℕ
inspection_numbers i = inspection_number i ∷ (inspection_counts i).valid ∷ (inspection_counts i).invalid ∷ (inspection_counts i).undecided ∷ (inspection_counts i).refused ∷ []

abbrev pub inspection_fields : BrundhalInspection → List ℕ
inspection_fields r = r.number ∷ r.valid ∷ r.invalid ∷ r.undecided ∷ r.refused ∷ []

-- a stamp: 0 sound, 1 faulty, 2 open; 3 where there is none
abbrev pub stamp_number : Stamp → ℕ
stamp_number sound = 0
stamp_number faulty = 1
stamp_number «open» = 2

abbrev pub stamp_told : Option Stamp → ℕ
stamp_told (some s) = stamp_number s
stamp_told none = 3

-- ---- what a caller's numbers stand for
abbrev pub counts_given : BrundhalInspection → Counts
counts_given r = record { valid = r.valid; invalid = r.invalid; undecided = r.undecided; refused = r.refused }

-- an answer with a number other than 0 is that of a refused mesh, which has no stamp
abbrev stamp_when : Counts → Bool → Option Stamp
stamp_when n b = elim b [ true ↦ some (stamp_of n) | false ↦ none ]

abbrev pub stamp_for : BrundhalInspection → Option Stamp
stamp_for r = stamp_when (counts_given r) (eqb r.number 0)

pub other_number : (r : BrundhalInspection) → (r.number ≡ 0 → ⊥) → stamp_for r ≡ none
other_number r h = ap (stamp_when (counts_given r)) (ne_eqb r.number 0 h)

pub zero_number : (r : BrundhalInspection) → r.number ≡ 0 → stamp_for r ≡ some (stamp_of (counts_given r))
zero_number r h = ap (stamp_when (counts_given r)) (eq-eqb r.number 0 h)

-- an answer that says what an inspection answered is given the stamp of that answer
abbrev stamp_among : List ℕ → Option Stamp
stamp_among l = stamp_when (record { valid = get_or l 1 0; invalid = get_or l 2 0; undecided = get_or l 3 0; refused = get_or l 4 0 }) (eqb (get_or l 0 0) 0)

numbers_stamp : (i : Inspection) → stamp_among (inspection_numbers i) ≡ stamp_given i
numbers_stamp (mesh_accepted n) = refl
numbers_stamp (mesh_refused depth_too_great) = refl
numbers_stamp (mesh_refused bad_coordinates) = refl
numbers_stamp (mesh_refused bad_indices) = refl
numbers_stamp (mesh_refused bad_space) = refl

pub same_stamp : (i : Inspection) (r : BrundhalInspection) → inspection_fields r ≡ inspection_numbers i → stamp_for r ≡ stamp_given i
same_stamp i r e = ap stamp_among e ∙ numbers_stamp i
