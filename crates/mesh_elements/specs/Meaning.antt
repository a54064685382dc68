-- What the code's answers stand for in the definitions.
use Rattle.std.specs.Prelude.{List, ℕ, ◌/◌, length, ℤ, pos, Result, Ok, Err, Option as Optional, Some, None}
use Rattle.std.proofs.Math.Option.{Option, none, some}
use Rattle.definitions.specs.Record.{Fault, missing, twice, outside, words, fault_words}
use Rattle.definitions.specs.Mesh.{missing_index, named_twice, points_of}
use Rattle.mesh_elements.specs.declared.Fault.{Fault as HeldFault}
use Rattle.mesh_elements.specs.declared.Fault.TheVariants.{Missing, Twice, Outside}

-- what stands where an element's points go: the points, once all eight indices name nodes
unfoldable pub points_after : List ℤ → List ℕ → List ℤ → List ℤ
points_after coordinates ix before = elim (missing_index (length coordinates / 3) ix) [ some k ↦ before | none ↦ points_of coordinates ix ]

-- the same where an element with a node named twice is refused before its points are looked up
unfoldable pub points_left : List ℤ → List ℕ → List ℤ → List ℤ
points_left coordinates ix before = elim (missing_index (length coordinates / 3) ix) [ some k ↦ before | none ↦ elim (named_twice ix) [ some k ↦ before | none ↦ points_of coordinates ix ] ]

abbrev pub fault_held : HeldFault → Fault
fault_held (Missing p i) = missing p i
fault_held (Twice p q) = twice p q
fault_held (Outside p e) = outside p e

abbrev pub fault_told : Optional HeldFault → Option Fault
fault_told None = none
fault_told (Some f) = some (fault_held f)

-- what is at fault with an element, of which the code has the points or the fault
abbrev pub element_of : {A : Type 0} → Result A HeldFault → Option Fault
element_of (Ok x) = none
element_of (Err f) = some (fault_held f)

-- the record of a refused element, and nine zeros where nothing is at fault
abbrev pub refused_words : Option Fault → List ℤ
refused_words (some f) = fault_words f
refused_words none = words 0 0 0 0 0 0 (pos 0) 0
