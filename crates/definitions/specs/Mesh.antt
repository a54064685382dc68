-- Document 01, "When the desk says no": which meshes and elements are refused, the report of an accepted mesh, its counts and stamp, the bounds service.
use Rattle.std.specs.Prelude.{Bool, true, false, not, ◌&&◌, ◌||◌, List, [], ◌∷◌, ℕ, zero, suc, ◌+◌, ◌*◌, ◌/◌, ◌%◌, eqb, leb, ltb, get_or, length, take, drop, ℤ, pos, nat_abs}
use Rattle.std.proofs.Math.Option.{Option, none, some}
use Rattle.foundation.specs.Lists.{concat_map, tabulate}
use Rattle.definitions.specs.Limits.{Limits, record_words}
use Rattle.definitions.specs.Bounds.{low, high}
use Rattle.definitions.specs.Record.{Fault, missing, twice, outside, fault_words, record_of, is_valid, is_invalid, is_undecided, is_refused}

-- "1 to 4 are tested in that order, and given only then."
pub data MeshRefusal : Type 0 where
  depth_too_great : MeshRefusal
  bad_coordinates : MeshRefusal
  bad_indices : MeshRefusal
  bad_space : MeshRefusal

abbrev pub mesh_refusal_number : MeshRefusal → ℕ
mesh_refusal_number depth_too_great = 1
mesh_refusal_number bad_coordinates = 2
mesh_refusal_number bad_indices = 3
mesh_refusal_number bad_space = 4

-- a run of n numbers is a whole number of groups of k, and at most `most` of them
abbrev pub well_sized : ℕ → ℕ → ℕ → Bool
well_sized n k most = eqb (n % k) 0 && leb (n / k) most

-- The lengths of the coordinate run, of the index run and of the report space, and the depth.
unfoldable pub refusal : Limits → ℕ → ℕ → ℕ → ℕ → Option MeshRefusal
refusal L coordinates indices space D =
    elim (ltb L.depth D) [
      | true ↦ some depth_too_great
      | false ↦
          elim (well_sized coordinates 3 L.nodes) [
            | false ↦ some bad_coordinates
            | true ↦
                elim (well_sized indices 8 L.elements) [
                  | false ↦ some bad_indices
                  | true ↦
                      elim (eqb space (record_words * (indices / 8))) [ false ↦ some bad_space | true ↦ none ]
                ]
          ]
    ]

-- the first of i, i + 1, .., n of them, at which p holds
abbrev pub first_from : (ℕ → Bool) → ℕ → ℕ → Option ℕ
first_from p i zero = none
first_from p i (suc n) = elim (p i) [ true ↦ some i | false ↦ first_from p (suc i) n ]

-- the first of the eight indices that names none of so many nodes
unfoldable pub missing_index : ℕ → List ℕ → Option ℕ
missing_index nodes ix = first_from (λ k. leb nodes (get_or ix k 0)) 0 8

-- 02, No. 5: "One index in two places of an element". Pair k is of the places k / 8 and k % 8, counted from 0.
abbrev pub same_index : List ℕ → ℕ → Bool
same_index ix k = ltb (k / 8) (k % 8) && eqb (get_or ix (k / 8) 0) (get_or ix (k % 8) 0)

-- the first pair of places with one index: "lowest first place and then lowest second"
unfoldable pub named_twice : List ℕ → Option ℕ
named_twice ix = first_from (same_index ix) 0 64

-- "A usable coordinate lies in −range..range"
abbrev pub usable : Limits → ℤ → Bool
usable L z = leb (nat_abs z) L.range

-- "An element's eight points are the nodes that its indices name, in place order."
unfoldable pub points_of : List ℤ → List ℕ → List ℤ
points_of coordinates ix = tabulate (λ k. get_or coordinates (3 * get_or ix (k / 3) 0 + k % 3) (pos 0)) 0 24

-- the first of the 24 coordinates that is out of range, place by place and in each x, y, z
unfoldable pub out_of_range : Limits → List ℤ → Option ℕ
out_of_range L xs = first_from (λ k. not (usable L (get_or xs k (pos 0)))) 0 24

-- "Within an element all eight indices are tested before any coordinate; lowest place first, then x, y, z."; 02, No. 5: 7 is "tested after 5 and before 6".
-- By what the three searches find: a missing index, a pair, a coordinate out of range.
abbrev pub fault_by : List ℕ → Option ℕ → Option ℕ → Option ℕ → Option Fault
fault_by ix (some k) t o = some (missing (suc k) (get_or ix k 0))
fault_by ix none (some k) o = some (twice (suc (k / 8)) (suc (k % 8)))
fault_by ix none none (some k) = some (outside (suc (k / 3)) (suc (k % 3)))
fault_by ix none none none = none

unfoldable pub fault_of : Limits → List ℤ → List ℕ → Option Fault
fault_of L coordinates ix = fault_by ix (missing_index (length coordinates / 3) ix) (named_twice ix) (out_of_range L (points_of coordinates ix))

unfoldable pub element_record : Limits → List ℤ → List ℕ → ℕ → List ℤ
element_record L coordinates ix D = elim (fault_of L coordinates ix) [ some f ↦ fault_words f | none ↦ record_of (points_of coordinates ix) D ]

-- the records of an accepted mesh, element by element, and its report
unfoldable pub records : Limits → List ℤ → List ℕ → ℕ → List (List ℤ)
records L coordinates indices D = tabulate (λ e. element_record L coordinates (take 8 (drop (8 * e) indices)) D) 0 (length indices / 8)

unfoldable pub report : Limits → List ℤ → List ℕ → ℕ → List ℤ
report L coordinates indices D = concat_map (λ r. r) (records L coordinates indices D)

-- "four counts: valid, invalid, undecided, refused … each being the number of records of its kind"
pub record Counts : Type 0 where
  pub valid : ℕ
  pub invalid : ℕ
  pub undecided : ℕ
  pub refused : ℕ

abbrev pub no_counts : Counts
no_counts = record { valid = 0; invalid = 0; undecided = 0; refused = 0 }

abbrev pub how_many : (List ℤ → Bool) → List (List ℤ) → ℕ
how_many p [] = 0
how_many p (r ∷ rs) = elim (p r) [ true ↦ suc (how_many p rs) | false ↦ how_many p rs ]

abbrev pub counts_of : List (List ℤ) → Counts
counts_of rs = record { valid = how_many is_valid rs; invalid = how_many is_invalid rs; undecided = how_many is_undecided rs; refused = how_many is_refused rs }

-- The answer of an inspection: number 0 with the counts, or the refusal's number with counts 0.
pub data Inspection : Type 0 where
  mesh_accepted : Counts → Inspection
  mesh_refused : MeshRefusal → Inspection

abbrev pub inspection_number : Inspection → ℕ
inspection_number (mesh_accepted n) = 0
inspection_number (mesh_refused r) = mesh_refusal_number r

abbrev pub inspection_counts : Inspection → Counts
inspection_counts (mesh_accepted n) = n
inspection_counts (mesh_refused r) = no_counts

unfoldable pub inspection : Limits → List ℤ → List ℕ → ℕ → ℕ → Inspection
inspection L coordinates indices space D = elim (refusal L (length coordinates) (length indices) space D) [
  | some r ↦ mesh_refused r
  | none ↦ mesh_accepted (counts_of (records L coordinates indices D))
]

-- the report space afterwards: "untouched" where the mesh is refused
unfoldable pub report_after : Limits → List ℤ → List ℕ → List ℤ → ℕ → List ℤ
report_after L coordinates indices space D = elim (refusal L (length coordinates) (length indices) (length space) D) [ some r ↦ space | none ↦ report L coordinates indices D ]

-- 02, No. 4, in the place of 01's sentence: ""sound" needs at least one element and every record valid; "faulty" if any record is invalid or refused; otherwise "open"."
pub data Stamp : Type 0 where
  sound : Stamp
  faulty : Stamp
  «open» : Stamp

-- by whether there is a record and all are valid, and whether any is invalid or refused
abbrev pub stamp_by : Bool → Bool → Stamp
stamp_by true b = sound
stamp_by false true = faulty
stamp_by false false = «open»

abbrev pub only_valid : Counts → Bool
only_valid n = ltb 0 n.valid && eqb n.invalid 0 && eqb n.undecided 0 && eqb n.refused 0

abbrev pub some_faulty : Counts → Bool
some_faulty n = ltb 0 n.invalid || ltb 0 n.refused

unfoldable pub stamp_of : Counts → Stamp
stamp_of n = stamp_by (only_valid n) (some_faulty n)

-- the stamp of an inspection's answer: a refused mesh has no record and no stamp
abbrev pub stamp_given : Inspection → Option Stamp
stamp_given (mesh_accepted n) = some (stamp_of n)
stamp_given (mesh_refused r) = none

-- "The bounds service … answers 0 with both bounds. It refuses with 1 and then 6 and no other, by number alone, and both bounds are then 0."
pub data Bounds : Type 0 where
  bounds : (low high : ℤ) → Bounds
  too_deep : Bounds
  out_of_limits : Bounds

abbrev pub bounds_number : Bounds → ℕ
bounds_number (bounds l h) = 0
bounds_number too_deep = 1
bounds_number out_of_limits = 6

abbrev pub bounds_low : Bounds → ℤ
bounds_low (bounds l h) = l
bounds_low too_deep = pos 0
bounds_low out_of_limits = pos 0

abbrev pub bounds_high : Bounds → ℤ
bounds_high (bounds l h) = h
bounds_high too_deep = pos 0
bounds_high out_of_limits = pos 0

unfoldable pub bounds_of : Limits → List ℤ → ℕ → Bounds
bounds_of L xs D = elim (ltb L.depth D) [ true ↦ too_deep | false ↦ elim (out_of_range L xs) [ some k ↦ out_of_limits | none ↦ bounds (low xs D) (high xs D) ] ]
