-- Document 01, "Elements to try": the starred lines, as a single list under one claim.
use Rattle.std.specs.Prelude.{◌≡◌, refl, true, false, List, [], ◌∷◌, ◌++◌, map, ℕ, suc, ◌+◌, ◌*◌, ◌/◌, ◌%◌, ltb, get_or, length, take, drop, ℤ, pos, negsuc}
use Rattle.std.proofs.Math.Option.{Option, none, some}
use Rattle.foundation.specs.Lists.{All, concat_map, tabulate}
use Rattle.definitions.specs.Limits.{base, record_words}
use Rattle.definitions.specs.TwoWords.{value}
use Rattle.definitions.specs.Jacobian.{jacobian, scaled_jacobian}
use Rattle.definitions.specs.Coefficients.{numbered, numbers, at, coefficients}
use Rattle.definitions.specs.Subdivision.{rows, halve, child, children, whole}
use Rattle.definitions.specs.Eighths.{least_number, eighths}
use Rattle.definitions.specs.Verdict.{corners_of, coefficients_of, low_point, low_coefficient, last_level, valid_level, verdict, opened_below, opened_cells, opened}
use Rattle.definitions.specs.Bounds.{low, high}
use Rattle.definitions.specs.Record.{words, value_held, record_of}
use Rattle.definitions.specs.Mesh.{refusal, missing_index, named_twice, points_of, out_of_range, fault_of, element_record, records, report, mesh_accepted, mesh_refused, bad_space, inspection, report_after, Stamp, sound, faulty, «open», stamp_of, stamp_given, Bounds, bounds, bounds_of}

-- A: the unit cube
abbrev pub unit_cube : List ℤ
unit_cube = pos 0 ∷ pos 0 ∷ pos 0 ∷ pos 1 ∷ pos 0 ∷ pos 0 ∷ pos 1 ∷ pos 1 ∷ pos 0 ∷ pos 0 ∷ pos 1 ∷ pos 0 ∷ pos 0 ∷ pos 0 ∷ pos 1 ∷ pos 1 ∷ pos 0 ∷ pos 1 ∷ pos 1 ∷ pos 1 ∷ pos 1 ∷ pos 0 ∷ pos 1 ∷ pos 1 ∷ []

-- B: all eight nodes at one point
abbrev pub one_point : List ℤ
one_point = pos 5 ∷ pos 5 ∷ pos 5 ∷ pos 5 ∷ pos 5 ∷ pos 5 ∷ pos 5 ∷ pos 5 ∷ pos 5 ∷ pos 5 ∷ pos 5 ∷ pos 5 ∷ pos 5 ∷ pos 5 ∷ pos 5 ∷ pos 5 ∷ pos 5 ∷ pos 5 ∷ pos 5 ∷ pos 5 ∷ pos 5 ∷ pos 5 ∷ pos 5 ∷ pos 5 ∷ []

-- C: the unit cube, nodes 1-4 exchanged with 5-8
abbrev pub turned : List ℤ
turned = pos 0 ∷ pos 0 ∷ pos 1 ∷ pos 1 ∷ pos 0 ∷ pos 1 ∷ pos 1 ∷ pos 1 ∷ pos 1 ∷ pos 0 ∷ pos 1 ∷ pos 1 ∷ pos 0 ∷ pos 0 ∷ pos 0 ∷ pos 1 ∷ pos 0 ∷ pos 0 ∷ pos 1 ∷ pos 1 ∷ pos 0 ∷ pos 0 ∷ pos 1 ∷ pos 0 ∷ []

-- D: the flat square, its top turned by a quarter
abbrev pub quarter_twist : List ℤ
quarter_twist = negsuc 0 ∷ negsuc 0 ∷ pos 0 ∷ pos 1 ∷ negsuc 0 ∷ pos 0 ∷ pos 1 ∷ pos 1 ∷ pos 0 ∷ negsuc 0 ∷ pos 1 ∷ pos 0 ∷ pos 1 ∷ negsuc 0 ∷ pos 1 ∷ pos 1 ∷ pos 1 ∷ pos 1 ∷ negsuc 0 ∷ pos 1 ∷ pos 1 ∷ negsuc 0 ∷ negsuc 0 ∷ pos 1 ∷ []

-- E: the flat square, its top turned by a half
abbrev pub half_twist : List ℤ
half_twist = negsuc 0 ∷ negsuc 0 ∷ pos 0 ∷ pos 1 ∷ negsuc 0 ∷ pos 0 ∷ pos 1 ∷ pos 1 ∷ pos 0 ∷ negsuc 0 ∷ pos 1 ∷ pos 0 ∷ pos 1 ∷ pos 1 ∷ pos 1 ∷ negsuc 0 ∷ pos 1 ∷ pos 1 ∷ negsuc 0 ∷ negsuc 0 ∷ pos 1 ∷ pos 1 ∷ negsuc 0 ∷ pos 1 ∷ []

-- F: as E, the top twice as wide
abbrev pub wide_twist : List ℤ
wide_twist = negsuc 0 ∷ negsuc 0 ∷ pos 0 ∷ pos 1 ∷ negsuc 0 ∷ pos 0 ∷ pos 1 ∷ pos 1 ∷ pos 0 ∷ negsuc 0 ∷ pos 1 ∷ pos 0 ∷ pos 2 ∷ pos 2 ∷ pos 1 ∷ negsuc 1 ∷ pos 2 ∷ pos 1 ∷ negsuc 1 ∷ negsuc 1 ∷ pos 1 ∷ pos 2 ∷ negsuc 1 ∷ pos 1 ∷ []

-- G: a cube of side 3 with node 1 at (1,1,1)
abbrev pub dented : List ℤ
dented = pos 1 ∷ pos 1 ∷ pos 1 ∷ pos 3 ∷ pos 0 ∷ pos 0 ∷ pos 3 ∷ pos 3 ∷ pos 0 ∷ pos 0 ∷ pos 3 ∷ pos 0 ∷ pos 0 ∷ pos 0 ∷ pos 3 ∷ pos 3 ∷ pos 0 ∷ pos 3 ∷ pos 3 ∷ pos 3 ∷ pos 3 ∷ pos 0 ∷ pos 3 ∷ pos 3 ∷ []

-- H: the unit cube with node 3's y at 1,048,577
abbrev pub too_far : List ℤ
too_far = pos 0 ∷ pos 0 ∷ pos 0 ∷ pos 1 ∷ pos 0 ∷ pos 0 ∷ pos 1 ∷ pos 1048577 ∷ pos 0 ∷ pos 0 ∷ pos 1 ∷ pos 0 ∷ pos 0 ∷ pos 0 ∷ pos 1 ∷ pos 1 ∷ pos 0 ∷ pos 1 ∷ pos 1 ∷ pos 1 ∷ pos 1 ∷ pos 0 ∷ pos 1 ∷ pos 1 ∷ []

-- H: the cube from −1,048,576 to 1,048,576
abbrev pub largest : List ℤ
largest = negsuc 1048575 ∷ negsuc 1048575 ∷ negsuc 1048575 ∷ pos 1048576 ∷ negsuc 1048575 ∷ negsuc 1048575 ∷ pos 1048576 ∷ pos 1048576 ∷ negsuc 1048575 ∷ negsuc 1048575 ∷ pos 1048576 ∷ negsuc 1048575 ∷ negsuc 1048575 ∷ negsuc 1048575 ∷ pos 1048576 ∷ pos 1048576 ∷ negsuc 1048575 ∷ pos 1048576 ∷ pos 1048576 ∷ pos 1048576 ∷ pos 1048576 ∷ negsuc 1048575 ∷ pos 1048576 ∷ pos 1048576 ∷ []

-- the eight nodes in order, and with the fourth index past them
abbrev pub in_order : List ℕ
in_order = 0 ∷ 1 ∷ 2 ∷ 3 ∷ 4 ∷ 5 ∷ 6 ∷ 7 ∷ []

abbrev pub missing_fourth : List ℕ
missing_fourth = 0 ∷ 1 ∷ 2 ∷ 8 ∷ 4 ∷ 5 ∷ 6 ∷ 7 ∷ []

-- eight nodes, an element's indices, a depth, the element's record at it and, where 01 gives them, the bounds of the eight nodes
pub record Example : Type 0 where
  pub nodes : List ℤ
  pub indices : List ℕ
  pub depth : ℕ
  pub answer : List ℤ
  pub limits : Option Bounds

abbrev pub starred : List Example
starred =
    record { nodes = unit_cube; indices = in_order; depth = 0; answer = pos 0 ∷ pos 0 ∷ pos 0 ∷ pos 0 ∷ pos 0 ∷ pos 0 ∷ pos 0 ∷ pos 0 ∷ pos 1 ∷ []; limits = none } ∷
    record { nodes = one_point; indices = in_order; depth = 0; answer = pos 1 ∷ pos 0 ∷ pos 0 ∷ pos 0 ∷ pos 0 ∷ pos 1 ∷ pos 0 ∷ pos 0 ∷ pos 1 ∷ []; limits = none } ∷
    record { nodes = turned; indices = in_order; depth = 0; answer = pos 1 ∷ pos 0 ∷ pos 0 ∷ pos 0 ∷ pos 0 ∷ pos 1 ∷ negsuc 7 ∷ negsuc 0 ∷ pos 1 ∷ []; limits = none } ∷
    record { nodes = quarter_twist; indices = in_order; depth = 0; answer = pos 2 ∷ pos 0 ∷ pos 0 ∷ pos 0 ∷ pos 0 ∷ pos 13 ∷ pos 0 ∷ pos 0 ∷ pos 1 ∷ []; limits = none } ∷
    record { nodes = quarter_twist; indices = in_order; depth = 1; answer = pos 0 ∷ pos 1 ∷ pos 0 ∷ pos 0 ∷ pos 0 ∷ pos 0 ∷ pos 0 ∷ pos 0 ∷ pos 9 ∷ []; limits = some (bounds (pos 1024) (pos 1024)) } ∷
    record { nodes = half_twist; indices = in_order; depth = 0; answer = pos 2 ∷ pos 0 ∷ pos 0 ∷ pos 0 ∷ pos 0 ∷ pos 13 ∷ negsuc 31 ∷ negsuc 0 ∷ pos 1 ∷ []; limits = none } ∷
    record { nodes = half_twist; indices = in_order; depth = 1; answer = pos 1 ∷ pos 1 ∷ pos 0 ∷ pos 0 ∷ pos 1 ∷ pos 5 ∷ pos 0 ∷ pos 0 ∷ pos 2 ∷ []; limits = none } ∷
    record { nodes = wide_twist; indices = in_order; depth = 0; answer = pos 2 ∷ pos 0 ∷ pos 0 ∷ pos 0 ∷ pos 0 ∷ pos 13 ∷ negsuc 63 ∷ negsuc 0 ∷ pos 1 ∷ []; limits = none } ∷
    record { nodes = dented; indices = in_order; depth = 0; answer = pos 1 ∷ pos 0 ∷ pos 0 ∷ pos 0 ∷ pos 0 ∷ pos 1 ∷ pos 0 ∷ pos 0 ∷ pos 1 ∷ []; limits = none } ∷
    record { nodes = too_far; indices = in_order; depth = 0; answer = pos 6 ∷ pos 3 ∷ pos 2 ∷ pos 0 ∷ pos 0 ∷ pos 0 ∷ pos 0 ∷ pos 0 ∷ pos 0 ∷ []; limits = none } ∷
    record { nodes = largest; indices = in_order; depth = 0; answer = pos 0 ∷ pos 0 ∷ pos 0 ∷ pos 0 ∷ pos 0 ∷ pos 0 ∷ pos 0 ∷ pos 0 ∷ pos 1 ∷ []; limits = none } ∷
    record { nodes = unit_cube; indices = missing_fourth; depth = 0; answer = pos 5 ∷ pos 4 ∷ pos 8 ∷ pos 0 ∷ pos 0 ∷ pos 0 ∷ pos 0 ∷ pos 0 ∷ pos 0 ∷ []; limits = none } ∷ []

-- The one claim.
abbrev pub Bounded : List ℤ → ℕ → Option Bounds → Type 0
Bounded xs D none = Unit
Bounded xs D (some b) = bounds_of base xs D ≡ b

abbrev pub Holds : Example → Type 0
Holds e = (element_record base e.nodes e.indices e.depth ≡ e.answer) × Bounded e.nodes e.depth e.limits

pub starred_hold : All Holds starred
unfolding jacobian scaled_jacobian numbered at coefficients halve child children whole corners_of coefficients_of low_point low_coefficient last_level valid_level verdict opened_below opened_cells opened low high record_of missing_index named_twice points_of out_of_range fault_of element_record bounds_of
starred_hold = ((refl, tt), ((refl, tt), ((refl, tt), ((refl, tt), ((refl, refl), ((refl, tt), ((refl, tt), ((refl, tt), ((refl, tt), ((refl, tt), ((refl, tt), ((refl, tt), tt))))))))))))

-- ---- 02, No. 8: parts of which 64 bits do not hold a value, as a single list under the same claim
-- the cube from −1,048,576 to 1,048,575, nodes 1-4 exchanged with 5-8
abbrev pub large_turned : List ℤ
large_turned = negsuc 1048575 ∷ negsuc 1048575 ∷ pos 1048575 ∷ pos 1048575 ∷ negsuc 1048575 ∷ pos 1048575 ∷ pos 1048575 ∷ pos 1048575 ∷ pos 1048575 ∷ negsuc 1048575 ∷ pos 1048575 ∷ pos 1048575 ∷ negsuc 1048575 ∷ negsuc 1048575 ∷ negsuc 1048575 ∷ pos 1048575 ∷ negsuc 1048575 ∷ negsuc 1048575 ∷ pos 1048575 ∷ pos 1048575 ∷ negsuc 1048575 ∷ negsuc 1048575 ∷ pos 1048575 ∷ negsuc 1048575 ∷ []

-- its J, eight times, is −8 · 2,097,151³ = −4 · 2^64 + 105,553,065,934,856; that of the cube from −1,048,576 to 1,048,576 is 2^66
abbrev pub large : List Example
large =
    record { nodes = large_turned; indices = in_order; depth = 0; answer = pos 1 ∷ pos 0 ∷ pos 0 ∷ pos 0 ∷ pos 0 ∷ pos 1 ∷ pos 105553065934856 ∷ negsuc 3 ∷ pos 1 ∷ []; limits = none } ∷
    record { nodes = largest; indices = in_order; depth = 0; answer = words 0 0 0 0 0 0 (pos 0) 1; limits = some (bounds (pos 73786976294838206464) (pos 73786976294838206464)) } ∷ []

pub large_hold : All Holds large
unfolding jacobian scaled_jacobian numbered at coefficients halve child children whole corners_of coefficients_of low_point low_coefficient last_level valid_level verdict opened_below opened_cells opened low high record_of missing_index named_twice points_of out_of_range fault_of element_record bounds_of
large_hold = ((refl, tt), ((refl, refl), tt))

-- and read back
pub large_read : value_held (element_record base large_turned in_order 0) ≡ negsuc 73786870741772271607
unfolding value jacobian scaled_jacobian numbered at coefficients halve child children whole corners_of coefficients_of low_point low_coefficient last_level valid_level verdict opened_below opened_cells opened record_of missing_index named_twice points_of out_of_range fault_of element_record
large_read = refl

-- ---- 02, No. 5: one index in two places, as a single list under the same claim
-- index 1 in three places
abbrev pub three_of_one : List ℕ
three_of_one = 0 ∷ 1 ∷ 2 ∷ 1 ∷ 4 ∷ 1 ∷ 6 ∷ 7 ∷ []

-- the pair that is complete first is not the pair with the lowest first place
abbrev pub one_within_another : List ℕ
one_within_another = 0 ∷ 1 ∷ 1 ∷ 0 ∷ 4 ∷ 5 ∷ 6 ∷ 7 ∷ []

abbrev pub missing_twice : List ℕ
missing_twice = 0 ∷ 1 ∷ 8 ∷ 8 ∷ 4 ∷ 5 ∷ 6 ∷ 7 ∷ []

abbrev pub missing_after_pair : List ℕ
missing_after_pair = 0 ∷ 0 ∷ 2 ∷ 3 ∷ 4 ∷ 5 ∷ 6 ∷ 8 ∷ []

-- index 2, which names the node of H that is out of range, twice; and a pair behind that node
abbrev pub third_twice : List ℕ
third_twice = 0 ∷ 1 ∷ 2 ∷ 2 ∷ 4 ∷ 5 ∷ 6 ∷ 7 ∷ []

abbrev pub last_twice : List ℕ
last_twice = 0 ∷ 1 ∷ 2 ∷ 3 ∷ 4 ∷ 5 ∷ 6 ∷ 6 ∷ []

abbrev pub all_one : List ℕ
all_one = 5 ∷ 5 ∷ 5 ∷ 5 ∷ 5 ∷ 5 ∷ 5 ∷ 5 ∷ []

abbrev pub twice_named : List Example
twice_named =
    record { nodes = unit_cube; indices = three_of_one; depth = 0; answer = words 7 2 4 0 0 0 (pos 0) 0; limits = none } ∷
    record { nodes = unit_cube; indices = one_within_another; depth = 1; answer = words 7 1 4 0 0 0 (pos 0) 0; limits = none } ∷
    record { nodes = unit_cube; indices = missing_twice; depth = 0; answer = words 5 3 8 0 0 0 (pos 0) 0; limits = none } ∷
    record { nodes = unit_cube; indices = missing_after_pair; depth = 0; answer = words 5 8 8 0 0 0 (pos 0) 0; limits = none } ∷
    record { nodes = too_far; indices = third_twice; depth = 2; answer = words 7 3 4 0 0 0 (pos 0) 0; limits = none } ∷
    record { nodes = too_far; indices = last_twice; depth = 0; answer = words 7 7 8 0 0 0 (pos 0) 0; limits = none } ∷
    record { nodes = unit_cube; indices = all_one; depth = 3; answer = words 7 1 2 0 0 0 (pos 0) 0; limits = none } ∷
    record { nodes = one_point; indices = all_one; depth = 0; answer = words 7 1 2 0 0 0 (pos 0) 0; limits = none } ∷ []

pub twice_named_hold : All Holds twice_named
unfolding missing_index named_twice points_of out_of_range fault_of element_record
twice_named_hold = ((refl, tt), ((refl, tt), ((refl, tt), ((refl, tt), ((refl, tt), ((refl, tt), ((refl, tt), ((refl, tt), tt))))))))

-- every pair of places: pair k of the unit cube has the index of its first place in its second too
abbrev pub pairs : List ℕ
pairs = concat_map (λ k. elim (ltb (k / 8) (k % 8)) [ true ↦ k ∷ [] | false ↦ [] ]) (tabulate (λ k. k) 0 64)

abbrev pub with_pair : ℕ → List ℕ
with_pair k = take (k % 8) in_order ++ (k / 8) ∷ drop (suc (k % 8)) in_order

pub every_pair : map (λ k. element_record base unit_cube (with_pair k) 0) pairs ≡ map (λ k. words 7 (suc (k / 8)) (suc (k % 8)) 0 0 0 (pos 0) 0) pairs
unfolding missing_index named_twice points_of out_of_range fault_of element_record
every_pair = refl

pub pairs_are_28 : length pairs ≡ 28
pairs_are_28 = refl

-- ---- 02, No. 7: the least of each of the eight children, and the lowest number that holds it, as a single list under one claim
-- a tangled element: its children's leasts stand at eight numbers, of which none is that of the first coefficient ≤ 0
abbrev pub tangled : List ℤ
tangled = negsuc 0 ∷ negsuc 1 ∷ pos 1 ∷ pos 3 ∷ pos 0 ∷ negsuc 0 ∷ pos 2 ∷ pos 4 ∷ negsuc 0 ∷ pos 2 ∷ pos 1 ∷ negsuc 0 ∷ negsuc 1 ∷ pos 2 ∷ pos 4 ∷ pos 0 ∷ pos 0 ∷ pos 0 ∷ pos 4 ∷ pos 0 ∷ pos 2 ∷ pos 2 ∷ pos 1 ∷ pos 0 ∷ []

pub record Cut : Type 0 where
  pub nodes : List ℤ
  pub leasts : List ℤ
  pub numbers : List ℕ

-- of the unit cube all 27 are equal; of F the least is held by nine
abbrev pub cuts : List Cut
cuts =
    record { nodes = unit_cube; leasts = pos 512 ∷ pos 512 ∷ pos 512 ∷ pos 512 ∷ pos 512 ∷ pos 512 ∷ pos 512 ∷ pos 512 ∷ []; numbers = 1 ∷ 1 ∷ 1 ∷ 1 ∷ 1 ∷ 1 ∷ 1 ∷ 1 ∷ [] } ∷
    record { nodes = wide_twist; leasts = negsuc 1023 ∷ negsuc 1023 ∷ negsuc 1023 ∷ negsuc 1023 ∷ pos 512 ∷ pos 512 ∷ pos 512 ∷ pos 512 ∷ []; numbers = 13 ∷ 13 ∷ 13 ∷ 13 ∷ 1 ∷ 1 ∷ 1 ∷ 1 ∷ [] } ∷
    record { nodes = tangled; leasts = negsuc 4607 ∷ negsuc 9471 ∷ negsuc 5887 ∷ negsuc 6911 ∷ negsuc 12031 ∷ negsuc 8703 ∷ negsuc 7423 ∷ negsuc 6271 ∷ []; numbers = 6 ∷ 14 ∷ 8 ∷ 11 ∷ 17 ∷ 13 ∷ 19 ∷ 15 ∷ [] } ∷ []

abbrev pub Told : Cut → Type 0
Told c = (map (λ e. e.least) (eighths (whole c.nodes)) ≡ c.leasts) × (map (λ e. e.number) (eighths (whole c.nodes)) ≡ c.numbers)

pub cuts_told : All Told cuts
unfolding numbered at coefficients halve child children whole least_number eighths
cuts_told = ((refl, refl), ((refl, refl), ((refl, refl), tt)))

-- ---- a mesh of two elements, the second with a missing node, and room for 18 words
abbrev pub two_elements : List ℕ
two_elements = in_order ++ missing_fourth

abbrev pub space : List ℤ
space = pos 7 ∷ pos 7 ∷ pos 7 ∷ pos 7 ∷ pos 7 ∷ pos 7 ∷ pos 7 ∷ pos 7 ∷ pos 7 ∷ pos 7 ∷ pos 7 ∷ pos 7 ∷ pos 7 ∷ pos 7 ∷ pos 7 ∷ pos 7 ∷ pos 7 ∷ pos 7 ∷ []

pub mesh_report : report_after base unit_cube two_elements space 0 ≡ pos 0 ∷ pos 0 ∷ pos 0 ∷ pos 0 ∷ pos 0 ∷ pos 0 ∷ pos 0 ∷ pos 0 ∷ pos 1 ∷ pos 5 ∷ pos 4 ∷ pos 8 ∷ pos 0 ∷ pos 0 ∷ pos 0 ∷ pos 0 ∷ pos 0 ∷ pos 0 ∷ []
unfolding jacobian scaled_jacobian numbered at coefficients halve child children whole corners_of coefficients_of low_point low_coefficient last_level valid_level verdict opened_below opened_cells opened record_of missing_index named_twice points_of out_of_range fault_of element_record refusal records report report_after
mesh_report = refl

pub mesh_answer : inspection base unit_cube two_elements 18 0 ≡ mesh_accepted (record { valid = 1; invalid = 0; undecided = 0; refused = 1 })
unfolding jacobian scaled_jacobian numbered at coefficients halve child children whole corners_of coefficients_of low_point low_coefficient last_level valid_level verdict opened_below opened_cells opened record_of missing_index named_twice points_of out_of_range fault_of element_record refusal records inspection
mesh_answer = refl

-- one word short: refused with 4, the space as it was
pub short_answer : inspection base unit_cube two_elements 17 0 ≡ mesh_refused bad_space
unfolding refusal inspection
short_answer = refl

-- ---- lots and their stamps at depth 0, as a single list under one claim; with one word of space too many the mesh is refused, and has none
pub record Lot : Type 0 where
  pub nodes : List ℤ
  pub indices : List ℕ
  pub stamp : Stamp

-- eight nodes in order, the first of them the ninth of its mesh
abbrev pub next_eight : List ℕ
next_eight = 8 ∷ 9 ∷ 10 ∷ 11 ∷ 12 ∷ 13 ∷ 14 ∷ 15 ∷ []

abbrev pub stamped : List Lot
stamped =
    record { nodes = unit_cube; indices = []; stamp = «open» } ∷
    record { nodes = wide_twist; indices = in_order; stamp = «open» } ∷
    record { nodes = wide_twist ++ turned; indices = in_order ++ next_eight; stamp = faulty } ∷
    record { nodes = unit_cube ++ largest; indices = in_order ++ next_eight; stamp = sound } ∷
    record { nodes = unit_cube; indices = missing_fourth ++ missing_fourth; stamp = faulty } ∷
    record { nodes = unit_cube; indices = in_order ++ missing_fourth ++ in_order; stamp = faulty } ∷
    record { nodes = unit_cube ++ wide_twist; indices = in_order ++ next_eight; stamp = «open» } ∷
    record { nodes = unit_cube ++ turned; indices = in_order ++ next_eight; stamp = faulty } ∷ []

abbrev pub Stamped : Lot → Type 0
Stamped t = (stamp_given (inspection base t.nodes t.indices (record_words * (length t.indices / 8)) 0) ≡ some t.stamp) × (stamp_given (inspection base t.nodes t.indices (suc (record_words * (length t.indices / 8))) 0) ≡ none)

pub stamped_hold : All Stamped stamped
unfolding jacobian scaled_jacobian numbered at coefficients halve child children whole corners_of coefficients_of low_point low_coefficient last_level valid_level verdict opened_below opened_cells opened record_of missing_index named_twice points_of out_of_range fault_of element_record refusal records inspection stamp_of
stamped_hold = ((refl, refl), ((refl, refl), ((refl, refl), ((refl, refl), ((refl, refl), ((refl, refl), ((refl, refl), ((refl, refl), tt))))))))

-- ---- the nine rows of the directions ξ, η and ζ, by the numbers of their coefficients
pub rows_numbered : map (λ d. rows d (λ i j k. suc (get_or numbers (9 * i + 3 * j + k) 0))) (0 ∷ 1 ∷ 2 ∷ []) ≡
    ((1 ∷ 9 ∷ 2 ∷ []) ∷ (13 ∷ 22 ∷ 14 ∷ []) ∷ (5 ∷ 17 ∷ 6 ∷ []) ∷ (12 ∷ 21 ∷ 10 ∷ []) ∷ (25 ∷ 27 ∷ 23 ∷ []) ∷ (20 ∷ 26 ∷ 18 ∷ []) ∷ (4 ∷ 11 ∷ 3 ∷ []) ∷ (16 ∷ 24 ∷ 15 ∷ []) ∷ (8 ∷ 19 ∷ 7 ∷ []) ∷ []) ∷
    ((1 ∷ 12 ∷ 4 ∷ []) ∷ (13 ∷ 25 ∷ 16 ∷ []) ∷ (5 ∷ 20 ∷ 8 ∷ []) ∷ (9 ∷ 21 ∷ 11 ∷ []) ∷ (22 ∷ 27 ∷ 24 ∷ []) ∷ (17 ∷ 26 ∷ 19 ∷ []) ∷ (2 ∷ 10 ∷ 3 ∷ []) ∷ (14 ∷ 23 ∷ 15 ∷ []) ∷ (6 ∷ 18 ∷ 7 ∷ []) ∷ []) ∷
    ((1 ∷ 13 ∷ 5 ∷ []) ∷ (12 ∷ 25 ∷ 20 ∷ []) ∷ (4 ∷ 16 ∷ 8 ∷ []) ∷ (9 ∷ 22 ∷ 17 ∷ []) ∷ (21 ∷ 27 ∷ 26 ∷ []) ∷ (11 ∷ 24 ∷ 19 ∷ []) ∷ (2 ∷ 14 ∷ 6 ∷ []) ∷ (10 ∷ 23 ∷ 18 ∷ []) ∷ (3 ∷ 15 ∷ 7 ∷ []) ∷ []) ∷ []
rows_numbered = refl
