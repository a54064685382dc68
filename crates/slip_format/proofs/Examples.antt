-- Numbers and slips as they are printed, as a single list under one claim.
use Rattle.std.specs.Prelude.{◌≡◌, refl, List, [], ◌∷◌, ◌++◌, ℕ, ℤ, pos, negsuc, nat_abs}
use Rattle.std.proofs.Common.{◌∙◌, ap, arith}
use Rattle.foundation.specs.Lists.{All}
use Rattle.definitions.specs.Limits.{base}
use Rattle.definitions.specs.Jacobian.{jacobian, scaled_jacobian}
use Rattle.definitions.specs.Coefficients.{numbered, at, coefficients}
use Rattle.definitions.specs.Subdivision.{halve, child, children, whole}
use Rattle.definitions.specs.Verdict.{corners_of, coefficients_of, low_point, low_coefficient, last_level, valid_level, verdict, opened_below, opened_cells, opened}
use Rattle.definitions.specs.Record.{record_of}
use Rattle.definitions.specs.Mesh.{refusal, missing_index, named_twice, points_of, out_of_range, fault_of, element_record, records, report, inspection, stamp_of}
use Rattle.definitions.specs.Examples.{unit_cube, in_order, three_of_one, two_elements}
use Rattle.lot_format.specs.Numbers.{signed}
use Rattle.lot_format.specs.Format.{lot_file, Lot, mark_of, written}
use Rattle.lot_format.specs.Reading.{body_of, known_of, entry_of, read_from, read_lot}
use Rattle.slip_format.specs.Decimal.{digits, decimal, signed_decimal}
use Rattle.slip_format.specs.Slip.{slip_limits, mesh_slip, lot_slip, slip_of}
use Rattle.slip_format.specs.Deeper.{same_slip}

-- case A, labelled CUBE
abbrev pub cube : Lot
cube = record { label = 67 ∷ 85 ∷ 66 ∷ 69 ∷ []; nodes = unit_cube; elements = in_order; groups = [] }

-- "lot CUBE", "1 CUBE 0 0 0 0 0 0 0 0 1", "tally 1 0 0 0", "stamp sound"
abbrev pub cube_slip : List ℕ
cube_slip = (108 ∷ 111 ∷ 116 ∷ 32 ∷ 67 ∷ 85 ∷ 66 ∷ 69 ∷ 10 ∷ [])
    ++ (49 ∷ 32 ∷ 67 ∷ 85 ∷ 66 ∷ 69 ∷ 32 ∷ 48 ∷ 32 ∷ 48 ∷ 32 ∷ 48 ∷ 32 ∷ 48 ∷ 32 ∷ 48 ∷ 32 ∷ 48 ∷ 32 ∷ 48 ∷ 32 ∷ 48 ∷ 32 ∷ 49 ∷ 10 ∷ [])
    ++ (116 ∷ 97 ∷ 108 ∷ 108 ∷ 121 ∷ 32 ∷ 49 ∷ 32 ∷ 48 ∷ 32 ∷ 48 ∷ 32 ∷ 48 ∷ 10 ∷ [])
    ++ (115 ∷ 116 ∷ 97 ∷ 109 ∷ 112 ∷ 32 ∷ 115 ∷ 111 ∷ 117 ∷ 110 ∷ 100 ∷ 10 ∷ [])

-- a lot with the empty label, a group with the empty name and one named B, of whose elements one lacks a node and one has a node three times
abbrev pub nameless : Lot
nameless = record { label = []; nodes = unit_cube; elements = two_elements ++ three_of_one; groups = record { name = []; offset = 0 } ∷ record { name = 66 ∷ []; offset = 1 } ∷ [] }

-- "lot ", "1  0 0 0 0 0 0 0 0 1", "2 B 5 4 8 0 0 0 0 0 0", "3 B 7 2 4 0 0 0 0 0 0", "tally 1 0 0 2", "stamp faulty"
abbrev pub nameless_slip : List ℕ
nameless_slip = (108 ∷ 111 ∷ 116 ∷ 32 ∷ 10 ∷ [])
    ++ (49 ∷ 32 ∷ 32 ∷ 48 ∷ 32 ∷ 48 ∷ 32 ∷ 48 ∷ 32 ∷ 48 ∷ 32 ∷ 48 ∷ 32 ∷ 48 ∷ 32 ∷ 48 ∷ 32 ∷ 48 ∷ 32 ∷ 49 ∷ 10 ∷ [])
    ++ (50 ∷ 32 ∷ 66 ∷ 32 ∷ 53 ∷ 32 ∷ 52 ∷ 32 ∷ 56 ∷ 32 ∷ 48 ∷ 32 ∷ 48 ∷ 32 ∷ 48 ∷ 32 ∷ 48 ∷ 32 ∷ 48 ∷ 32 ∷ 48 ∷ 10 ∷ [])
    ++ (51 ∷ 32 ∷ 66 ∷ 32 ∷ 55 ∷ 32 ∷ 50 ∷ 32 ∷ 52 ∷ 32 ∷ 48 ∷ 32 ∷ 48 ∷ 32 ∷ 48 ∷ 32 ∷ 48 ∷ 32 ∷ 48 ∷ 32 ∷ 48 ∷ 10 ∷ [])
    ++ (116 ∷ 97 ∷ 108 ∷ 108 ∷ 121 ∷ 32 ∷ 49 ∷ 32 ∷ 48 ∷ 32 ∷ 48 ∷ 32 ∷ 50 ∷ 10 ∷ [])
    ++ (115 ∷ 116 ∷ 97 ∷ 109 ∷ 112 ∷ 32 ∷ 102 ∷ 97 ∷ 117 ∷ 108 ∷ 116 ∷ 121 ∷ 10 ∷ [])

-- a lot that has a label and nothing else
abbrev pub bare : Lot
bare = record { label = 78 ∷ 79 ∷ 78 ∷ 69 ∷ []; nodes = []; elements = []; groups = [] }

-- "lot NONE", "tally 0 0 0 0", "stamp open"
abbrev pub bare_slip : List ℕ
bare_slip = (108 ∷ 111 ∷ 116 ∷ 32 ∷ 78 ∷ 79 ∷ 78 ∷ 69 ∷ 10 ∷ [])
    ++ (116 ∷ 97 ∷ 108 ∷ 108 ∷ 121 ∷ 32 ∷ 48 ∷ 32 ∷ 48 ∷ 32 ∷ 48 ∷ 32 ∷ 48 ∷ 10 ∷ [])
    ++ (115 ∷ 116 ∷ 97 ∷ 109 ∷ 112 ∷ 32 ∷ 111 ∷ 112 ∷ 101 ∷ 110 ∷ 10 ∷ [])

-- a number, or the bytes of a file, or those of a file where only so many elements are printed, with what is printed of it
pub data Example : Type 0 where
  number : ℤ → List ℕ → Example
  file : List ℕ → List ℕ → Example
  limited : ℕ → List ℕ → List ℕ → Example

abbrev pub examples : List Example
examples =
    number (pos 0) (48 ∷ []) ∷
    number (pos 7) (55 ∷ []) ∷
    number (pos 10) (49 ∷ 48 ∷ []) ∷
    number (pos 4294967295) (52 ∷ 50 ∷ 57 ∷ 52 ∷ 57 ∷ 54 ∷ 55 ∷ 50 ∷ 57 ∷ 53 ∷ []) ∷
    number (negsuc 0) (45 ∷ 49 ∷ []) ∷
    number (negsuc 262143) (45 ∷ 50 ∷ 54 ∷ 50 ∷ 49 ∷ 52 ∷ 52 ∷ []) ∷
    number (negsuc 9223372036854775807) (45 ∷ 57 ∷ 50 ∷ 50 ∷ 51 ∷ 51 ∷ 55 ∷ 50 ∷ 48 ∷ 51 ∷ 54 ∷ 56 ∷ 53 ∷ 52 ∷ 55 ∷ 55 ∷ 53 ∷ 56 ∷ 48 ∷ 56 ∷ []) ∷
    file (written cube) cube_slip ∷
    file (written nameless) nameless_slip ∷
    file (written bare) bare_slip ∷
    file [] (114 ∷ 101 ∷ 102 ∷ 117 ∷ 115 ∷ 101 ∷ 100 ∷ 32 ∷ 50 ∷ 49 ∷ 10 ∷ []) ∷
    limited 2 (written nameless) (114 ∷ 101 ∷ 102 ∷ 117 ∷ 115 ∷ 101 ∷ 100 ∷ 32 ∷ 50 ∷ 54 ∷ 10 ∷ []) ∷ []

-- The one claim.
abbrev pub Printed : Example → Type 0
Printed (number z text) = signed_decimal z ≡ text
Printed (file bytes text) = slip_of base lot_file slip_limits bytes ≡ text
Printed (limited most bytes text) = slip_of base lot_file (record { depth = slip_limits.depth; elements = most }) bytes ≡ text

-- the first two lots have no undecided element, so that their slips at depth 0 are those at depth 3
cube_printed : Printed (file (written cube) cube_slip)
unfolding jacobian scaled_jacobian numbered at coefficients halve child children whole corners_of coefficients_of low_point low_coefficient last_level valid_level verdict opened_below opened_cells opened record_of missing_index named_twice points_of out_of_range fault_of element_record refusal records report inspection stamp_of signed mark_of written body_of known_of entry_of read_from read_lot digits decimal mesh_slip lot_slip slip_of
cube_printed = same_slip base 0 3 (omega arith) (omega arith) cube (λ e. absurd (omega (arith, ap nat_abs e)), tt) lot_file slip_limits.elements (written cube) refl ∙ refl

nameless_printed : Printed (file (written nameless) nameless_slip)
unfolding jacobian scaled_jacobian numbered at coefficients halve child children whole corners_of coefficients_of low_point low_coefficient last_level valid_level verdict opened_below opened_cells opened record_of missing_index named_twice points_of out_of_range fault_of element_record refusal records report inspection stamp_of signed mark_of written body_of known_of entry_of read_from read_lot digits decimal mesh_slip lot_slip slip_of
nameless_printed = same_slip base 0 3 (omega arith) (omega arith) nameless (λ e. absurd (omega (arith, ap nat_abs e)), (λ e. absurd (omega (arith, ap nat_abs e)), (λ e. absurd (omega (arith, ap nat_abs e)), tt))) lot_file slip_limits.elements (written nameless) refl ∙ refl

bare_printed : Printed (file (written bare) bare_slip)
unfolding refusal records report inspection stamp_of mark_of written body_of known_of entry_of read_from read_lot digits decimal mesh_slip lot_slip slip_of
bare_printed = refl

pub examples_printed : All Printed examples
unfolding signed mark_of written body_of known_of entry_of read_from read_lot digits decimal lot_slip slip_of
examples_printed = (refl, (refl, (refl, (refl, (refl, (refl, (refl, (cube_printed, (nameless_printed, (bare_printed, (refl, (refl, tt))))))))))))
