-- What the answers stand for in the definitions, case by case; document 01's numbers are given there.
use Rattle.std.specs.Prelude.{ℕ, Result, Ok, Err}
use Rattle.definitions.specs.Mesh.{MeshRefusal, depth_too_great, bad_coordinates, bad_indices, bad_space, Inspection, mesh_accepted, mesh_refused, Bounds, bounds, too_deep, out_of_limits, bounds_number}
use Rattle.wide_number.specs.Meaning.{value_of}
use Rattle.inspection_counts.specs.Meaning.{counts_held}
use Rattle.inspection_counts.specs.declared.Counts.{Counts as HeldCounts}
use Rattle.inspection_answers.specs.declared.Refusal.{Refusal}
use Rattle.inspection_answers.specs.declared.Refusal.TheVariants.{DepthTooGreat, BadCoordinates, BadIndices, BadSpace}
use Rattle.inspection_answers.specs.declared.Bounds.{Bounds as HeldBounds}
use Rattle.inspection_answers.specs.declared.BoundsRefusal.{BoundsRefusal}
use Rattle.inspection_answers.specs.declared.BoundsRefusal.TheVariants.{TooDeep, OutOfRange}

abbrev pub refusal_held : Refusal → MeshRefusal
refusal_held DepthTooGreat = depth_too_great
refusal_held BadCoordinates = bad_coordinates
refusal_held BadIndices = bad_indices
refusal_held BadSpace = bad_space

abbrev pub inspection_held : Result HeldCounts Refusal → Inspection
inspection_held (Ok n) = mesh_accepted (counts_held n)
inspection_held (Err r) = mesh_refused (refusal_held r)

abbrev pub bounds_refusal_held : BoundsRefusal → Bounds
bounds_refusal_held TooDeep = too_deep
bounds_refusal_held OutOfRange = out_of_limits

abbrev pub bounds_refusal_number : BoundsRefusal → ℕ
bounds_refusal_number r = bounds_number (bounds_refusal_held r)

abbrev pub bounds_held : Result HeldBounds BoundsRefusal → Bounds
bounds_held (Ok b) = bounds (value_of b.low) (value_of b.high)
bounds_held (Err r) = bounds_refusal_held r
