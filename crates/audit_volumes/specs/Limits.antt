-- The magnitudes that follow from the range of coordinates.
use Rattle.std.specs.Prelude.{ℕ, ◌*◌}
use Rattle.definitions.specs.Limits.{base}

-- an edge is at most twice the range, the sum of two edges at most four times
abbrev pub edge_limit : ℕ
edge_limit = 2 * base.range

abbrev pub middle_limit : ℕ
middle_limit = 4 * base.range

-- a determinant has six products
abbrev pub volume_limit : ℕ
volume_limit = 6 * (edge_limit * (middle_limit * middle_limit))
