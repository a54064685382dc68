-- The range of coordinates, and the magnitudes that follow.
use Rattle.std.specs.Prelude.{ℕ, ◌*◌, ◌^◌}

-- coordinates up to this magnitude have volumes and sums of rows that fit one word
abbrev pub narrow_range : ℕ
narrow_range = 2 ^ 16

-- An edge is at most twice the range, the sum of two edges at most four times, and a determinant has six products.
abbrev pub edge_limit : ℕ
edge_limit = 2 * narrow_range

abbrev pub middle_limit : ℕ
middle_limit = 4 * narrow_range

abbrev pub volume_limit : ℕ
volume_limit = 6 * (edge_limit * (middle_limit * middle_limit))
