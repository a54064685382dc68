-- The magnitudes that follow from the range of coordinates: the digits of the volumes, and the rows of the table against these, fit one word.
use Rattle.std.specs.Prelude.{ℕ, ◌*◌, ◌^◌}
use Rattle.definitions.specs.Limits.{base}

-- an edge is at most twice the range, the sum of two edges at most four times
abbrev pub edge_limit : ℕ
edge_limit = 2 * base.range

abbrev pub middle_limit : ℕ
middle_limit = 4 * base.range

-- a digit of an edge's coordinate
abbrev pub digit_limit : ℕ
digit_limit = 2 ^ 11
