-- Vectors whose determinant fits a word, in all its parts.
use Rattle.std.specs.Prelude.{List, ℕ, ◌^◌, ℤ}
use Rattle.foundation.specs.Words.{Within}

-- three vectors with one limit for all, or a shorter one before two that may be longer
pub data Sort : Type 0 where
  alike : Sort
  shorter : Sort

-- the most that the first vector's coordinates may be, and the most that the others' may be
abbrev pub first_limit : Sort → ℕ
first_limit alike = 2 ^ 18
first_limit shorter = 2 ^ 11

abbrev pub other_limit : Sort → ℕ
other_limit alike = 2 ^ 18
other_limit shorter = 2 ^ 22

pub record Fitting (u v w : List ℤ) : Type 0 where
  pub sort : Sort
  pub first : Within (first_limit sort) u
  pub second : Within (other_limit sort) v
  pub third : Within (other_limit sort) w
