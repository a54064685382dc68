-- The limits, which everything else takes as parameters; the length of a record; the version.
use Rattle.std.specs.Prelude.{ℕ}

pub record Limits : Type 0 where
  -- a usable coordinate lies in −range..range
  pub range : ℕ
  -- the depth D is 0 to depth
  pub depth : ℕ
  -- at most so many nodes and elements
  pub nodes : ℕ
  pub elements : ℕ

-- Document 01, "What the inspector takes", and 02, No. 8: "Raise coordinates to −1,048,576..1,048,576 and depth to 8".
abbrev pub base : Limits
base = record { range = 1048576; depth = 8; nodes = 5000; elements = 1000 }

-- 02, No. 8: "a record is nine words"
abbrev pub record_words : ℕ
record_words = 9

-- The version of what a caller sees: 1 had records of eight words. It rises with each change of a layout, a limit or an answer.
abbrev pub version : ℕ
version = 2
