-- Document 01, "House rules for later papers": when a label and groups are right. The writer and the namer test them alike.
use Rattle.std.specs.Prelude.{Bool, true, false, ◌&&◌, List, [], ◌∷◌, ℕ, eqb, leb, length}
use Rattle.std.proofs.Math.Option.{Option, none, some}
use Rattle.foundation.specs.Lists.{sum}
use Rattle.lot_format.specs.Format.{FileLimits, name_bytes}

-- a test with the refusal that it gives, and the refusal of the first test that fails
pub record Test (R : Type 0) : Type 0 where
  pub passed : Bool
  pub otherwise : R

abbrev pub first_failed : {R : Type 0} → List (Test R) → Option R
first_failed [] = none
first_failed (t ∷ ts) = elim t.passed [ true ↦ first_failed ts | false ↦ some t.otherwise ]

-- "lists of different length, lengths that don't add up to the names, or a count that falls or passes the elements, are 24"
-- counts from `low` on that don't fall and don't pass `high`
abbrev pub rising : ℕ → ℕ → List ℕ → Bool
rising low high [] = true
rising low high (b ∷ bs) = leb low b && (leb b high && rising b high bs)

-- the lengths and the counts, where there are so many bytes of names and so many elements
abbrev pub fit_together : List ℕ → List ℕ → ℕ → ℕ → Bool
fit_together lengths offsets names elements = eqb (length lengths) (length offsets) && (eqb (sum lengths) names && rising 0 elements offsets)

-- "A label or name is 0 to 32 bytes, each 32..126; a longer one handed in is 23, then a wrong byte in it 25."
abbrev pub all_up_to : ℕ → List ℕ → Bool
all_up_to n [] = true
all_up_to n (x ∷ xs) = leb x n && all_up_to n xs

-- the length of the label and the lengths of the names
abbrev pub short_names : FileLimits → ℕ → List ℕ → Bool
short_names F label lengths = leb label F.name && all_up_to F.name lengths

-- the bytes of the label and of the names
abbrev pub clean_names : List ℕ → List ℕ → Bool
clean_names label names = name_bytes label && name_bytes names

-- These tests in order: the refusals that stand for 24, 23 and 25; the label; the groups; the number of elements.
abbrev pub group_tests : {R : Type 0} → R → R → R → FileLimits → List ℕ → List ℕ → List ℕ → List ℕ → ℕ → List (Test R)
group_tests apart too_long bad_byte F label names lengths offsets elements =
    record { passed = fit_together lengths offsets (length names) elements; otherwise = apart } ∷
    record { passed = short_names F (length label) lengths; otherwise = too_long } ∷
    record { passed = clean_names label names; otherwise = bad_byte } ∷ []
