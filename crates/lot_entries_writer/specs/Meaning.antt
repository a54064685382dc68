-- What the callers of the entries see to.
use Rattle.std.specs.Prelude.{◌≡◌, true, List, ℕ, ◌/◌, ◌%◌, length}
use Rattle.foundation.specs.Lists.{sum}
use Rattle.lot_format.specs.Format.{lot_file}
use Rattle.lot_format.specs.Groups.{rising, all_up_to}

-- what the groups of a lot keep to: lengths and counts in pairs, lengths that add up to the names, counts that rise, and names that are short
pub record Grouped (elements names lengths offsets : List ℕ) : Type 0 where
  pub eights : length elements % 8 ≡ 0
  pub paired : length lengths ≡ length offsets
  pub sums : sum lengths ≡ length names
  pub rises : rising 0 (length elements / 8) offsets ≡ true
  pub short : all_up_to lot_file.name lengths ≡ true
