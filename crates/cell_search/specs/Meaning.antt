-- What is told, before a child is made, of a pass and of the children that are left.
use Rattle.std.specs.Prelude.{Bool, List, ℕ, ℤ}
use Rattle.verdict_theory.specs.Search.{Pass}
use Rattle.search_theory.specs.Visit.{RestTold}

-- a pass as it is, in no other words
abbrev pub itself : Pass → Pass
itself p = p

abbrev pub Rest : Pass → ℕ → List ℤ → ℕ → Bool → Pass → Type 0
Rest p left g n known q = RestTold itself p left g n known q
