-- What is found, as the theorems speak of it.
use Rattle.std.specs.Prelude.{Bool, true, false}
use Rattle.definitions.specs.Verdict.{Finding}
use Rattle.verdict_theory.specs.Search.{Found, nothing, coefficient, point}
use Rattle.search_pass.specs.declared.Finding.{Finding as HeldFinding}
use Rattle.search_pass.specs.declared.Found.{Found as HeldFound}
use Rattle.search_pass.specs.declared.Found.TheVariants.{Nothing, Coefficient, Corner}

abbrev pub finding_of : HeldFinding → Finding
finding_of f = record { number = f.number; a = f.place.a; b = f.place.b; c = f.place.c; value = f.value }

abbrev pub found_of : HeldFound → Found
found_of Nothing = nothing
found_of (Coefficient f) = coefficient (finding_of f)
found_of (Corner f) = point (finding_of f)

abbrev pub found_nothing : Found → Bool
found_nothing nothing = true
found_nothing (coefficient f) = false
found_nothing (point f) = false
