-- What the answer of the bounds stands for.
use Rattle.std.specs.Prelude.{ℤ}
use Rattle.verdict_theory.specs.Extremes.{Extremes}
use Rattle.cell_bounds.specs.declared.Extremes.{Extremes as HeldExtremes}

abbrev pub extremes_of : {N : Type 0} → (N → ℤ) → HeldExtremes N → Extremes
extremes_of value e = record { low = value e.low; high = value e.high }
