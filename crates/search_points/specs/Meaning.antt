-- What the answer of the bounds stands for.
use Rattle.std.specs.Prelude.{ℤ}
use Rattle.verdict_theory.specs.Extremes.{Extremes}
use Rattle.cell_bounds.specs.declared.Extremes.{Extremes as HeldExtremes}

abbrev pub extremes_of : HeldExtremes ℤ → Extremes
extremes_of e = record { low = e.low; high = e.high }
