-- Document 01: "Bounds for eight points at depth D", both times 8 · 64^D.
use Rattle.std.specs.Prelude.{List, map, ℕ, suc, ◌^◌, ℤ}
use Rattle.foundation.specs.Lists.{concat_map, tabulate}
use Rattle.foundation.specs.Least.{least_of}
use Rattle.definitions.specs.Jacobian.{scaled_jacobian}
use Rattle.definitions.specs.Subdivision.{cells}
use Rattle.definitions.specs.Verdict.{coefficients_of}

-- "low is the least coefficient of all level-D cubes"
unfoldable pub low : List ℤ → ℕ → ℤ
low xs D = least_of (map (λ f. f.value) (concat_map coefficients_of (cells xs D)))

-- J at every grid point of level m
abbrev pub grid_values : List ℤ → ℕ → List ℤ
grid_values xs m = let n = suc (2 ^ m) in concat_map (λ a. concat_map (λ b. tabulate (scaled_jacobian xs m a b) 0 n) (tabulate (λ b. b) 0 n)) (tabulate (λ a. a) 0 n)

-- "high is the least J over all level-D grid points"
unfoldable pub high : List ℤ → ℕ → ℤ
high xs D = least_of (grid_values xs D)
