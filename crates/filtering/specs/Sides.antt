-- What is best for a rule: the lowest rank of a left cell, and the highest of a right cell.
use Rattle.std.specs.Prelude.{ℕ, ◌-◌, List, map}
use Rattle.std.specs.Int.Count.{count_trailing_zeros, count_leading_zeros}
use Rattle.rules.specs.Families.{family}
use Rattle.filtering.specs.declared.sides.Side.{Side}
use Rattle.filtering.specs.declared.sides.Side.TheVariants.{Left, Right}

-- the lowest rank of a set, and the highest: as many zeros end its mask as there are ranks below its lowest, and as many
-- begin its 64 digits as there are places above its highest
unfoldable pub lowest : ℕ → ℕ
lowest m = count_trailing_zeros 64 m

unfoldable pub highest : ℕ → ℕ
highest m = 63 - count_leading_zeros 64 m

abbrev pub best : Side → ℕ → ℕ
best Left m = lowest m
best Right m = highest m

-- the best rank of each cell of a row
abbrev pub bests : Side → List ℕ → List ℕ → List ℕ
bests side cs row = map (λ c. best side (family cs c)) row
