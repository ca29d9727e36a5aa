-- A cell is capped at a rank: it keeps the part of its set up to that rank, where that part has a rank.
use Rattle.std.specs.Prelude.{◌≡◌, ℕ, ◌<◌, ◌≤◌, ◌⊎◌, List, length, slice_index, slice_set}
use Rattle.domains.specs.Sets.{up_to}

-- there is such a cell, and its part up to the rank has a rank
abbrev pub CanCap : List ℕ → ℕ → ℕ → Type 0
CanCap cs cell rank = (cell < length cs) × (0 < up_to (slice_index cs cell) rank)

abbrev pub CannotCap : List ℕ → ℕ → ℕ → Type 0
CannotCap cs cell rank = (length cs ≤ cell) ⊎ (up_to (slice_index cs cell) rank ≡ 0)

abbrev pub Capped : List ℕ → ℕ → ℕ → List ℕ → Type 0
Capped cs cell rank cs' = CanCap cs cell rank × (cs' ≡ slice_set cs cell (up_to (slice_index cs cell) rank))
