-- Where a record ends.
use Rattle.std.specs.Prelude.{ℕ, ◌+◌, ◌<◌, ◌≤◌}
use Rattle.orders.specs.Parse.{Parsed, order, nothing, cut, unknown}

-- a whole record at the place p has a byte at least, and ends at e or before
abbrev pub Within : ℕ → ℕ → Parsed → Type 0
Within p e (order s n) = (0 < n) × (p + n ≤ e)
Within p e nothing = Unit {0}
Within p e cut = Unit {0}
Within p e unknown = Unit {0}
