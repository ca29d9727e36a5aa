use Rattle.std.proofs.Common.{◌≡◌, ℕ, ◌<◌, get_or}
use Rattle.rules.specs.Rows.{cells}
use Rattle.rules.proofs.rows.Rows.has_repeat.Given as goal

-- no two of the places before i hold the same cell
abbrev pub invariant-loop-i : goal.invariant-loop-i
invariant-loop-i l = ((a b : ℕ) → b < a → a < l.i → get_or (cells l.self) a 0 ≡ get_or (cells l.self) b 0 → ⊥)

-- no place before j holds the cell at i
abbrev pub invariant-loop-j : goal.invariant-loop-j
invariant-loop-j l = ((b : ℕ) → b < l.j → get_or (cells l.self) l.i 0 ≡ get_or (cells l.self) b 0 → ⊥)
