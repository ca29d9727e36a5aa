-- The best choice for a rule: the lowest rank of each left cell, the highest of each right cell.
use Rattle.std.specs.Prelude.{ℕ, ◌≤◌, if◌then◌else◌, ◌==◌, Contains}
use Rattle.domains.specs.Sets.{In}
use Rattle.rules.specs.Rules.{Rule}

pub record Ends (F : ℕ → ℕ) (q : Rule) (lo hi : ℕ → ℕ) : Type 0 where
  pub low : (x : ℕ) → Contains q.left x → In (F x) (lo x)
  pub high : (x : ℕ) → Contains q.right x → In (F x) (hi x)
  pub least : (x r : ℕ) → Contains q.left x → In (F x) r → lo x ≤ r
  pub most : (x r : ℕ) → Contains q.right x → In (F x) r → r ≤ hi x

-- r at the cell c, and elsewhere as f
abbrev pub but : (ℕ → ℕ) → ℕ → ℕ → ℕ → ℕ
but f c r x = if x == c then r else f x
