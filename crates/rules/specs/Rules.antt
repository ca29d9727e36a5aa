-- What a rule asks of a family of sets, one for each cell.
use Rattle.std.specs.Prelude.{◌≡◌, ℕ, List, ◌++◌, map, Contains}
use Rattle.domains.specs.Sets.{In}
use Rattle.loads.specs.Kinds.{by_rank}
use Rattle.loads.specs.Loads.{NotHeavier}

-- a left row and a right row of cells
pub record Rule : Type 0 where
  pub left : List ℕ
  pub right : List ℕ

-- the rule names the cell c
abbrev pub Names : Rule → ℕ → Type 0
Names q c = Contains (q.left ++ q.right) c

-- a family gives each cell a mask; a choice takes one rank from the set of each cell that the rule names
abbrev pub Chosen : (ℕ → ℕ) → Rule → (ℕ → ℕ) → Type 0
Chosen F q ch = (c : ℕ) → Names q c → In (F c) (ch c)

-- the choice meets the rule: the left load is not heavier than the right
abbrev pub Meets : Rule → (ℕ → ℕ) → Type 0
Meets q ch = NotHeavier by_rank (map ch q.left) (map ch q.right)

-- some choice from the family gives the rank r to the cell c and meets the rule
abbrev pub Supported : (ℕ → ℕ) → Rule → ℕ → ℕ → Type 0
Supported F q c r = (ch : ℕ → ℕ) × Chosen F q ch × (ch c ≡ r) × Meets q ch

-- some choice from the family meets the rule
abbrev pub Meetable : (ℕ → ℕ) → Rule → Type 0
Meetable F q = (ch : ℕ → ℕ) × Chosen F q ch × Meets q ch
