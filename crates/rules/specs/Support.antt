-- Which ranks a rule supports: the best choice decides, and one pass over the rule is enough.
use Rattle.std.specs.Prelude.{ℕ, ◌≤◌, ◌↔◌, ◌++◌, map, Contains}
use Rattle.domains.specs.Sets.{In}
use Rattle.loads.specs.Kinds.{by_rank}
use Rattle.loads.specs.Loads.{NotHeavier}
use Rattle.rules.specs.Ends.{Ends, but}
use Rattle.rules.specs.Rows.{Apart}
use Rattle.rules.specs.Rules.{Rule, Names, Supported, Meetable}

-- what holds of every family and every rule that names no cell twice
pub record Supports (F : ℕ → ℕ) (q : Rule) (lo hi : ℕ → ℕ) : Type 0 where
  -- some choice meets the rule exactly when the best one does
  pub meets : Meetable F q ↔ NotHeavier by_rank (map lo q.left) (map hi q.right)
  -- r is supported at a left cell exactly when r there, every other left cell at its lowest and every right cell at its highest meets the rule
  pub left : (c r : ℕ) → Contains q.left c → (Supported F q c r ↔ (In (F c) r × NotHeavier by_rank (map (but lo c r) q.left) (map hi q.right)))
  -- and dually at a right cell
  pub right : (c r : ℕ) → Contains q.right c → (Supported F q c r ↔ (In (F c) r × NotHeavier by_rank (map lo q.left) (map (but hi c r) q.right)))
  -- so the supported ranks of a left cell are its lower ones, and of a right cell its higher ones
  pub left_down : (c r s : ℕ) → Contains q.left c → Supported F q c s → r ≤ s → In (F c) r → Supported F q c r
  pub right_up : (c r s : ℕ) → Contains q.right c → Supported F q c s → s ≤ r → In (F c) r → Supported F q c r
  -- and where some choice meets the rule, every cell that it names has a supported rank
  pub lowest : NotHeavier by_rank (map lo q.left) (map hi q.right) → (c : ℕ) → Contains q.left c → Supported F q c (lo c)
  pub highest : NotHeavier by_rank (map lo q.left) (map hi q.right) → (c : ℕ) → Contains q.right c → Supported F q c (hi c)

abbrev pub BestDecides : Type 0
BestDecides = (F : ℕ → ℕ) (q : Rule) (lo hi : ℕ → ℕ) → Ends F q lo hi → Apart (q.left ++ q.right) → Supports F q lo hi

-- support is monotone in the family
abbrev pub SupportGrows : Type 0
SupportGrows = (F G : ℕ → ℕ) (q : Rule) → ((x r : ℕ) → Names q x → In (G x) r → In (F x) r) → (c r : ℕ) → Supported G q c r → Supported F q c r

-- the family of the supported ranks supports all of its own: filtering again removes nothing
abbrev pub OncePerRule : Type 0
OncePerRule = (F : ℕ → ℕ) (q : Rule) (lo hi : ℕ → ℕ) → Ends F q lo hi → Apart (q.left ++ q.right) → NotHeavier by_rank (map lo q.left) (map hi q.right)
    → (G : ℕ → ℕ) → ((x r : ℕ) → Names q x → In (G x) r → In (F x) r × Supported F q x r) → ((x r : ℕ) → Names q x → In (F x) r → Supported F q x r → In (G x) r)
    → (c r : ℕ) → Names q c → In (G c) r → Supported G q c r
