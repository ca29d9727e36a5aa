-- What the counts of a rule's best ranks say: its marks, and what the bounds leave of each cell's set.
use Rattle.std.specs.Prelude.{ℕ, ◌↔◌, List, length, Contains}
use Rattle.domains.specs.Sets.{In, up_to, from}
use Rattle.loads.specs.Kinds.{by_rank}
use Rattle.loads.specs.Loads.{count}
use Rattle.marking.specs.Bounds.{left_most, right_least}
use Rattle.marking.specs.Marks.{OnlyMarks}
use Rattle.marking.specs.declared.bounds.Bounds.{Bounds}
use Rattle.marking.specs.declared.marks.Marks.{Marks}
use Rattle.rules.specs.Ends.{Ends}
use Rattle.rules.specs.Families.{family}
use Rattle.rules.specs.Rows.{Fit}
use Rattle.rules.specs.Rules.{Rule, Supported, Meetable}
use Rattle.filtering.specs.Sides.{lowest, highest, bests}
use Rattle.filtering.specs.declared.sides.Side.{Side}
use Rattle.filtering.specs.declared.sides.Side.TheVariants.{Left, Right}

-- how often the rank h is the best of a cell of the row
abbrev pub tally : Side → List ℕ → List ℕ → ℕ → ℕ
tally side cs row h = count by_rank h (bests side cs row)

-- m are the marks of the rule, which some choice meets: those of the counts of the lowest ranks of its left cells and of
-- the highest of its right cells
pub record MarksOf (cs : List ℕ) (q : Rule) (m : Marks) : Type 0 where
  pub fit : Fit (length cs) q.left q.right
  pub choice : Meetable (family cs) q
  pub ends : Ends (family cs) q (λ c. lowest (family cs c)) (λ c. highest (family cs c))
  pub marks_are : OnlyMarks (tally Left cs q.left) (tally Right cs q.right) m

-- the row of a side
abbrev pub side_row : Side → Rule → List ℕ
side_row Left q = q.left
side_row Right q = q.right

-- what the bounds leave of a cell's set
abbrev pub kept : Side → Bounds → ℕ → ℕ
kept Left b m = up_to m (left_most b.marks.alpha b.floor (lowest m))
kept Right b m = from m (right_least b.marks.alpha b.floor (highest m))

-- the bounds leave each cell that the rule names exactly its supported ranks
pub record Bounded (cs : List ℕ) (q : Rule) (b : Bounds) : Type 0 where
  pub marks : MarksOf cs q b.marks
  pub each : (side : Side) (c r : ℕ) → Contains (side_row side q) c → (In (kept side b (family cs c)) r ↔ Supported (family cs) q c r)
