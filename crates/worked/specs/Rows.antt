-- What a row of the table claims, over the definitions that the contracts use.
use Rattle.std.specs.Prelude.{ℕ, List}
use Rattle.filtering.specs.Bounded.{MarksOf}
use Rattle.loads.specs.declared.weighing.Weight.{Weight}
use Rattle.loads.specs.Kinds.{by_rank}
use Rattle.loads.specs.Loads.{Weighed}
use Rattle.marking.specs.declared.marks.Marks.{Marks}
use Rattle.rules.specs.Filtered.{rule, Filtered, Unfiltered}
use Rattle.rules.specs.declared.faults.FilterFault.TheVariants.{NothingLeft}

-- Cells are their masks, in which rank r counts 2 ^ r; a rule is its left and its right row of cells.
pub data Row : Type 0 where
  -- a load of ranks on the left, one on the right, and what the left is against the right
  weighing : List ℕ → List ℕ → Weight → Row
  -- cells, the two rows of a rule, and its marks
  marked : List ℕ → List ℕ → List ℕ → Marks → Row
  -- cells, the two rows of a rule, the cells after filtering by it, and how many ranks went
  filtered : List ℕ → List ℕ → List ℕ → List ℕ → ℕ → Row
  -- cells, and the two rows of a rule that no choice meets
  unmet : List ℕ → List ℕ → List ℕ → Row

abbrev pub Holds : Row → Type 0
Holds (weighing left right w) = Weighed by_rank w left right
Holds (marked cells left right m) = MarksOf cells (rule left right) m
Holds (filtered cells left right after went) = Filtered cells after (rule left right) went
Holds (unmet cells left right) = Unfiltered cells (rule left right) NothingLeft
