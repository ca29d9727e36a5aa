-- Filtering by a rule, and by the same rule again.
use Rattle.std.specs.Prelude.{◌≡◌, ℕ, ◌^◌, ◌<◌, List, length}
use Rattle.rules.specs.Families.{family}
use Rattle.rules.specs.Filtered.{Filtered}
use Rattle.rules.specs.Rules.{Rule}

-- the masks of cells that some store has
abbrev pub Sets : List ℕ → Type 0
Sets cs = (c : ℕ) → c < length cs → family cs c < 2 ^ 48

-- the second time nothing goes, and the cells stay as they are
abbrev pub NothingAgain : Type 0
NothingAgain = (cs cs' cs'' : List ℕ) (q : Rule) (went again : ℕ) → Sets cs → Sets cs' → Sets cs'' → Filtered cs cs' q went → Filtered cs' cs'' q again
    → (again ≡ 0) × (cs'' ≡ cs')
