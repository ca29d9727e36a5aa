-- Many rules: families in which every rank is supported, and what of given sets they leave.
use Rattle.std.specs.Prelude.{ℕ, ◌<◌, List, All, sum_by, slice_index}
use Rattle.domains.specs.Sets.{In, size}
use Rattle.rules.specs.Rules.{Rule, Names, Supported}

-- the sets of a list of cells, by the cell
abbrev pub family : List ℕ → ℕ → ℕ
family cs c = slice_index cs c

-- how many ranks the cells have in all
abbrev pub total : List ℕ → ℕ
total cs = sum_by size cs

-- every rank of a cell that the rule names is supported
abbrev pub Steady : (ℕ → ℕ) → Rule → Type 0
Steady F q = (c r : ℕ) → Names q c → In (F c) r → Supported F q c r

-- each of n cells has a rank, and every rank is supported by the family in each rule that names its cell
pub record Consistent (n : ℕ) (rules : List Rule) (F : ℕ → ℕ) : Type 0 where
  pub some : (c : ℕ) → c < n → (r : ℕ) × In (F c) r
  pub each : All (Steady F) rules

-- every rank that F has in one of n cells, G has too
abbrev pub Inside : ℕ → (ℕ → ℕ) → (ℕ → ℕ) → Type 0
Inside n F G = (c r : ℕ) → c < n → In (F c) r → In (G c) r

-- some consistent family lies within G
abbrev pub Solvable : ℕ → List Rule → (ℕ → ℕ) → Type 0
Solvable n rules G = (F : ℕ → ℕ) × Consistent n rules F × Inside n F G

-- some consistent family within G has r in the cell c
abbrev pub Remains : ℕ → List Rule → (ℕ → ℕ) → ℕ → ℕ → Type 0
Remains n rules G c r = (F : ℕ → ℕ) × Consistent n rules F × Inside n F G × In (F c) r
