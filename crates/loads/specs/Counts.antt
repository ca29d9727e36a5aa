-- Loads of ranks below a bound, compared by their occurrence counts from the highest rank down.
use Rattle.std.specs.Prelude.{◌≡◌, ℕ, zero, suc, ◌<◌, ◌≤◌, cond, List, nat_lt, ◌≢◌, Option, Some, None}
use Rattle.std.specs.List.{AllByRecursion}
use Rattle.loads.specs.declared.weighing.Weight.{Weight}
use Rattle.loads.specs.declared.weighing.Weight.TheVariants.{Lighter as lighter, Equal as equal, Heavier as heavier}
use Rattle.loads.specs.Kinds.{by_rank}
use Rattle.loads.specs.Loads.{count, Weighed}

-- ox and oy say how often each rank occurs on the left and on the right: of the ranks below k + 1 look at k, and at
-- equality go on with those below k
abbrev pub by_counts : (ℕ → ℕ) → (ℕ → ℕ) → ℕ → Weight
by_counts ox oy zero = equal
by_counts ox oy (suc k) = cond (nat_lt (ox k) (oy k)) lighter (cond (nat_lt (oy k) (ox k)) heavier (by_counts ox oy k))

-- the two occur equally often at each rank from k up that is below d
abbrev pub AgreeFrom : (ℕ → ℕ) → (ℕ → ℕ) → ℕ → ℕ → Type 0
AgreeFrom ox oy k d = (r : ℕ) → k ≤ r → r < d → ox r ≡ oy r

-- the highest rank below d that occurs more often in one than in the other
abbrev pub Deciding : (ℕ → ℕ) → (ℕ → ℕ) → ℕ → Option ℕ → Type 0
Deciding ox oy d None = AgreeFrom ox oy 0 d
Deciding ox oy d (Some k) = (k < d) × (ox k ≢ oy k) × AgreeFrom ox oy (suc k) d

-- all ranks of xs are below d, and ox says how often each occurs
pub record Counted (ox : ℕ → ℕ) (d : ℕ) (xs : List ℕ) : Type 0 where
  pub bounded : AllByRecursion (λ r. r < d) xs
  pub counts : (r : ℕ) → r < d → ox r ≡ count by_rank r xs

-- the answer by the counts is the answer for any loads that have these counts
pub record ByCounts (ox oy : ℕ → ℕ) (d : ℕ) (w : Weight) : Type 0 where
  pub value : w ≡ by_counts ox oy d
  pub loads : (xs ys : List ℕ) → Counted ox d xs → Counted oy d ys → Weighed by_rank w xs ys
