-- Bounds from the marks: how far one member of a load may be moved before the left load outweighs the right.
use Rattle.std.specs.Prelude.{◌≡◌, ℕ, ◌-◌, ◌<◌, ◌≤◌, ◌↔◌, min, max, List, length, Some, None, Option, nat_le, nat_lt, slice_index, slice_set, if◌then◌else◌}
use Rattle.loads.specs.Counts.{Counted}
use Rattle.loads.specs.Kinds.{by_rank}
use Rattle.loads.specs.Loads.{NotHeavier}
use Rattle.marking.specs.declared.bounds.Bounds.{Bounds}
use Rattle.marking.specs.Marks.{Marked, OnlyMarks}
use Rattle.marking.specs.declared.marks.Marks.{Marks}

-- xs and ys are loads of ranks below 48 that have the counts ox and oy
pub record Loaded (ox oy : ℕ → ℕ) (xs ys : List ℕ) : Type 0 where
  pub left_counted : Counted ox 48 xs
  pub right_counted : Counted oy 48 ys

-- m are the marks of ox and oy, and at α, the highest rank whose counts differ, the left has fewer
pub record FewerAtAlpha (ox oy : ℕ → ℕ) (m : Marks) (α : ℕ) : Type 0 where
  pub marked : Marked ox oy m
  pub at : m.alpha ≡ Some α
  pub ranked : α < 48
  pub fewer : ox α < oy α

-- The floor of α: a member of the left load may be raised to α exactly from a rank at the floor or above, and a member α of
-- the right load may be lowered exactly to such a rank.
pub record IsFloor (ox oy : ℕ → ℕ) (α fl : ℕ) : Type 0 where
  pub raised : (xs ys : List ℕ) → Loaded ox oy xs ys → (i : ℕ) → i < length xs → slice_index xs i < α → ((fl ≤ slice_index xs i) ↔ NotHeavier by_rank (slice_set xs i α) ys)
  pub lowered : (xs ys : List ℕ) → Loaded ox oy xs ys → (i r : ℕ) → i < length ys → slice_index ys i ≡ α → r < α → ((fl ≤ r) ↔ NotHeavier by_rank xs (slice_set ys i r))

-- the highest rank that a left member a may be raised to, and the lowest that a right member b may be lowered to, by α and its
-- floor: without them neither may be moved
abbrev pub left_most : Option ℕ → Option ℕ → ℕ → ℕ
left_most None fl a = a
left_most (Some α) None a = a
left_most (Some α) (Some fl) a = max a (if nat_le fl a then α else α - 1)

abbrev pub right_least : Option ℕ → Option ℕ → ℕ → ℕ
right_least None fl b = b
right_least (Some α) None b = b
right_least (Some α) (Some fl) b = if nat_lt b α then 0 else if nat_lt α b then b else min fl b

-- b decides for all loads with the counts ox and oy: the left is not heavier, and stays so exactly within the bounds
pub record BoundsOf (ox oy : ℕ → ℕ) (b : Bounds) : Type 0 where
  pub marks_are : OnlyMarks ox oy b.marks
  pub met : (xs ys : List ℕ) → Loaded ox oy xs ys → NotHeavier by_rank xs ys
  pub left : (xs ys : List ℕ) → Loaded ox oy xs ys → (i r : ℕ) → i < length xs → slice_index xs i ≤ r
      → ((r ≤ left_most b.marks.alpha b.floor (slice_index xs i)) ↔ NotHeavier by_rank (slice_set xs i r) ys)
  pub right : (xs ys : List ℕ) → Loaded ox oy xs ys → (i r : ℕ) → i < length ys → r ≤ slice_index ys i
      → ((right_least b.marks.alpha b.floor (slice_index ys i) ≤ r) ↔ NotHeavier by_rank xs (slice_set ys i r))

-- of all loads with these counts the left is the heavier
abbrev pub Outweighs : (ℕ → ℕ) → (ℕ → ℕ) → Type 0
Outweighs ox oy = (xs ys : List ℕ) → Loaded ox oy xs ys → NotHeavier by_rank xs ys → ⊥
