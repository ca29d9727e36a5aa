-- When two rows of cells make a rule for n cells.
use Rattle.std.specs.Prelude.{◌≡◌, ℕ, ◌<◌, ◌≤◌, List, ◌++◌, length, ◌≢◌, slice_index}
use Rattle.rules.specs.declared.rows.Rows.{Rows}
use Rattle.rules.specs.declared.faults.RowFault.{RowFault}
use Rattle.rules.specs.declared.faults.RowFault.TheVariants.{BadLength, NoCell, NamedTwice}

-- the cells of two rows: the left row's, and the right row's after them
abbrev pub cells : Rows → List ℕ
cells rows = rows.left.now ++ rows.right.now

-- a row has 1 to 16 cells
pub record RowSized (row : List ℕ) : Type 0 where
  pub some : 1 ≤ length row
  pub few : length row ≤ 16

-- every cell is below n
abbrev pub Below : ℕ → List ℕ → Type 0
Below n cs = (i : ℕ) → i < length cs → slice_index cs i < n

-- some cell is not
abbrev pub Past : ℕ → List ℕ → Type 0
Past n cs = (i : ℕ) × (i < length cs) × (n ≤ slice_index cs i)

-- two places hold the same cell
abbrev pub Repeat : List ℕ → Type 0
Repeat cs = (i : ℕ) × (j : ℕ) × (i < j) × (j < length cs) × (slice_index cs i ≡ slice_index cs j)

-- no two places do
abbrev pub Apart : List ℕ → Type 0
Apart cs = (i j : ℕ) → i < j → j < length cs → slice_index cs i ≢ slice_index cs j

-- the two rows are fit
pub record Fit (n : ℕ) (left right : List ℕ) : Type 0 where
  pub left_sized : RowSized left
  pub right_sized : RowSized right
  pub below : Below n (left ++ right)
  pub apart : Apart (left ++ right)

-- why they are not: the first of the three that applies
abbrev pub Unfit : ℕ → List ℕ → List ℕ → RowFault → Type 0
Unfit n left right BadLength = RowSized left → RowSized right → ⊥
Unfit n left right NoCell = RowSized left × RowSized right × Past n (left ++ right)
Unfit n left right NamedTwice = RowSized left × RowSized right × Below n (left ++ right) × Repeat (left ++ right)
