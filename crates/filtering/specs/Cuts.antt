-- Cells of a store were each given a part of their set.
use Rattle.std.specs.Prelude.{◌≡◌, ℕ, ◌+◌, List, length, slice_set, Contains}
use Rattle.domains.specs.Sets.{size}
use Rattle.rules.specs.Families.{family, total}

-- the cell c has the part g of its set, and `went` ranks went
pub record CellCut (g : ℕ → ℕ) (cs cs' : List ℕ) (c went : ℕ) : Type 0 where
  pub cells : cs' ≡ slice_set cs c (g (family cs c))
  pub fewer : went + size (g (family cs c)) ≡ size (family cs c)

-- the cells of a row have each the part g of their set, and `went` ranks went in all
pub record Cut (g : ℕ → ℕ) (row cs cs' : List ℕ) (went : ℕ) : Type 0 where
  pub count : length cs' ≡ length cs
  pub named : (c : ℕ) → Contains row c → family cs' c ≡ g (family cs c)
  pub other : (c : ℕ) → (Contains row c → ⊥) → family cs' c ≡ family cs c
  pub fewer : went + total cs' ≡ total cs
