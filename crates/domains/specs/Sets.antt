-- A set of ranks is written as a number, its mask, in which rank r counts 2 ^ r.
use Rattle.std.specs.Prelude.{◌≡◌, ℕ, zero, suc, ◌+◌, ◌-◌, ◌*◌, ◌/◌, ◌%◌, ◌^◌, ◌<◌, ◌≤◌}

-- rank r is in the set with the mask m
abbrev pub In : ℕ → ℕ → Type 0
In m r = m / 2 ^ r % 2 ≡ 1

-- the part of m up to rank r, and the part from rank r
abbrev pub up_to : ℕ → ℕ → ℕ
up_to m r = m % 2 ^ (r + 1)

abbrev pub from : ℕ → ℕ → ℕ
from m r = m / 2 ^ r * 2 ^ r

-- the full scale of a width: all ranks below it
abbrev pub full_scale : ℕ → ℕ
full_scale d = 2 ^ d - 1

-- the ranks from a up to b
abbrev pub run : ℕ → ℕ → ℕ
run a b = from (2 ^ (b + 1) - 1) a

-- between two ranks of m every rank is in it
abbrev pub Gapless : ℕ → Type 0
Gapless m = (i j k : ℕ) → i < j → j < k → In m i → In m k → In m j

-- how many ranks below k are in m; and how many of all 48
abbrev pub size_below : ℕ → ℕ → ℕ
size_below m zero = 0
size_below m (suc k) = m / 2 ^ k % 2 + size_below m k

abbrev pub size : ℕ → ℕ
size m = size_below m 48

-- m has exactly the ranks of which P holds
abbrev pub Has : ℕ → (ℕ → Type 0) → Type 0
Has m P = (k : ℕ) → (In m k → P k) × (P k → In m k)

-- no rank has P
abbrev pub NoRank : (ℕ → Type 0) → Type 0
NoRank P = (k : ℕ) → P k → ⊥

-- m is the full scale of a width from 1 to 48
pub record FullScale (width m : ℕ) : Type 0 where
  pub taken : (1 ≤ width) × (width ≤ 48)
  pub value : m ≡ full_scale width
  pub ranks : Has m (λ k. k < width)

-- m has the ranks from low up to high, both of them ranks
pub record Span (low high m : ℕ) : Type 0 where
  pub taken : (low ≤ high) × (high < 48)
  pub value : m ≡ run low high
  pub ranks : Has m (λ k. (low ≤ k) × (k ≤ high))
