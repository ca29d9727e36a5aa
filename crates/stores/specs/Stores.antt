-- The meaning of a store: a mask for each cell, a width, the sets that its kind can hold, and what a write leaves as it was.
use Rattle.std.specs.Prelude.{◌≡◌, ℕ, ◌^◌, ◌<◌, ◌≤◌, List, length, replicate, slice_index}
use Rattle.domains.specs.Sets.{up_to, from, full_scale}
use Rattle.stores.specs.declared.faults.WriteFault.{WriteFault}
use Rattle.stores.specs.declared.faults.WriteFault.TheVariants.{NoCell, RankPastScale, NotHeld}

-- n cells and d ranks may be laid out
pub record Sized (n d : ℕ) : Type 0 where
  pub cell : 1 ≤ n
  pub cells : n ≤ 64
  pub rank : 1 ≤ d
  pub ranks : d ≤ 48

-- a set m that a cell may have at the width d: some rank, all below d, of a kind that can be held
pub record Holdable (holds : ℕ → ℕ → Type 0) (d m : ℕ) : Type 0 where
  pub some : 0 < m
  pub below : m < 2 ^ d
  pub held : holds d m

-- every store is well formed
pub record Formed (holds : ℕ → ℕ → Type 0) (d : ℕ) (cs : List ℕ) : Type 0 where
  pub few : length cs ≤ 64
  pub narrow : d ≤ 48
  pub each : (k : ℕ) → k < length cs → Holdable holds d (slice_index cs k)

-- What every kind of store proves: it is well formed; it can hold the full scale of each width, and with a set its part up
-- to any rank and from any rank, where that part has a rank; and what a write leaves is an order.
pub record Laws {S : Type 0} (cells : S → List ℕ) (width : S → ℕ) (holds : ℕ → ℕ → Type 0) (stays : S → S → Type 0) : Type 0 where
  pub formed : (s : S) → Formed holds (width s) (cells s)
  pub full : (d : ℕ) → 1 ≤ d → d ≤ 48 → holds d (full_scale d)
  pub front : (d m r : ℕ) → holds d m → 0 < up_to m r → holds d (up_to m r)
  pub rear : (d m r : ℕ) → holds d m → 0 < from m r → holds d (from m r)
  pub same : (s : S) → stays s s
  pub then : (s t u : S) → stays s t → stays t u → stays s u

-- an accepted lay out: n and d are within bounds, and every cell holds the full scale
pub record LaidOut (n d : ℕ) (cs : List ℕ) (w : ℕ) : Type 0 where
  pub sized : Sized n d
  pub cells : cs ≡ replicate n (full_scale d)
  pub width : w ≡ d

-- a write of the set m to a cell, of n cells and d ranks, is accepted
pub record Accepted (holds : ℕ → ℕ → Type 0) (n d cell m : ℕ) : Type 0 where
  pub within : cell < n
  pub below : m < 2 ^ d
  pub held : holds d m

-- why it is refused: the first of the three that applies
abbrev pub Refused : (ℕ → ℕ → Type 0) → ℕ → ℕ → ℕ → ℕ → WriteFault → Type 0
Refused holds n d cell m NoCell = n ≤ cell
Refused holds n d cell m RankPastScale = (cell < n) × (2 ^ d ≤ m)
Refused holds n d cell m NotHeld = (cell < n) × (m < 2 ^ d) × (holds d m → ⊥)

-- xs has a mask for each of n cells that a store of width d can hold
abbrev pub Savable : (ℕ → ℕ → Type 0) → ℕ → ℕ → List ℕ → Type 0
Savable holds d n xs = (k : ℕ) → k < n → Holdable holds d (slice_index xs k)
