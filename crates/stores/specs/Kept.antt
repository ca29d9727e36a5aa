-- The cells of a store in an array, each in the form of one kind.
use Rattle.std.proofs.Common.{arith}
use Rattle.std.specs.Prelude.{ℕ, ◌^◌, ◌<◌, ◌≤◌, List, take, map, All}
use Rattle.std.proofs.lemmas.List.{length-map}
use Rattle.std.proofs.Common.{length-take}
use Rattle.std.proofs.lemmas.List.Elements.{All-get_or, All-map, All-weaker}
use Rattle.stores.specs.Stores.{Formed, Holdable}
use Rattle.domains.specs.Sets.{up_to, from, full_scale}

-- What every kind of cell proves: its set has a rank, and is one that the kind can hold; so is the full scale of each width,
-- and with a set its part up to any rank and from any rank, where that part has a rank.
pub record CellLaws {C : Type 0} (mask : C → ℕ) (holds : ℕ → Type 0) : Type 0 where
  pub some : (c : C) → 0 < mask c
  pub held : (c : C) → holds (mask c)
  pub full : (d : ℕ) → 1 ≤ d → d ≤ 48 → holds (full_scale d)
  pub front : (m r : ℕ) → holds m → 0 < up_to m r → holds (up_to m r)
  pub rear : (m r : ℕ) → holds m → 0 < from m r → holds (from m r)

-- a store that keeps cells of such a kind is well formed
pub formed_of : {C : Type 0} (mask : C → ℕ) (holds : ℕ → Type 0) → CellLaws mask holds → (n d : ℕ) (kept : List C) → n ≤ 64 → d ≤ 48
    → All (λ c. mask c < 2 ^ d) (take n kept) → Formed (λ _ m. holds m) d (map mask (take n kept))
formed_of mask holds laws n d kept few narrow below = record {
  few = simp (length-map, length-take) (omega arith);
  narrow = narrow;
  each = λ k h. All-get_or (Holdable (λ _ m. holds m) d) (map mask (take n kept)) k 0 h (All-map (Holdable (λ _ m. holds m) d) mask (take n kept) cells);
}
  where
    cells : All (λ c. Holdable (λ _ m. holds m) d (mask c)) (take n kept)
    cells = All-weaker (λ c. mask c < 2 ^ d) (λ c. Holdable (λ _ m. holds m) d (mask c))
        (λ c b. record { some = laws.some c; below = b; held = laws.held c }) (take n kept) below
