-- The sets of a store by bounds: for each of n cells the run from its lowest rank to its highest.
use Rattle.std.specs.Prelude.{◌≡◌, ℕ, ◌-◌, ◌<◌, ◌≤◌, List, map, replicate, slice_index, slice_set}
use Rattle.std.specs.List.{range_with_len}
use Rattle.domains.specs.Sets.{run, full_scale}

abbrev pub runs : ℕ → List ℕ → List ℕ → List ℕ
runs n lows highs = map (λ k. run (slice_index lows k) (slice_index highs k)) (range_with_len 0 n)

-- The sets cs are the runs of n cells between the ends that are kept. So a run written to a cell is its two ends written, and
-- the full scale of d ranks in every cell is the ends 0 and d - 1.
pub record ByEnds (n : ℕ) (lows highs cs : List ℕ) : Type 0 where
  pub cells : cs ≡ runs n lows highs
  pub written : (k a b : ℕ) → k < n → slice_set cs k (run a b) ≡ runs n (slice_set lows k a) (slice_set highs k b)
  pub full : (d : ℕ) → 1 ≤ d → replicate n (full_scale d) ≡ runs n (replicate 64 0) (replicate 64 (d - 1))
