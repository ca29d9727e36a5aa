-- The cells of a store by bounds are the runs from their lowest to their highest ranks.
use Rattle.std.proofs.Common.{◌≡◌, ℕ, ◌<◌, ◌≤◌, List, length, take, map, get_or, sym, ap, ap₂, ◌∙◌, arith, length-take}
use Rattle.std.proofs.lemmas.List.{length-map, get_or-map, get_or-take, ext_get_or}
use Rattle.domains.specs.Sets.{run}
use Rattle.std.specs.Prelude.{slice_set}
use Rattle.stores.specs.Bounds.{runs, ByEnds}
use Rattle.stores.specs.Runs.{runs_length, runs_at, runs_set, runs_full}
use Rattle.stores.specs.declared.bounds_store.Bounds.{Bounds}

abbrev low : Bounds → ℕ
low c = c.low

abbrev high : Bounds → ℕ
high c = c.high

abbrev mask : Bounds → ℕ
mask c = run c.low c.high

any : Bounds
any = record { low = 0; high = 0; ordered = omega arith; rank = omega arith }

pub cells_are_runs : (n : ℕ) (kept : List Bounds) → n ≤ length kept → map mask (take n kept) ≡ runs n (map low kept) (map high kept)
cells_are_runs n kept l =
    ext_get_or 0 (map mask (take n kept)) (runs n (map low kept) (map high kept)) (long ∙ sym (runs_length n (map low kept) (map high kept))) at
  where
    long : length (map mask (take n kept)) ≡ n
    long = omega (arith, length-map (take n kept) mask, length-take n kept)

    at : (k : ℕ) → k < length (map mask (take n kept)) → get_or (map mask (take n kept)) k 0 ≡ get_or (runs n (map low kept) (map high kept)) k 0
    at k h =
        let j : k < n = omega (arith, h, long) in
        let i : k < length (take n kept) = omega (arith, h, length-map (take n kept) mask) in
        let m : k < length kept = omega arith in
        get_or-map mask (take n kept) k any 0 i ∙ ap mask (get_or-take n kept k any j)
        ∙ sym (runs_at n (map low kept) (map high kept) k j ∙ ap₂ run (get_or-map low kept k any 0 m) (get_or-map high kept k any 0 m))

-- and so a run written and a full scale are ends written
pub kept_by_ends : (n : ℕ) (kept : List Bounds) → length kept ≡ 64 → n ≤ 64 → ByEnds n (map low kept) (map high kept) (map mask (take n kept))
kept_by_ends n kept long few = record {
  cells = same;
  written = λ k a b h.
      ap (λ cs. slice_set cs k (run a b)) same
      ∙ sym (runs_set n (map low kept) (map high kept) k a b h (omega (arith, h, few, long, length-map kept low)) (omega (arith, h, few, long, length-map kept high)));
  full = λ d h. sym (runs_full n d few h);
}
  where
    same : map mask (take n kept) ≡ runs n (map low kept) (map high kept)
    same = cells_are_runs n kept (omega (arith, few, long))
