-- The list of the runs, by place and after a write.
use Rattle.std.proofs.Common.{arith, sym, subst, ap, ap₂, ◌∙◌, inl, inr}
use Rattle.std.specs.Prelude.{◌≡◌, ℕ, ◌+◌, ◌-◌, ◌^◌, ◌<◌, ◌≤◌, ◌⊎◌, List, length, replicate, ◌≢◌, slice_index, slice_set}
use Rattle.std.proofs.lemmas.List.{get_or-set_same, get_or-set_other, get_or-replicate, length-replicate, length-set, ext_get_or}
use Rattle.std.proofs.lemmas.List.FromFn.{length-map-range_with_len, get_or-map-range_with_len}
use Rattle.std.proofs.lemmas.Bool.{cases_eq}
use Rattle.domains.specs.Sets.{run}
use Rattle.stores.specs.Bounds.{runs}

pub runs_length : (n : ℕ) (ls hs : List ℕ) → length (runs n ls hs) ≡ n
runs_length n ls hs = length-map-range_with_len (λ k. run (slice_index ls k) (slice_index hs k)) 0 n

pub runs_at : (n : ℕ) (ls hs : List ℕ) (k : ℕ) → k < n → slice_index (runs n ls hs) k ≡ run (slice_index ls k) (slice_index hs k)
runs_at n ls hs k h = get_or-map-range_with_len (λ k. run (slice_index ls k) (slice_index hs k)) 0 n k k 0 h (omega arith)

pub runs_set : (n : ℕ) (ls hs : List ℕ) (i a b : ℕ) → i < n → i < length ls → i < length hs → runs n (slice_set ls i a) (slice_set hs i b) ≡ slice_set (runs n ls hs) i (run a b)
runs_set n ls hs i a b h p q =
    ext_get_or 0 (runs n (slice_set ls i a) (slice_set hs i b)) (slice_set (runs n ls hs) i (run a b))
    (runs_length n (slice_set ls i a) (slice_set hs i b) ∙ sym (length-set (runs n ls hs) i (run a b) ∙ runs_length n ls hs))
    (λ k l. let j : k < n = omega (arith, l, runs_length n (slice_set ls i a) (slice_set hs i b)) in runs_at n (slice_set ls i a) (slice_set hs i b) k j ∙ go k j (cases_eq k i))
  where
    go : (k : ℕ) → k < n → (k ≡ i) ⊎ (k ≢ i) → run (slice_index (slice_set ls i a) k) (slice_index (slice_set hs i b) k) ≡ slice_index (slice_set (runs n ls hs) i (run a b)) k
    go k j (inl e) =
        let r : i < length (runs n ls hs) = omega (arith, runs_length n ls hs) in
        subst (λ (x : ℕ). run (slice_index (slice_set ls i a) x) (slice_index (slice_set hs i b) x) ≡ slice_index (slice_set (runs n ls hs) i (run a b)) x) (sym e)
        (ap₂ run (get_or-set_same ls i a 0 p) (get_or-set_same hs i b 0 q) ∙ sym (get_or-set_same (runs n ls hs) i (run a b) 0 r))
    go k j (inr e) =
        ap₂ run (get_or-set_other ls i k a 0 e) (get_or-set_other hs i k b 0 e) ∙ sym (get_or-set_other (runs n ls hs) i k (run a b) 0 e ∙ runs_at n ls hs k j)

pub runs_full : (n d : ℕ) → n ≤ 64 → 1 ≤ d → runs n (replicate 64 0) (replicate 64 (d - 1)) ≡ replicate n (2 ^ d - 1)
runs_full n d h l =
    ext_get_or 0 (runs n (replicate 64 0) (replicate 64 (d - 1))) (replicate n (2 ^ d - 1))
    (runs_length n (replicate 64 0) (replicate 64 (d - 1)) ∙ sym (length-replicate n (2 ^ d - 1)))
    (λ k i.
    let j : k < n = omega (arith, i, runs_length n (replicate 64 0) (replicate 64 (d - 1))) in
    let j64 : k < 64 = omega arith in
    let e : d - 1 + 1 ≡ d = omega arith in
    runs_at n (replicate 64 0) (replicate 64 (d - 1)) k j
    ∙ ap₂ run (get_or-replicate 64 k 0 0 j64) (get_or-replicate 64 k (d - 1) 0 j64)
    ∙ whole (d - 1) ∙ ap (λ (x : ℕ). 2 ^ x - 1) e ∙ sym (get_or-replicate n k (2 ^ d - 1) 0 j))
  where
    whole : (b : ℕ) → run 0 b ≡ 2 ^ (b + 1) - 1
    whole b = omega arith

-- what holds of each of n pairs holds after a write of a pair that it holds of
pub pairs_set : (P : ℕ → ℕ → Type 0) (xs ys : List ℕ) (n i x y : ℕ) → i < length xs → i < length ys → ((k : ℕ) → k < n → P (slice_index xs k) (slice_index ys k)) → P x y
    → (k : ℕ) → k < n → P (slice_index (slice_set xs i x) k) (slice_index (slice_set ys i y) k)
pairs_set P xs ys n i x y l m f p k j = go (cases_eq k i)
  where
    go : (k ≡ i) ⊎ (k ≢ i) → P (slice_index (slice_set xs i x) k) (slice_index (slice_set ys i y) k)
    go (inl e) = subst (λ (z : ℕ). P (slice_index (slice_set xs i x) z) (slice_index (slice_set ys i y) z)) (sym e)
        (subst (λ (z : ℕ). P z (slice_index (slice_set ys i y) i)) (sym (get_or-set_same xs i x 0 l)) (subst (P x) (sym (get_or-set_same ys i y 0 m)) p))
    go (inr e) = subst (λ (z : ℕ). P z (slice_index (slice_set ys i y) k)) (sym (get_or-set_other xs i k x 0 e)) (subst (P (slice_index xs k)) (sym (get_or-set_other ys i k y 0 e)) (f k j))
