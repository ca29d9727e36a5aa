-- Counts of ranks, kept in an array by a loop over a row.
use Rattle.std.proofs.Common.{◌≡◌, ℕ, ◌+◌, ◌<◌, ◌≤◌, ◌⊎◌, List, [], ◌∷◌, ◌++◌, length, get_or, set, take, map, replicate, sym, ap, ◌∙◌, subst, inl, inr, arith}
use Rattle.std.specs.List.{AllByRecursion}
use Rattle.std.proofs.lemmas.Bool.{cases_eq}
use Rattle.std.proofs.lemmas.List.{get_or-set_same, get_or-set_other, get_or-replicate, map_more, length-map, length-take-le}
use Rattle.loads.specs.Counts.{Counted}
use Rattle.loads.specs.Kinds.{by_rank}
use Rattle.loads.specs.Loads.{count}
use Rattle.loads.proofs.Counting.{one, one_here, one_apart, count_push, count_le_length}
use Rattle.loads.proofs.FromTop.{rank_order}

bounded_push : (d x : ℕ) (xs : List ℕ) → AllByRecursion (λ r. r < d) xs → x < d → AllByRecursion (λ r. r < d) (xs ++ (x ∷ []))
bounded_push d x [] all h = (h, tt)
bounded_push d x (y ∷ ys) all h = (all.0, bounded_push d x ys all.1 h)

-- the start of the loop: nothing is counted
pub counted_none : Counted (λ h. get_or (replicate 48 0) h 0) 48 []
counted_none = record { bounded = tt; counts = λ r l. get_or-replicate 48 r 0 0 l }

-- one more member
counted_push : (xs ys : List ℕ) (x : ℕ) → length xs ≡ 48 → x < 48 → Counted (λ h. get_or xs h 0) 48 ys → Counted (λ h. get_or (set xs x (get_or xs x 0 + 1)) h 0) 48 (ys ++ (x ∷ []))
counted_push xs ys x l h c = record { bounded = bounded_push 48 x ys c.bounded h; counts = λ r m. go r m (cases_eq r x) ∙ sym (count_push by_rank r ys x) }
  where
    go : (r : ℕ) → r < 48 → (r ≡ x) ⊎ (r ≡ x → ⊥) → get_or (set xs x (get_or xs x 0 + 1)) r 0 ≡ count by_rank r ys + one (by_rank r x)
    go r m (inl e) =
        let here : one (by_rank r x) ≡ 1 = subst (λ (y : ℕ). one (by_rank r y) ≡ 1) e (one_here by_rank rank_order r) in
        let new : get_or (set xs x (get_or xs x 0 + 1)) r 0 ≡ get_or xs x 0 + 1 = ap (λ (y : ℕ). get_or (set xs x (get_or xs x 0 + 1)) y 0) e ∙ get_or-set_same xs x (get_or xs x 0 + 1) 0 (omega arith) in
        let old : get_or xs x 0 ≡ count by_rank r ys = ap (λ (y : ℕ). get_or xs y 0) (sym e) ∙ c.counts r m in
        omega (arith, here, new, old)
    go r m (inr n) = omega (arith, get_or-set_other xs x r (get_or xs x 0 + 1) 0 n, one_apart by_rank rank_order r x n, c.counts r m)

-- one more cell of the row
pub counted_more : (xs row : List ℕ) (f : ℕ → ℕ) (i x : ℕ) → length xs ≡ 48 → i < length row → x < 48 → x ≡ f (get_or row i 0) → Counted (λ h. get_or xs h 0) 48 (map f (take i row))
    → Counted (λ h. get_or (set xs x (get_or xs x 0 + 1)) h 0) 48 (map f (take (i + 1) row))
counted_more xs row f i x l m h e c =
    subst (λ (ys : List ℕ). Counted (λ h. get_or (set xs x (get_or xs x 0 + 1)) h 0) 48 ys)
    (ap (λ (y : ℕ). map f (take i row) ++ (y ∷ [])) e ∙ sym (map_more f row i 0 m))
    (counted_push xs (map f (take i row)) x l h c)

-- no count is above the number of cells
pub counted_few : (xs row : List ℕ) (f : ℕ → ℕ) (i x : ℕ) → i ≤ length row → x < 48 → Counted (λ h. get_or xs h 0) 48 (map f (take i row)) → get_or xs x 0 ≤ i
counted_few xs row f i x l h c =
    omega (arith, c.counts x h, count_le_length by_rank x (map f (take i row)), length-map (take i row) f, length-take-le i row l)
