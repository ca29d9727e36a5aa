-- There are loads for all counts, so what is said of every load with them is said of some.
use Rattle.std.proofs.Common.{◌≡◌, ℕ, zero, suc, ◌+◌, ◌<◌, ◌⊎◌, List, [], ◌∷◌, refl, subst, inl, inr, arith}
use Rattle.std.specs.List.{AllByRecursion}
use Rattle.std.proofs.lemmas.Bool.{cases_eq}
use Rattle.loads.specs.Counts.{Counted}
use Rattle.loads.specs.Kinds.{by_rank}
use Rattle.loads.specs.Loads.{count}
use Rattle.loads.proofs.FromTop.{count_past}
use Rattle.marking.specs.declared.bounds.Bounds.{Bounds}
use Rattle.marking.specs.Bounds.{BoundsOf, Outweighs}
use Rattle.marking.proofs.Comparing.{one}
use Rattle.marking.proofs.Order.{one_same, one_other}

-- n members of rank d, and then xs
abbrev many : ℕ → ℕ → List ℕ → List ℕ
many zero d xs = xs
many (suc n) d xs = d ∷ many n d xs

count_same : (n d : ℕ) (xs : List ℕ) → count by_rank d (many n d xs) ≡ count by_rank d xs + n
unfolding one
count_same zero d xs = omega arith
count_same (suc n) d xs = omega (arith, one_same d d refl, count_same n d xs)

count_other : (n d h : ℕ) (xs : List ℕ) → (d ≡ h → ⊥) → count by_rank h (many n d xs) ≡ count by_rank h xs
unfolding one
count_other zero d h xs e = refl
count_other (suc n) d h xs e = omega (arith, one_other d h e, count_other n d h xs e)

weaken : (d : ℕ) (xs : List ℕ) → AllByRecursion (λ r. r < d) xs → AllByRecursion (λ r. r < suc d) xs
weaken d [] all = all
weaken d (x ∷ xs) all = (omega (arith, all.0), weaken d xs all.1)

many_below : (n d : ℕ) (xs : List ℕ) → AllByRecursion (λ r. r < suc d) xs → AllByRecursion (λ r. r < suc d) (many n d xs)
many_below zero d xs all = all
many_below (suc n) d xs all = (omega arith, many_below n d xs all)

one_more : (o : ℕ → ℕ) (d : ℕ) (xs : List ℕ) → Counted o d xs → Counted o (suc d) (many (o d) d xs)
one_more o d xs k = record {
  bounded = many_below (o d) d xs (weaken d xs k.bounded);
  counts = λ h l. go h l (cases_eq d h);
}
  where
    go : (h : ℕ) → h < suc d → (d ≡ h) ⊎ (d ≡ h → ⊥) → o h ≡ count by_rank h (many (o d) d xs)
    go h l (inl e) =
        let here : o d ≡ count by_rank d (many (o d) d xs) = omega (arith, count_same (o d) d xs, count_past d d (omega arith) xs k.bounded) in
        subst (λ (z : ℕ). o z ≡ count by_rank z (many (o d) d xs)) e here
    go h l (inr n) = omega (arith, count_other (o d) d h xs n, k.counts h (omega (arith, l, n)))

pub load_with : (o : ℕ → ℕ) (d : ℕ) → (xs : List ℕ) × Counted o d xs
load_with o zero = ([], record { bounded = tt; counts = λ h l. absurd (omega (arith, l)) })
load_with o (suc d) = let below = load_with o d in (many (o d) d below.0, one_more o d below.0 below.1)

-- so no counts have bounds and are outweighed
pub not_both : (ox oy : ℕ → ℕ) (b : Bounds) → BoundsOf ox oy b → Outweighs ox oy → ⊥
not_both ox oy b bounds none =
    let left = load_with ox 48 in
    let right = load_with oy 48 in
    none left.0 right.0 (record { left_counted = left.1; right_counted = right.1 }) (bounds.met left.0 right.0 (record { left_counted = left.1; right_counted = right.1 }))
