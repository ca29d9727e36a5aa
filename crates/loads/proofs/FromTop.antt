-- Comparing by counts from the top agrees with comparing loads of ranks.
use Rattle.std.proofs.Common.{◌≡◌, ℕ, zero, suc, ◌<◌, ◌≤◌, false, cond, ltb, List, [], ◌∷◌, sym, refl, ap, ◌∙◌, subst, ⊎_elim, Some, ◌≢◌, arith}
use Rattle.std.specs.List.{AllByRecursion}
use Rattle.std.proofs.lemmas.Bool.{cases_eq, cond_both, ltb-true, ltb-false}
use Rattle.std.proofs.lemmas.Bool.Decides.{nat_tests}
use Rattle.std.specs.declared.cmp.Ordering.TheVariants.{Less}
use Rattle.loads.specs.declared.weighing.Weight.{Weight}
use Rattle.loads.specs.declared.weighing.Weight.TheVariants.{Lighter as lighter, Equal as equal, Heavier as heavier}
use Rattle.loads.specs.Grades.{Order, order_of}
use Rattle.loads.specs.Kinds.{by_rank}
use Rattle.loads.specs.Loads.{count, Weighed}
use Rattle.loads.specs.Laws.{as_weight}
use Rattle.loads.specs.Counts.{by_counts, AgreeFrom, Deciding, ByCounts}
use Rattle.std.specs.Cmp.{nat_cmp_total}
use Rattle.std.specs.Ordering.{nat_cmp}
use Rattle.loads.proofs.Counting.{one_apart}

-- ranks are a kind in total order
pub rank_order : Order by_rank
rank_order = order_of nat_cmp_total (λ a b e. grind (arith, nat_tests))

pub rank_lower : (a b : ℕ) → by_rank a b ≡ Less → a < b
rank_lower a b e = grind (arith, nat_tests)

pub lower_rank : (a b : ℕ) → a < b → by_rank a b ≡ Less
lower_rank a b l = grind (arith, nat_tests)

-- a rank from d on does not occur
pub count_past : (d h : ℕ) → d ≤ h → (xs : List ℕ) → AllByRecursion (λ r. r < d) xs → count by_rank h xs ≡ 0
count_past d h l [] all = refl
count_past d h l (x ∷ xs) all = omega (arith, one_apart by_rank rank_order h x (λ e. omega (arith, e, l, all.0)), count_past d h l xs all.1)

-- only the counts below d matter
like : (f g p q : ℕ → ℕ) (d : ℕ) → ((r : ℕ) → r < d → f r ≡ p r) → ((r : ℕ) → r < d → g r ≡ q r) → by_counts f g d ≡ by_counts p q d
like f g p q zero a b = refl
like f g p q (suc d) a b =
    rw (a d (omega arith), b d (omega arith), like f g p q d (λ r l. a r (omega (arith, l))) (λ r l. b r (omega (arith, l))))

weighed_by_counts : (xs ys : List ℕ) (d : ℕ) → ((h : ℕ) → d ≤ h → count by_rank h xs ≡ count by_rank h ys) → Weighed by_rank (by_counts (λ h. count by_rank h xs) (λ h. count by_rank h ys) d) xs ys
weighed_by_counts xs ys zero same = λ h. same h (omega arith)
weighed_by_counts xs ys (suc d) same =
    cond_both (ltb m n) lighter (cond (ltb n m) heavier rest) (λ w. Weighed by_rank w xs ys)
    (λ t. (d, ltb-true m n t, λ h l. same h (rank_lower d h l)))
    (λ t. cond_both (ltb n m) heavier rest (λ w. Weighed by_rank w xs ys)
    (λ s. (d, ltb-true n m s, λ h l. sym (same h (rank_lower d h l))))
    (λ s. weighed_by_counts xs ys d (λ h l. ⊎_elim (λ e. subst (λ (k : ℕ). count by_rank k xs ≡ count by_rank k ys) e (level t s)) (λ ne. same h (omega (arith, l, ne))) (cases_eq d h))))
  where
    m : ℕ
    m = count by_rank d xs

    n : ℕ
    n = count by_rank d ys

    rest : Weight
    rest = by_counts (λ h. count by_rank h xs) (λ h. count by_rank h ys) d

    level : ltb m n ≡ false → ltb n m ≡ false → count by_rank d xs ≡ count by_rank d ys
    level t s = omega (arith, ltb-false m n t, ltb-false n m s)

pub by_counts_lem : (ox oy : ℕ → ℕ) (d : ℕ) (w : Weight) → w ≡ by_counts ox oy d → ByCounts ox oy d w
by_counts_lem ox oy d w e = record {
  value = e;
  loads = λ xs ys x y. subst (λ (v : Weight). Weighed by_rank v xs ys) (sym (e ∙ like ox oy (λ h. count by_rank h xs) (λ h. count by_rank h ys) d x.counts y.counts))
      (weighed_by_counts xs ys d (λ h l. count_past d h l xs x.bounded ∙ sym (count_past d h l ys y.bounded)));
}

module _ (ox oy : ℕ → ℕ) where
  -- a rank at which the two agree is passed, and one at which they differ decides
  passed : (k : ℕ) → ox k ≡ oy k → by_counts ox oy (suc k) ≡ by_counts ox oy k
  passed k e = grind (arith, nat_tests)

  decides : (k : ℕ) → ox k ≢ oy k → by_counts ox oy (suc k) ≡ as_weight (nat_cmp (ox k) (oy k))
  decides k ne = grind (arith, nat_tests)

  all_passed : (k d : ℕ) → k ≤ d → AgreeFrom ox oy k d → by_counts ox oy d ≡ by_counts ox oy k
  all_passed k zero le agree = let e : 0 ≡ k = omega (arith, le) in ap (by_counts ox oy) e
  all_passed k (suc d) le agree =
      ⊎_elim (λ e. ap (by_counts ox oy) (sym e))
      (λ ne. passed d (agree d (omega (arith, le, ne)) (omega arith)) ∙ all_passed k d (omega (arith, le, ne)) (λ r l u. agree r l (omega (arith, u))))
      (cases_eq k (suc d))

  pub none_decides : (d : ℕ) → AgreeFrom ox oy 0 d → ByCounts ox oy d equal
  none_decides d agree = by_counts_lem ox oy d equal (sym (all_passed 0 d (omega arith) agree))

  pub rank_decides : (d k : ℕ) (w : Weight) → Deciding ox oy d (Some k) → w ≡ as_weight (nat_cmp (ox k) (oy k)) → ByCounts ox oy d w
  rank_decides d k w found e = by_counts_lem ox oy d w (e ∙ sym (all_passed (suc k) d (omega (arith, found.0)) found.2 ∙ decides k found.1))
