-- Every answer that holds keeps to the laws of weighing.
use Rattle.std.proofs.Common.{◌≡◌, ℕ, suc, ◌+◌, ◌<◌, List, [], ◌∷◌, ◌++◌, length, get_or, take, drop, set, MatchBool, sum_by, sym, refl, ap, ◌∙◌, subst, inl, inr, ⊎_elim, arith}
use Rattle.std.specs.List.Sorted.{IsPermutation}
use Rattle.std.proofs.lemmas.List.Sums.{sum_by-cons}
use Rattle.std.proofs.lemmas.List.Sorted.{sum_by-IsPermutation}
use lib.Seq.{set_split, split_at}
use Rattle.std.proofs.lemmas.Cmp.{by_ranked, ranked}
use Rattle.std.specs.Ordering.{nat_cmp}
use Rattle.std.specs.declared.cmp.Ordering.{Ordering}
use Rattle.loads.specs.declared.weighing.Weight.{Weight}
use Rattle.loads.specs.declared.weighing.Weight.TheVariants.{Lighter as lighter, Equal as equal, Heavier as heavier}
use Rattle.loads.specs.Grades.{Order}
use Rattle.loads.specs.Loads.{count, NotHeavier, Weighed}
use Rattle.loads.specs.Laws.{Weighs, is_not_heavier, as_weight, Replaced}
use Rattle.loads.specs.Weighing.{DecidedAt}
use Rattle.loads.proofs.Counting.{one, by_ordering, below_higher}
use Rattle.loads.proofs.Weights.{more_weighed, one_answer, not_both, not_each, trans, added, lowered}
use Rattle.loads.proofs.Agreement.{weighed_only}

count_is_sum : {G : Type 0} (cmp : G → G → Ordering) (g : G) (xs : List G) → count cmp g xs ≡ sum_by (λ x. one (cmp g x)) xs
count_is_sum cmp g [] = refl
count_is_sum cmp g (x ∷ xs) = omega (arith, sum_by-cons (λ y. one (cmp g y)) x xs, count_is_sum cmp g xs)

-- a load holds as many of each grade in any order
pub count_shuffled : {G : Type 0} (cmp : G → G → Ordering) (g : G) (xs us : List G) → IsPermutation xs us → count cmp g us ≡ count cmp g xs + 0
count_shuffled cmp g xs us s = omega (arith, count_is_sum cmp g xs, count_is_sum cmp g us, sum_by-IsPermutation (λ x. one (cmp g x)) xs us s)

module _ {G : Type 0} {cmp : G → G → Ordering} (o : Order cmp) where
  not_heavier_when : (xs ys : List G) (w : Weight) → Weighed cmp w xs ys → MatchBool (is_not_heavier w) (NotHeavier cmp xs ys) (NotHeavier cmp xs ys → ⊥)
  not_heavier_when xs ys lighter h = inl h
  not_heavier_when xs ys equal h = inr h
  not_heavier_when xs ys heavier h = ⊎_elim (λ l. not_each cmp o xs ys l h) (λ e. not_both cmp o ys xs h (λ g. sym (e g)))

  pub weighs : {xs ys : List G} {w : Weight} → Weighed cmp w xs ys → Weighs cmp xs ys w
  weighs {xs} {ys} {w} h = record {
    holds = h;
    alone = λ v k. one_answer cmp o xs ys v w k h;
    not_heavier = not_heavier_when xs ys w h;
    recursion = weighed_only cmp o xs ys w h;
    through = λ zs l k. trans cmp o xs ys zs l k;
    rearranged = λ us vs p q. more_weighed cmp (λ _. 0) xs ys us vs (λ g. count_shuffled cmp g xs us p) (λ g. count_shuffled cmp g ys vs q) w h;
    added = λ x us vs ss ts p q. added cmp o x us vs ss ts w (subst (λ (zs : List G). Weighed cmp w (us ++ vs) zs) q (subst (λ (zs : List G). Weighed cmp w zs ys) p h));
  }

  by_grades : (new old : G) (us vs : List G) → Weighed cmp (as_weight (cmp new old)) (us ++ (new ∷ vs)) (us ++ (old ∷ vs))
  by_grades new old us vs =
      by_ordering (cmp new old)
      (λ l. rw l (lowered cmp o new old us vs l))
      (λ s. rw s (λ g. ap (λ (z : G). count cmp g (us ++ (z ∷ vs))) (o.equal new old s)))
      (λ u. rw u (lowered cmp o old new us vs (below_higher cmp o new old u)))

  pub replaced : {new old : G} {w : Weight} → w ≡ as_weight (cmp new old) → Replaced cmp new old w
  replaced {new} {old} e = record { by_grades = e; load = λ xs i within is. subst (λ (v : Weight). Weighed cmp v (set xs i new) xs) (sym e) (at xs i within is) }
    where
      at : (xs : List G) (i : ℕ) → i < length xs → old ≡ get_or xs i old → Weighed cmp (as_weight (cmp new old)) (set xs i new) xs
      at xs i within is =
          let was : take i xs ++ (old ∷ drop (suc i) xs) ≡ xs = ap (λ (z : G). take i xs ++ (z ∷ drop (suc i) xs)) is ∙ sym (split_at xs i old within) in
          subst (λ (zs : List G). Weighed cmp (as_weight (cmp new old)) (set xs i new) zs) was
          (subst (λ (zs : List G). Weighed cmp (as_weight (cmp new old)) zs (take i xs ++ (old ∷ drop (suc i) xs))) (sym (set_split xs i new within))
          (by_grades new old (take i xs) (drop (suc i) xs)))

  -- what the walk found tells the answer: the load that holds fewer of the deciding grade is the lighter
  decided_weighed : {xs ys : List G} {g : G} {m n : ℕ} → DecidedAt cmp xs ys g m n → Weighed cmp (as_weight (nat_cmp m n)) xs ys
  decided_weighed {xs} {ys} {g} {m} {n} d =
      by_ranked (m < n) (m ≡ n) (n < m) (nat_cmp m n) (ranked m n (nat_cmp m n) refl)
      (λ e l. rw e (g, omega (arith, l, d.left_is, d.right_is), d.agree))
      (λ e s. absurd (d.differ s))
      (λ e l. rw e (g, omega (arith, l, d.left_is, d.right_is), λ h u. sym (d.agree h u)))

  pub decided_weighs : {xs ys : List G} {g : G} {m n : ℕ} {w : Weight} → DecidedAt cmp xs ys g m n → w ≡ as_weight (nat_cmp m n) → Weighs cmp xs ys w
  decided_weighs {xs} {ys} d e = weighs (subst (λ (v : Weight). Weighed cmp v xs ys) (sym e) (decided_weighed d))
