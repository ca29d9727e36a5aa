-- The laws of the comparison of counts.
use Rattle.std.proofs.Common.{◌≡◌, ℕ, zero, suc, ◌<◌, ◌≤◌, cond, ltb, ◌⊎◌, sym, subst, ⊎_elim, inl, inr, arith, below_more}
use Rattle.std.proofs.lemmas.Bool.{cases_lt, cases_order, cond_both, ltb-true, ltb-false}
use Rattle.loads.specs.declared.weighing.Weight.TheVariants.{Lighter as lighter, Equal as equal, Heavier as heavier}
use Rattle.loads.specs.declared.weighing.Weight.{Weight}
use Rattle.loads.specs.Counts.{by_counts}
use Rattle.loads.specs.Kinds.{by_rank}
use Rattle.loads.proofs.Counting as counting
use Rattle.loads.proofs.FromTop.{rank_order}
use Rattle.marking.proofs.Comparing.{Below, Same, AtMost, Says, one}

pub one_same : (r h : ℕ) → r ≡ h → one r h ≡ 1
unfolding one
one_same r h e = subst (λ (x : ℕ). counting.one (by_rank x r) ≡ 1) e (counting.one_here by_rank rank_order r)

pub one_other : (r h : ℕ) → (r ≡ h → ⊥) → one r h ≡ 0
unfolding one
one_other r h n = counting.one_apart by_rank rank_order h r (λ e. n (sym e))

-- no two of the three answers hold together
pub below_not_above : (f g : ℕ → ℕ) → Below f g → Below g f → ⊥
below_not_above f g x y = go (cases_order x.0 y.0)
  where
    go : (x.0 ≡ y.0) ⊎ ((x.0 < y.0) ⊎ (y.0 < x.0)) → ⊥
    go (inl e) =
        let z : g x.0 < f x.0 = subst (λ (p : ℕ). g p < f p) (sym e) y.1 in
        omega (arith, x.1)
    go (inr (inl l)) = omega (arith, x.2 y.0 l, y.1)
    go (inr (inr l)) = omega (arith, y.2 x.0 l, x.1)

pub below_not_same : (f g : ℕ → ℕ) → Below f g → Same f g → ⊥
below_not_same f g x e = omega (arith, x.1, e x.0)

pub above_not_at_most : (f g : ℕ → ℕ) → Below g f → AtMost f g → ⊥
above_not_at_most f g x (inl y) = below_not_above f g y x
above_not_at_most f g x (inr e) = below_not_same g f x (λ h. sym (e h))

-- among the ranks below k, f has fewer at the highest where the two differ
abbrev pub Front : (ℕ → ℕ) → (ℕ → ℕ) → ℕ → Type 0
Front f g k = (p : ℕ) × (p < k) × (f p < g p) × ((h : ℕ) → p < h → h < k → f h ≡ g h)

-- what the comparison of the ranks below k tells of them
pub cmp_front : (f g : ℕ → ℕ) (k : ℕ) → Says (by_counts f g k) (Front f g k) ((h : ℕ) → h < k → f h ≡ g h) (Front g f k)
cmp_front f g zero = λ h l. absurd (omega arith)
cmp_front f g (suc k) =
    cond_both (ltb (f k) (g k)) lighter (cond (ltb (g k) (f k)) heavier (by_counts f g k)) (λ o. Says o (Front f g (suc k)) ((h : ℕ) → h < suc k → f h ≡ g h) (Front g f (suc k)))
    (λ t. (k, omega arith, ltb-true (f k) (g k) t, λ h l m. absurd (omega arith)))
    (λ t. cond_both (ltb (g k) (f k)) heavier (by_counts f g k) (λ o. Says o (Front f g (suc k)) ((h : ℕ) → h < suc k → f h ≡ g h) (Front g f (suc k)))
    (λ s. (k, omega arith, ltb-true (g k) (f k) s, λ h l m. absurd (omega arith)))
    (λ s. go (omega (arith, ltb-false (f k) (g k) t, ltb-false (g k) (f k) s)) (by_counts f g k) (cmp_front f g k)))
  where
    go : f k ≡ g k → (o : Weight) → Says o (Front f g k) ((h : ℕ) → h < k → f h ≡ g h) (Front g f k) → Says o (Front f g (suc k)) ((h : ℕ) → h < suc k → f h ≡ g h) (Front g f (suc k))
    go e lighter x = (x.0, omega (arith, x.1), x.2, λ h l m. below_more (λ h. x.0 < h → f h ≡ g h) k (λ h n l. x.3 h l n) (λ _. e) h (omega (arith, m)) l)
    go e equal x = λ h m. below_more (λ h. f h ≡ g h) k x e h (omega (arith, m))
    go e heavier x = (x.0, omega (arith, x.1), x.2, λ h l m. below_more (λ h. x.0 < h → g h ≡ f h) k (λ h n l. x.3 h l n) (λ _. sym e) h (omega (arith, m)) l)

-- and of all, where they agree from d on
pub cmp_is : (f g : ℕ → ℕ) (d : ℕ) → ((h : ℕ) → d ≤ h → f h ≡ g h) → Says (by_counts f g d) (Below f g) (Same f g) (Below g f)
cmp_is f g d e = go (by_counts f g d) (cmp_front f g d)
  where
    go : (o : Weight) → Says o (Front f g d) ((h : ℕ) → h < d → f h ≡ g h) (Front g f d) → Says o (Below f g) (Same f g) (Below g f)
    go lighter x = (x.0, x.2, λ h l. ⊎_elim (x.3 h l) (e h) (cases_lt h d))
    go equal x = λ h. ⊎_elim (x h) (e h) (cases_lt h d)
    go heavier x = (x.0, x.2, λ h l. ⊎_elim (x.3 h l) (λ m. sym (e h m)) (cases_lt h d))
