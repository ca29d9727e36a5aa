-- What the marks say of a change by one: one more in favour at t, one less at u, with t < u. A cell of the left row raised from its
-- lowest rank a to r is the case t = a, u = r; a cell of the right row lowered from its highest rank b to r is t = r, u = b.
use Rattle.std.proofs.Common.{◌≡◌, ℕ, zero, suc, ◌+◌, ◌<◌, ◌≤◌, ◌⊎◌, sym, refl, subst, inl, inr, arith}
use Rattle.std.proofs.lemmas.Bool.{cases_lt, cases_eq}
use Rattle.loads.specs.declared.weighing.Weight.{Weight}
use Rattle.loads.specs.declared.weighing.Weight.TheVariants.{Lighter as lighter, Equal as equal, Heavier as heavier}
use Rattle.loads.specs.Counts.{by_counts}
use Rattle.marking.proofs.Comparing.{Below, Same, AtMost, Says, Shifted, Alpha, Beta, NoBeta, Gamma, Sigma}
use Rattle.marking.proofs.Order.{one_same, one_other, above_not_at_most, cmp_is}

-- where f is nowhere more from b on, and less at p, it is below
pub finds : (f g : ℕ → ℕ) (d b p : ℕ) → ((h : ℕ) → d ≤ h → f h ≡ g h) → ((h : ℕ) → b ≤ h → h < d → f h ≤ g h) → b ≤ p → p < d → f p < g p → Below f g
finds f g zero b p e l m n k = absurd (omega arith)
finds f g (suc d) b p e l m n k = go (cases_lt (f d) (g d)) (finds f g d b p)
  where
    go : (f d < g d) ⊎ (g d ≤ f d) → (((h : ℕ) → d ≤ h → f h ≡ g h) → ((h : ℕ) → b ≤ h → h < d → f h ≤ g h) → b ≤ p → p < d → f p < g p → Below f g) → Below f g
    go (inl x) ih = (d, x, λ h i. e h i)
    go (inr x) ih = last (cases_eq d p)
      where
        last : (d ≡ p) ⊎ (d ≡ p → ⊥) → Below f g
        last (inl q) = let z : f d < g d = subst (λ (y : ℕ). f y < g y) (sym q) k in absurd (omega arith)
        last (inr q) = ih (λ h i. agree h i (cases_eq d h)) (λ h i j. l h i (omega arith)) m (omega arith) k
          where
            agree : (h : ℕ) → d ≤ h → (d ≡ h) ⊎ (d ≡ h → ⊥) → f h ≡ g h
            agree h i (inl w) =
                let z = l d (omega arith) (omega arith) in
                let v : f d ≡ g d = omega arith in
                subst (λ (y : ℕ). f y ≡ g y) w v
            agree h i (inr w) = e h (omega arith)

-- γ holds, or there is a difference strictly between
pub differs : (f g : ℕ → ℕ) (hi lo : ℕ) → Gamma f g hi lo ⊎ ((p : ℕ) × (lo < p) × (p < hi) × (f p ≡ g p → ⊥))
differs f g zero lo = inl (λ h i j. absurd (omega arith))
differs f g (suc hi) lo = go (cases_eq (f hi) (g hi)) (cases_lt lo hi) (differs f g hi lo)
  where
    go : (f hi ≡ g hi) ⊎ (f hi ≡ g hi → ⊥) → (lo < hi) ⊎ (hi ≤ lo) → Gamma f g hi lo ⊎ ((p : ℕ) × (lo < p) × (p < hi) × (f p ≡ g p → ⊥)) → Gamma f g (suc hi) lo ⊎ ((p : ℕ) × (lo < p) × (p < suc hi) × (f p ≡ g p → ⊥))
    go (inl e) x (inl y) = inl (λ h i j. at h i j (cases_eq hi h))
      where
        at : (h : ℕ) → lo < h → h < suc hi → (hi ≡ h) ⊎ (hi ≡ h → ⊥) → f h ≡ g h
        at h i j (inl w) = subst (λ (y : ℕ). f y ≡ g y) w e
        at h i j (inr w) = y h i (omega arith)
    go (inl e) x (inr y) = inr (y.0, y.1, omega (arith, y.2), y.3)
    go (inr n) (inl x) y = inr (hi, x, omega arith, n)
    go (inr n) (inr x) y = inl (λ h i j. absurd (omega arith))

-- one of the three holds of counts that agree from some rank on
pub trichotomy : (f g : ℕ → ℕ) (d : ℕ) → ((h : ℕ) → d ≤ h → f h ≡ g h) → Below f g ⊎ (Same f g ⊎ Below g f)
trichotomy f g d e = go (by_counts f g d) (cmp_is f g d e)
  where
    go : (o : Weight) → Says o (Below f g) (Same f g) (Below g f) → Below f g ⊎ (Same f g ⊎ Below g f)
    go lighter x = inl x
    go equal x = inr (inl x)
    go heavier x = inr (inr x)

module _ (ox oy f g : ℕ → ℕ) (t u : ℕ) (low : t < u) (s : Shifted ox oy f g t u) where
  kept : (h : ℕ) → (t ≡ h → ⊥) → (u ≡ h → ⊥) → f h + oy h ≡ g h + ox h
  kept h n m = omega (arith, s h, one_other t h n, one_other u h m)

  beyond : (h : ℕ) → u < h → f h + oy h ≡ g h + ox h
  beyond h l = kept h (omega arith) (omega arith)

  loss : f u + oy u ≡ (g u + ox u) + 1
  loss = omega (arith, s u, one_other t u (omega arith), one_same u u refl)

  gain : (f t + oy t) + 1 ≡ g t + ox t
  gain = omega (arith, s t, one_same t t refl, one_other u t (omega arith))

  never_less : (h : ℕ) → h < u → f h + oy h ≤ g h + ox h
  never_less h l = omega (arith, s h, one_other u h (omega arith))

  -- no α: no change is allowed
  pub no_alpha : Same ox oy → AtMost f g → ⊥
  no_alpha e = above_not_at_most f g (u, omega (arith, loss, e u), λ h l. omega (arith, beyond h l, e h))

  -- a loss below α is allowed, one above is not
  pub under_alpha : (α : ℕ) → Alpha ox oy α → u < α → AtMost f g
  under_alpha α a l = inl (α, omega (arith, beyond α l, a.0), λ h m. omega (arith, beyond h (omega arith), a.1 h m))

  pub over_alpha : (α : ℕ) → Alpha ox oy α → α < u → AtMost f g → ⊥
  over_alpha α a l = above_not_at_most f g (u, omega (arith, loss, a.1 u l), λ h m. omega (arith, beyond h m, a.1 h (omega arith)))

  -- a loss at α itself: with two or more to spare
  pub at_alpha_spare : Alpha ox oy u → ox u + 1 < oy u → AtMost f g
  at_alpha_spare a l = inl (u, omega (arith, loss), λ h m. omega (arith, beyond h m, a.1 h m))

  -- with just one to spare the counts come to agree from α on
  agree : Alpha ox oy u → ox u + 1 ≡ oy u → (h : ℕ) → u ≤ h → f h ≡ g h
  agree a x h l = go (cases_eq u h)
    where
      go : (u ≡ h) ⊎ (u ≡ h → ⊥) → f h ≡ g h
      go (inl e) = let z : f u ≡ g u = omega (arith, loss) in subst (λ (y : ℕ). f y ≡ g y) e z
      go (inr n) = omega (arith, beyond h (omega arith), a.1 h (omega arith))

  pub at_alpha_no_beta : Alpha ox oy u → ox u + 1 ≡ oy u → NoBeta ox oy u → AtMost f g
  at_alpha_no_beta a x b =
      inl (finds f g u 0 t (agree a x) (λ h _ l. omega (arith, never_less h l, b h l)) (omega arith) low (omega (arith, gain, b t low)))

  pub at_alpha_over_beta : (β : ℕ) → Alpha ox oy u → ox u + 1 ≡ oy u → Beta ox oy u β → β < t → AtMost f g
  at_alpha_over_beta β a x b l =
      inl (finds f g u (suc β) t (agree a x) (λ h m n. omega (arith, never_less h n, b.2 h m n)) l low (omega (arith, gain, b.2 t l low)))

  pub at_alpha_no_gamma : (β : ℕ) → Alpha ox oy u → ox u + 1 ≡ oy u → Beta ox oy u β → (Gamma ox oy u β → ⊥) → AtMost f g
  at_alpha_no_gamma β a x b n = go (differs ox oy u β)
    where
      go : Gamma ox oy u β ⊎ ((p : ℕ) × (β < p) × (p < u) × (ox p ≡ oy p → ⊥)) → AtMost f g
      go (inl y) = absurd (n y)
      go (inr y) =
          let d = y.3 in
          inl (finds f g u (suc β) y.0 (agree a x) (λ h m n. omega (arith, never_less h n, b.2 h m n)) y.1 y.2
          (omega (arith, never_less y.0 y.2, b.2 y.0 y.1 y.2, d)))

  -- what γ gives: a difference at β decides
  over : (β : ℕ) → Alpha ox oy u → ox u + 1 ≡ oy u → Gamma ox oy u β → t ≤ β → (h : ℕ) → β < h → f h ≡ g h
  over β a x c l h m = go (cases_lt h u)
    where
      go : (h < u) ⊎ (u ≤ h) → f h ≡ g h
      go (inl k) = omega (arith, kept h (omega arith) (omega arith), c h m k)
      go (inr k) = agree a x h k

  pub at_alpha_under_beta : (β : ℕ) → Alpha ox oy u → ox u + 1 ≡ oy u → Beta ox oy u β → Gamma ox oy u β → t < β → AtMost f g → ⊥
  at_alpha_under_beta β a x b c l =
      above_not_at_most f g (β, omega (arith, kept β (omega arith) (omega (arith, b.0)), b.1), λ h m. sym (over β a x c (omega arith) h m))

  -- a gain at β itself
  pub at_beta_short : Alpha ox oy u → ox u + 1 ≡ oy u → Gamma ox oy u t → oy t + 1 < ox t → AtMost f g → ⊥
  at_beta_short a x c l = above_not_at_most f g (t, omega (arith, gain), λ h m. sym (over t a x c (omega arith) h m))

  level : Alpha ox oy u → ox u + 1 ≡ oy u → Gamma ox oy u t → ox t ≡ oy t + 1 → (h : ℕ) → t ≤ h → f h ≡ g h
  level a x c l h m = go (cases_eq t h)
    where
      go : (t ≡ h) ⊎ (t ≡ h → ⊥) → f h ≡ g h
      go (inl e) = let z : f t ≡ g t = omega (arith, gain) in subst (λ (y : ℕ). f y ≡ g y) e z
      go (inr n) = over t a x c (omega arith) h (omega arith)

  pub at_beta_sigma : Alpha ox oy u → ox u + 1 ≡ oy u → Gamma ox oy u t → ox t ≡ oy t + 1 → Sigma ox oy t → AtMost f g → ⊥
  at_beta_sigma a x c l y =
      above_not_at_most f g (y.0, omega (arith, kept y.0 (omega (arith, y.1)) (omega (arith, y.1)), y.2), λ h m. go h m (cases_lt h t))
    where
      go : (h : ℕ) → y.0 < h → (h < t) ⊎ (t ≤ h) → g h ≡ f h
      go h m (inl k) = omega (arith, kept h (omega arith) (omega arith), y.3 h m k)
      go h m (inr k) = sym (level a x c l h k)

  pub at_beta_no_sigma : Alpha ox oy u → ox u + 1 ≡ oy u → Gamma ox oy u t → ox t ≡ oy t + 1 → (Sigma ox oy t → ⊥) → AtMost f g
  at_beta_no_sigma a x c l n = go (trichotomy f g t (level a x c l))
    where
      go : Below f g ⊎ (Same f g ⊎ Below g f) → AtMost f g
      go (inl y) = inl y
      go (inr (inl y)) = inr y
      go (inr (inr y)) = place (cases_lt y.0 t)
        where
          place : (y.0 < t) ⊎ (t ≤ y.0) → AtMost f g
          place (inl k) =
              absurd (n (y.0, k, omega (arith, kept y.0 (omega arith) (omega arith), y.1), λ h i j. omega (arith, kept h (omega arith) (omega arith), y.2 h i)))
          place (inr k) = absurd (omega (arith, level a x c l y.0 k, y.1))
