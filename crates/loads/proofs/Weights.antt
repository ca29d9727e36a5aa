-- The laws of weighing.
use Rattle.std.proofs.Common.{◌≡◌, ℕ, suc, ◌+◌, ◌<◌, List, [], ◌∷◌, ◌++◌, length, get_or, take, drop, set, sym, refl, ap, ◌∙◌, subst, inl, inr, arith}
use lib.Seq.{set_split, split_at}
use Rattle.std.specs.declared.cmp.Ordering.{Ordering}
use Rattle.std.specs.declared.cmp.Ordering.TheVariants.{Less, Greater}
use Rattle.loads.specs.declared.weighing.Weight.{Weight}
use Rattle.loads.specs.declared.weighing.Weight.TheVariants.{Lighter as lighter, Equal as equal, Heavier as heavier}
use Rattle.loads.specs.Grades.{Order}
use Rattle.loads.specs.Loads.{count, Lighter, Equal, NotHeavier, Weighed}
use Rattle.loads.specs.Laws.{NoneHigher}
use Rattle.loads.proofs.Counting.{one, by_ordering, count_append, below_higher, one_here, one_higher}

-- what a member adds, wherever it stands
pub count_insert : {G : Type 0} (cmp : G → G → Ordering) (g x : G) (us vs : List G) → count cmp g (us ++ (x ∷ vs)) ≡ count cmp g (us ++ vs) + one (cmp g x)
count_insert cmp g x us vs = omega (arith, count_append cmp g us (x ∷ vs), count_append cmp g us vs)

-- loads that each have d h more of each grade h weigh alike
pub more_lighter : {G : Type 0} (cmp : G → G → Ordering) (d : G → ℕ) (xs ys us vs : List G) → ((h : G) → count cmp h us ≡ count cmp h xs + d h) → ((h : G) → count cmp h vs ≡ count cmp h ys + d h) → Lighter cmp xs ys → Lighter cmp us vs
more_lighter cmp d xs ys us vs p q l =
    (l.0, omega (arith, p l.0, q l.0, l.1), λ h u. omega (arith, p h, q h, l.2 h u))

pub more_weighed : {G : Type 0} (cmp : G → G → Ordering) (d : G → ℕ) (xs ys us vs : List G) → ((h : G) → count cmp h us ≡ count cmp h xs + d h) → ((h : G) → count cmp h vs ≡ count cmp h ys + d h) → (w : Weight) → Weighed cmp w xs ys → Weighed cmp w us vs
more_weighed cmp d xs ys us vs p q lighter l = more_lighter cmp d xs ys us vs p q l
more_weighed cmp d xs ys us vs p q equal e = λ h. omega (arith, p h, q h, e h)
more_weighed cmp d xs ys us vs p q heavier l = more_lighter cmp d ys xs vs us q p l

pub less_lighter : {G : Type 0} (cmp : G → G → Ordering) (d : G → ℕ) (xs ys us vs : List G) → ((h : G) → count cmp h us ≡ count cmp h xs + d h) → ((h : G) → count cmp h vs ≡ count cmp h ys + d h) → Lighter cmp us vs → Lighter cmp xs ys
less_lighter cmp d xs ys us vs p q l =
    (l.0, omega (arith, p l.0, q l.0, l.1), λ h u. omega (arith, p h, q h, l.2 h u))

pub less_weighed : {G : Type 0} (cmp : G → G → Ordering) (d : G → ℕ) (xs ys us vs : List G) → ((h : G) → count cmp h us ≡ count cmp h xs + d h) → ((h : G) → count cmp h vs ≡ count cmp h ys + d h) → (w : Weight) → Weighed cmp w us vs → Weighed cmp w xs ys
less_weighed cmp d xs ys us vs p q lighter l = less_lighter cmp d xs ys us vs p q l
less_weighed cmp d xs ys us vs p q equal e = λ h. omega (arith, p h, q h, e h)
less_weighed cmp d xs ys us vs p q heavier l = less_lighter cmp d ys xs vs us q p l

module _ {G : Type 0} (cmp : G → G → Ordering) (o : Order cmp) where
  pub not_both : (xs ys : List G) → Lighter cmp xs ys → Equal cmp xs ys → ⊥
  not_both xs ys l e = omega (arith, l.1, e l.0)

  pub not_each : (xs ys : List G) → Lighter cmp xs ys → Lighter cmp ys xs → ⊥
  not_each xs ys l k =
      by_ordering (cmp l.0 k.0)
      (λ u. omega (arith, l.2 k.0 u, k.1))
      (λ e. let more : count cmp l.0 ys < count cmp l.0 xs = subst (λ (g : G). count cmp g ys < count cmp g xs) (sym (o.equal l.0 k.0 e)) k.1 in
      omega (arith, l.1, more))
      (λ u. omega (arith, k.2 l.0 (below_higher cmp o l.0 k.0 u), l.1))

  pub trans : (xs ys zs : List G) → Lighter cmp xs ys → Lighter cmp ys zs → Lighter cmp xs zs
  trans xs ys zs l k =
      by_ordering (cmp l.0 k.0)
      (λ u. (k.0, omega (arith, l.2 k.0 u, k.1), λ h v. l.2 h (o.lower l.0 k.0 h u v) ∙ k.2 h v))
      (λ e. let same : l.0 ≡ k.0 = o.equal l.0 k.0 e in
      let less : count cmp l.0 ys < count cmp l.0 zs = subst (λ (g : G). count cmp g ys < count cmp g zs) (sym same) k.1 in
      (l.0, omega (arith, l.1, less), λ h v. l.2 h v ∙ k.2 h (subst (λ (g : G). cmp g h ≡ Less) same v)))
      (λ u. let d : cmp k.0 l.0 ≡ Less = below_higher cmp o l.0 k.0 u in
      (l.0, omega (arith, k.2 l.0 d, l.1), λ h v. l.2 h v ∙ k.2 h (o.lower k.0 l.0 h d v)))

  pub trans_equal : (xs ys zs : List G) → Lighter cmp xs ys → Equal cmp ys zs → Lighter cmp xs zs
  trans_equal xs ys zs l e = (l.0, omega (arith, l.1, e l.0), λ h u. l.2 h u ∙ e h)

  pub equal_trans : (xs ys zs : List G) → Equal cmp xs ys → Lighter cmp ys zs → Lighter cmp xs zs
  equal_trans xs ys zs e l = (l.0, omega (arith, l.1, e l.0), λ h u. e h ∙ l.2 h u)

  pub one_answer : (xs ys : List G) (v w : Weight) → Weighed cmp v xs ys → Weighed cmp w xs ys → v ≡ w
  one_answer xs ys lighter lighter p q = refl
  one_answer xs ys lighter equal p q = absurd (not_both xs ys p q)
  one_answer xs ys lighter heavier p q = absurd (not_each xs ys p q)
  one_answer xs ys equal lighter p q = absurd (not_both xs ys q p)
  one_answer xs ys equal equal p q = refl
  one_answer xs ys equal heavier p q = absurd (not_both ys xs q (λ h. sym (p h)))
  one_answer xs ys heavier lighter p q = absurd (not_each xs ys q p)
  one_answer xs ys heavier equal p q = absurd (not_both ys xs p (λ h. sym (q h)))
  one_answer xs ys heavier heavier p q = refl

  pub added : (x : G) (us vs ss ts : List G) (w : Weight) → Weighed cmp w (us ++ vs) (ss ++ ts) → Weighed cmp w (us ++ (x ∷ vs)) (ss ++ (x ∷ ts))
  added x us vs ss ts w =
      more_weighed cmp (λ h. one (cmp h x)) (us ++ vs) (ss ++ ts) (us ++ (x ∷ vs)) (ss ++ (x ∷ ts)) (λ h. count_insert cmp h x us vs) (λ h. count_insert cmp h x ss ts) w

  pub taken : (x : G) (us vs ss ts : List G) (w : Weight) → Weighed cmp w (us ++ (x ∷ vs)) (ss ++ (x ∷ ts)) → Weighed cmp w (us ++ vs) (ss ++ ts)
  taken x us vs ss ts w =
      less_weighed cmp (λ h. one (cmp h x)) (us ++ vs) (ss ++ ts) (us ++ (x ∷ vs)) (ss ++ (x ∷ ts)) (λ h. count_insert cmp h x us vs) (λ h. count_insert cmp h x ss ts) w

  pub longer : (x : G) (us vs : List G) → Lighter cmp (us ++ vs) (us ++ (x ∷ vs))
  longer x us vs =
      (x, omega (arith, count_insert cmp x x us vs, one_here cmp o x), λ h u. omega (arith, count_insert cmp h x us vs, one_higher cmp o x h u))

  pub lowered : (x y : G) (us vs : List G) → cmp x y ≡ Less → Lighter cmp (us ++ (x ∷ vs)) (us ++ (y ∷ vs))
  lowered x y us vs l = (
    y,
    omega (arith, count_insert cmp y x us vs, count_insert cmp y y us vs, one_here cmp o y, one_higher cmp o x y l),
    λ h u. omega (arith, count_insert cmp h x us vs, count_insert cmp h y us vs, one_higher cmp o y h u, one_higher cmp o x h (o.lower x y h l u)),
  )

  pub lowered_at : (x d : G) (ys : List G) (i : ℕ) → i < length ys → cmp x (get_or ys i d) ≡ Less → Lighter cmp (set ys i x) ys
  lowered_at x d ys i within l =
      let lower : Lighter cmp (take i ys ++ (x ∷ drop (suc i) ys)) (take i ys ++ (get_or ys i d ∷ drop (suc i) ys)) = lowered x (get_or ys i d) (take i ys) (drop (suc i) ys) l in
      let front : Lighter cmp (set ys i x) (take i ys ++ (get_or ys i d ∷ drop (suc i) ys)) = subst (λ (zs : List G). Lighter cmp zs (take i ys ++ (get_or ys i d ∷ drop (suc i) ys))) (sym (set_split ys i x within)) lower in
      subst (λ (zs : List G). Lighter cmp (set ys i x) zs) (sym (split_at ys i d within)) front

  pub not_heavier_trans : (xs ys zs : List G) → NotHeavier cmp xs ys → NotHeavier cmp ys zs → NotHeavier cmp xs zs
  not_heavier_trans xs ys zs (inl l) (inl k) = inl (trans xs ys zs l k)
  not_heavier_trans xs ys zs (inl l) (inr e) = inl (trans_equal xs ys zs l e)
  not_heavier_trans xs ys zs (inr e) (inl k) = inl (equal_trans xs ys zs e k)
  not_heavier_trans xs ys zs (inr e) (inr f) = inr (λ h. e h ∙ f h)

  pub not_heavier_both : (xs ys : List G) → NotHeavier cmp xs ys → NotHeavier cmp ys xs → Equal cmp xs ys
  not_heavier_both xs ys (inl l) (inl k) = absurd (not_each xs ys l k)
  not_heavier_both xs ys (inl l) (inr e) = absurd (not_both xs ys l (λ h. sym (e h)))
  not_heavier_both xs ys (inr e) q = e

  -- one member replaced by one that is not higher
  pub no_higher : (x y : G) (us vs : List G) → (cmp x y ≡ Greater → ⊥) → NotHeavier cmp (us ++ (x ∷ vs)) (us ++ (y ∷ vs))
  no_higher x y us vs n =
      by_ordering (cmp x y)
      (λ l. inl (lowered x y us vs l))
      (λ e. inr (λ h. ap (λ (z : G). count cmp h (us ++ (z ∷ vs))) (o.equal x y e)))
      (λ u. absurd (n u))

  pub added_not_heavier : (x : G) (xs ys : List G) → NotHeavier cmp xs ys → NotHeavier cmp (x ∷ xs) (x ∷ ys)
  added_not_heavier x xs ys (inl l) = inl (added x [] xs [] ys lighter l)
  added_not_heavier x xs ys (inr e) = inr (added x [] xs [] ys equal e)

  pub monotone : (xs ys : List G) → NoneHigher cmp xs ys → NotHeavier cmp xs ys
  monotone [] [] n = inr (λ h. refl)
  monotone [] (y ∷ ys) n = absurd n
  monotone (x ∷ xs) [] n = absurd n
  monotone (x ∷ xs) (y ∷ ys) n =
      not_heavier_trans (x ∷ xs) (y ∷ xs) (y ∷ ys) (no_higher x y [] xs n.0) (added_not_heavier y xs ys (monotone xs ys n.1))
