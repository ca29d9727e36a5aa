-- The marks and the floor give the bounds.
use Rattle.std.proofs.Common.{◌≡◌, ℕ, ◌+◌, ◌-◌, ◌<◌, ◌≤◌, max, min, cond, leb, ltb, ◌⊎◌, List, length, get_or, set, Some, None, Option, sym, refl, ◌∙◌, subst, subst₂, inl, inr, arith}
use Rattle.std.specs.Prelude.{◌↔◌}
use Rattle.std.proofs.lemmas.Bool.{cases_lt, cases_order, cond_both, leb-true, leb-false, ltb-true, ltb-false}
use Rattle.loads.specs.Kinds.{by_rank}
use Rattle.loads.specs.Loads.{count, NotHeavier}
use Rattle.marking.specs.declared.bounds.Bounds.{Bounds}
use Rattle.marking.specs.declared.marks.Marks.{Marks}
use Rattle.marking.specs.Marks.{occurs, AlphaIs, OnlyMarks}
use Rattle.marking.specs.Bounds.{Loaded, FewerAtAlpha, IsFloor, left_most, right_least, BoundsOf, Outweighs}
use Rattle.marking.proofs.Comparing.{AtMost, Same, one, Shifted, Alpha}
use Rattle.marking.proofs.Order.{above_not_at_most}
use Rattle.marking.proofs.Shifts.{no_alpha, under_alpha, over_alpha}
use Rattle.marking.proofs.Verdict.{by_loads, to_loads, raised_shift, lowered_shift, loads_meet, meet_loads, none_past}

-- the bounds allow what is there, and name ranks
pub left_keeps : (α fl : Option ℕ) (a : ℕ) → a ≤ left_most α fl a
left_keeps None fl a = omega arith
left_keeps (Some α) None a = omega arith
left_keeps (Some α) (Some fl) a = omega arith

pub right_keeps : (α fl : Option ℕ) (b : ℕ) → right_least α fl b ≤ b
right_keeps None fl b = omega arith
right_keeps (Some α) None b = omega arith
right_keeps (Some α) (Some fl) b =
    cond_both (ltb b α) 0 (cond (ltb α b) b (min fl b)) (λ z. z ≤ b) (λ _. omega arith) (λ _.
    cond_both (ltb α b) b (min fl b) (λ z. z ≤ b) (λ _. omega arith) (λ _. omega arith))

pub left_below : (d : ℕ) (α fl : Option ℕ) (a : ℕ) → ((x : ℕ) → α ≡ Some x → x < d) → a < d → left_most α fl a < d
left_below d None fl a p l = l
left_below d (Some α) None a p l = l
left_below d (Some α) (Some fl) a p l = cond_both (leb fl a) α (α - 1) (λ z. max a z < d) (λ _. omega (arith, p α refl, l)) (λ _. omega (arith, p α refl, l))

-- where something moves, they are told by what holds below α, above it, and at it
left_within : (α fl a r : ℕ) (N : Type 0) → a < r → (r < α → N) → (α < r → N → ⊥) → (r ≡ α → (fl ≤ a) ↔ N) → (r ≤ left_most (Some α) (Some fl) a) ↔ N
left_within α fl a r N l under over at = go (cases_order r α)
  where
    go : (r ≡ α) ⊎ ((r < α) ⊎ (α < r)) → (r ≤ left_most (Some α) (Some fl) a) ↔ N
    go (inl e) =
        cond_both (leb fl a) α (α - 1) (λ z. (r ≤ max a z) ↔ N)
        (λ t. (λ _. (at e).0 (leb-true fl a t), λ _. omega (arith, e)))
        (λ t. (λ m. absurd (omega (arith, e, l, m)), λ n. absurd (omega (arith, (at e).1 n, leb-false fl a t))))
    go (inr (inl m)) =
        cond_both (leb fl a) α (α - 1) (λ z. (r ≤ max a z) ↔ N)
        (λ _. (λ _. under m, λ _. omega (arith, m)))
        (λ _. (λ _. under m, λ _. omega (arith, m)))
    go (inr (inr m)) =
        cond_both (leb fl a) α (α - 1) (λ z. (r ≤ max a z) ↔ N)
        (λ _. (λ w. absurd (omega (arith, l, m, w)), λ n. absurd (over m n)))
        (λ _. (λ w. absurd (omega (arith, l, m, w)), λ n. absurd (over m n)))

right_within : (α fl b r : ℕ) (N : Type 0) → r < b → (b < α → N) → (α < b → N → ⊥) → (b ≡ α → (fl ≤ r) ↔ N) → (right_least (Some α) (Some fl) b ≤ r) ↔ N
right_within α fl b r N l under over at =
    cond_both (ltb b α) 0 (cond (ltb α b) b (min fl b)) (λ z. (z ≤ r) ↔ N)
    (λ t. (λ _. under (ltb-true b α t), λ _. omega arith))
    (λ t. cond_both (ltb α b) b (min fl b) (λ z. (z ≤ r) ↔ N)
    (λ s. (λ w. absurd (omega (arith, l, w)), λ n. absurd (over (ltb-true α b s) n)))
    (λ s.
    let e : b ≡ α = omega (arith, ltb-false b α t, ltb-false α b s) in
    (λ w. (at e).0 (omega (arith, l, w)), λ n. omega (arith, (at e).1 n))))

-- a move to the same rank changes nothing
unmoved : (ox oy f g : ℕ → ℕ) (t u : ℕ) → Shifted ox oy f g t u → t ≡ u → AtMost ox oy → AtMost f g
unmoved ox oy f g t u s e = go
  where
    same : (h : ℕ) → f h + oy h ≡ g h + ox h
    same h = let z : one t h ≡ one u h = subst (λ (x : ℕ). one t h ≡ one x h) e refl in omega (arith, s h)

    go : AtMost ox oy → AtMost f g
    go (inl x) = inl (x.0, omega (arith, same x.0, x.1), λ h l. omega (arith, same h, x.2 h l))
    go (inr x) = inr (λ h. omega (arith, same h, x h))

-- Two counts that meet, loads that have them, and another rank for the member at a place.
module _ (ox oy : ℕ → ℕ) (px : (h : ℕ) → 48 ≤ h → ox h ≡ 0) (py : (h : ℕ) → 48 ≤ h → oy h ≡ 0) (met : AtMost ox oy) (xs ys : List ℕ) (k : Loaded ox oy xs ys) (i r : ℕ) where
  -- how often each rank occurs, before and after
  abbrev in_xs : ℕ → ℕ
  in_xs h = count by_rank h xs

  abbrev in_ys : ℕ → ℕ
  in_ys h = count by_rank h ys

  abbrev in_raised : ℕ → ℕ
  in_raised h = count by_rank h (set xs i r)

  abbrev in_lowered : ℕ → ℕ
  in_lowered h = count by_rank h (set ys i r)

  abbrev Raised : Type 0
  Raised = NotHeavier by_rank (set xs i r) ys

  abbrev Lowered : Type 0
  Lowered = NotHeavier by_rank xs (set ys i r)

  -- a left member a raised to r
  module _ (a : ℕ) (a_is : get_or xs i 0 ≡ a) (l : i < length xs) (m : a ≤ r) where
    raised : Shifted ox oy in_raised in_ys a r
    raised = subst (λ (z : ℕ). Shifted ox oy in_raised in_ys z r) a_is (raised_shift ox oy px py xs ys k i r l)

    left_still : a ≡ r → Raised
    left_still e = to_loads (set xs i r) ys (unmoved ox oy in_raised in_ys a r raised e met)

    left_no_alpha : Same ox oy → (r ≤ a) ↔ Raised
    left_no_alpha same = go (cases_lt a r)
      where
        go : (a < r) ⊎ (r ≤ a) → (r ≤ a) ↔ Raised
        go (inl n) = (λ w. absurd (omega (arith, n, w)), λ w. absurd (no_alpha ox oy in_raised in_ys a r n raised same (by_loads (set xs i r) ys w)))
        go (inr n) = (λ _. left_still (omega (arith, m, n)), λ _. n)

    left_alpha : (α fl : ℕ) → Alpha ox oy α → IsFloor ox oy α fl → (r ≤ left_most (Some α) (Some fl) a) ↔ Raised
    left_alpha α fl x floor = go (cases_lt a r)
      where
        at : a < r → r ≡ α → (fl ≤ a) ↔ Raised
        at n e =
            let all : (fl ≤ get_or xs i 0) ↔ NotHeavier by_rank (set xs i α) ys = floor.raised xs ys k i l (omega (arith, n, e, a_is)) in
            subst₂ (λ (y z : ℕ). (fl ≤ y) ↔ NotHeavier by_rank (set xs i z) ys) a_is (sym e) all

        go : (a < r) ⊎ (r ≤ a) → (r ≤ left_most (Some α) (Some fl) a) ↔ Raised
        go (inl n) =
            left_within α fl a r Raised n
            (λ u. to_loads (set xs i r) ys (under_alpha ox oy in_raised in_ys a r n raised α x u))
            (λ u w. over_alpha ox oy in_raised in_ys a r n raised α x u (by_loads (set xs i r) ys w))
            (at n)
        go (inr n) = (λ _. left_still (omega (arith, m, n)), λ _. omega (arith, left_keeps (Some α) (Some fl) a, n))

  -- a right member b lowered to r
  module _ (b : ℕ) (b_is : get_or ys i 0 ≡ b) (l : i < length ys) (m : r ≤ b) where
    lowered : Shifted ox oy in_xs in_lowered r b
    lowered = subst (λ (z : ℕ). Shifted ox oy in_xs in_lowered r z) b_is (lowered_shift ox oy px py xs ys k i r l)

    right_still : r ≡ b → Lowered
    right_still e = to_loads xs (set ys i r) (unmoved ox oy in_xs in_lowered r b lowered e met)

    right_no_alpha : Same ox oy → (b ≤ r) ↔ Lowered
    right_no_alpha same = go (cases_lt r b)
      where
        go : (r < b) ⊎ (b ≤ r) → (b ≤ r) ↔ Lowered
        go (inl n) = (λ w. absurd (omega (arith, n, w)), λ w. absurd (no_alpha ox oy in_xs in_lowered r b n lowered same (by_loads xs (set ys i r) w)))
        go (inr n) = (λ _. right_still (omega (arith, m, n)), λ _. n)

    right_alpha : (α fl : ℕ) → Alpha ox oy α → IsFloor ox oy α fl → (right_least (Some α) (Some fl) b ≤ r) ↔ Lowered
    right_alpha α fl x floor = go (cases_lt r b)
      where
        go : (r < b) ⊎ (b ≤ r) → (right_least (Some α) (Some fl) b ≤ r) ↔ Lowered
        go (inl n) =
            right_within α fl b r Lowered n
            (λ u. to_loads xs (set ys i r) (under_alpha ox oy in_xs in_lowered r b n lowered α x u))
            (λ u w. over_alpha ox oy in_xs in_lowered r b n lowered α x u (by_loads xs (set ys i r) w))
            (λ e. floor.lowered xs ys k i r l (b_is ∙ e) (omega (arith, n, e)))
        go (inr n) = (λ _. right_still (omega (arith, m, n)), λ _. omega (arith, right_keeps (Some α) (Some fl) b, n))

-- The same of the counts in two arrays, and their marks.
module _ (left : List ℕ) (right : List ℕ) (left_len : length left ≡ 48) (right_len : length right ≡ 48) (m : Marks) (known : OnlyMarks (occurs left) (occurs right) m) where
  none_left : (h : ℕ) → 48 ≤ h → occurs left h ≡ 0
  none_left = none_past left left_len

  none_right : (h : ℕ) → 48 ≤ h → occurs right h ≡ 0
  none_right = none_past right right_len

  alpha_here : (o : Option ℕ) → m.alpha ≡ o → AlphaIs (occurs left) (occurs right) o
  alpha_here o e = subst (AlphaIs (occurs left) (occurs right)) e known.marked.alpha_is

  -- α is one of the ranks counted
  pub ranked : (α : ℕ) → m.alpha ≡ Some α → α < 48
  ranked α e = go (cases_lt α 48)
    where
      go : (α < 48) ⊎ (48 ≤ α) → α < 48
      go (inl l) = l
      go (inr l) = absurd ((alpha_here (Some α) e).0 (none_left α l ∙ sym (none_right α l)))

  -- where the left has more at α, no loads with these counts meet
  pub outweighs : (α : ℕ) → m.alpha ≡ Some α → occurs right α < occurs left α → Outweighs (occurs left) (occurs right)
  outweighs α e l xs ys k n =
      above_not_at_most (occurs left) (occurs right) (α, l, λ h i. sym ((alpha_here (Some α) e).1 h i))
      (meet_loads (occurs left) (occurs right) none_left none_right xs ys k n)

  -- and where it has not, it has fewer
  pub fewer_at_alpha : (α : ℕ) → m.alpha ≡ Some α → occurs left α ≤ occurs right α → FewerAtAlpha (occurs left) (occurs right) m α
  fewer_at_alpha α e l = record { marked = known.marked; at = e; ranked = ranked α e; fewer = omega (arith, l, (alpha_here (Some α) e).0) }

  -- the bounds with the floor fl, if a member may be moved exactly so far, where α is o
  bounds_by : (o fl : Option ℕ) → m.alpha ≡ o → AtMost (occurs left) (occurs right)
      → ((xs ys : List ℕ) → Loaded (occurs left) (occurs right) xs ys → (i r : ℕ) → i < length xs → get_or xs i 0 ≤ r → (r ≤ left_most o fl (get_or xs i 0)) ↔ NotHeavier by_rank (set xs i r) ys)
      → ((xs ys : List ℕ) → Loaded (occurs left) (occurs right) xs ys → (i r : ℕ) → i < length ys → r ≤ get_or ys i 0 → (right_least o fl (get_or ys i 0) ≤ r) ↔ NotHeavier by_rank xs (set ys i r))
      → BoundsOf (occurs left) (occurs right) (record { marks = m; floor = fl })
  bounds_by o fl e met up down = record {
    marks_are = known;
    met = λ xs ys k. loads_meet (occurs left) (occurs right) none_left none_right xs ys k met;
    left = λ xs ys k i r l p. subst (λ (z : Option ℕ). (r ≤ left_most z fl (get_or xs i 0)) ↔ NotHeavier by_rank (set xs i r) ys) (sym e) (up xs ys k i r l p);
    right = λ xs ys k i r l p. subst (λ (z : Option ℕ). (right_least z fl (get_or ys i 0) ≤ r) ↔ NotHeavier by_rank xs (set ys i r)) (sym e) (down xs ys k i r l p);
  }

  -- without an α nothing may move
  pub bounds_without_alpha : m.alpha ≡ None → BoundsOf (occurs left) (occurs right) (record { marks = m; floor = None })
  bounds_without_alpha e =
      let same : Same (occurs left) (occurs right) = alpha_here None e in
      bounds_by None None e (inr same)
      (λ xs ys k i r l p. left_no_alpha (occurs left) (occurs right) none_left none_right (inr same) xs ys k i r (get_or xs i 0) refl l p same)
      (λ xs ys k i r l p. right_no_alpha (occurs left) (occurs right) none_left none_right (inr same) xs ys k i r (get_or ys i 0) refl l p same)

  -- with one, as far as the floor says
  pub bounds_with_floor : (α fl : ℕ) → m.alpha ≡ Some α → occurs left α ≤ occurs right α → IsFloor (occurs left) (occurs right) α fl
      → BoundsOf (occurs left) (occurs right) (record { marks = m; floor = Some fl })
  bounds_with_floor α fl e n floor =
      let x : Alpha (occurs left) (occurs right) α = ((fewer_at_alpha α e n).fewer, (alpha_here (Some α) e).1) in
      let less : AtMost (occurs left) (occurs right) = inl (α, x.0, x.1) in
      bounds_by (Some α) (Some fl) e less
      (λ xs ys k i r l p. left_alpha (occurs left) (occurs right) none_left none_right less xs ys k i r (get_or xs i 0) refl l p α fl x floor)
      (λ xs ys k i r l p. right_alpha (occurs left) (occurs right) none_left none_right less xs ys k i r (get_or ys i 0) refl l p α fl x floor)

-- a bound of a left member is a rank
pub left_ranked : (left : List ℕ) (right : List ℕ) → length left ≡ 48 → length right ≡ 48 → (b : Bounds) → BoundsOf (occurs left) (occurs right) b → (a : ℕ) → a < 48
    → left_most b.marks.alpha b.floor a < 48
left_ranked left right e f b of a l = left_below 48 b.marks.alpha b.floor a (ranked left right e f b.marks of.marks_are) l

-- what is decided of two counts
pub ruleset bounds = (ranked, outweighs, fewer_at_alpha, bounds_without_alpha, bounds_with_floor)
