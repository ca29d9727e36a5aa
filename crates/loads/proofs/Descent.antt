-- The top of a load below a limit, the peak of two loads, and the walk down by it.
use Rattle.std.proofs.Common.{◌≡◌, ℕ, ◌+◌, ◌<◌, ◌≤◌, Bool, true, false, cond, not, eqb, ◌⊎◌, List, [], ◌∷◌, ◌++◌, length, get_or, take, Some, None, Option, sym, refl, ap, ◌∙◌, subst, inl, inr, arith}
use Rattle.std.proofs.lemmas.List.{take_more}
use Rattle.std.proofs.lemmas.Bool.{both_ways, ne_eqb, true≢false, false≢true}
use Rattle.std.specs.declared.cmp.Ordering.{Ordering}
use Rattle.std.specs.declared.cmp.Ordering.TheVariants.{Less, Equal as Same, Greater}
use Rattle.std.specs.Ordering.{is_lt, is_gt}
use Rattle.loads.specs.declared.weighing.Held.{Held}
use Rattle.loads.specs.declared.weighing.Tally.{Tally}
use Rattle.loads.specs.Grades.{Order}
use Rattle.loads.specs.Loads.{count, Equal}
use Rattle.loads.specs.Weighing.{below, NoneBetween, TopIs, NoTop, Top, times, Raised, PeakIs, HigherOf, DecidedAt, distinct}
use Rattle.loads.proofs.Counting.{one, by_ordering, is_less, count_push, count_le_length, above_lower, below_higher, one_here, one_higher, one_apart}

-- one member more of xs
pub one_more : {G : Type 0} (xs : List G) (i : ℕ) (x : G) → i < length xs → x ≡ get_or xs i x → take (i + 1) xs ≡ take i xs ++ (x ∷ [])
one_more xs i x within read = take_more xs i x within ∙ ap (λ y. take i xs ++ (y ∷ [])) (sym read)

module _ {G : Type 0} {cmp : G → G → Ordering} (o : Order cmp) where
  -- a grade below the limit is not one that is not
  outside : (limit : Option G) (h x : G) → below cmp limit x ≡ false → below cmp limit h ≡ true → one (cmp h x) ≡ 0
  outside limit h x out b = one_apart cmp o h x (λ e. both_ways (below cmp limit x) out (subst (λ (y : G). below cmp limit y ≡ true) e b))

  -- a member that is not below the limit changes nothing
  pub top_skips : (limit : Option G) (xs : List G) (t : Option (Held G)) (x : G) → below cmp limit x ≡ false → Top cmp limit xs t → Top cmp limit (xs ++ (x ∷ [])) t
  top_skips limit xs None x out hi = λ h b. omega (arith, count_push cmp h xs x, hi h b, outside limit h x out b)
  top_skips limit xs (Some t) x out hi = record {
    under = hi.under;
    count_is = omega (arith, count_push cmp t.grade.now xs x, hi.count_is, outside limit t.grade.now x out hi.under);
    some = hi.some;
    none_between = λ h l b. omega (arith, count_push cmp h xs x, hi.none_between h l b, outside limit h x out b);
  }

  top_first : (limit : Option G) (xs : List G) (x : G) → below cmp limit x ≡ true → NoTop cmp limit xs → TopIs cmp limit (xs ++ (x ∷ [])) x 1
  top_first limit xs x b hi = record {
    under = b;
    count_is = omega (arith, count_push cmp x xs x, hi x b, one_here cmp o x);
    some = omega arith;
    none_between = λ h l k. omega (arith, count_push cmp h xs x, hi h k, one_higher cmp o x h l);
  }

  module _ (limit : Option G) (xs : List G) (g : G) (n : ℕ) (x : G) (b : below cmp limit x ≡ true) (hi : TopIs cmp limit xs g n) where
    top_lower : cmp x g ≡ Less → TopIs cmp limit (xs ++ (x ∷ [])) g n
    top_lower e = record {
      under = hi.under;
      count_is = omega (arith, count_push cmp g xs x, hi.count_is, one_higher cmp o x g e);
      some = hi.some;
      none_between = λ h l k. omega (arith, count_push cmp h xs x, hi.none_between h l k, one_higher cmp o x h (o.lower x g h e l));
    }

    top_same : cmp x g ≡ Same → TopIs cmp limit (xs ++ (x ∷ [])) g (n + 1)
    top_same e =
        let same : x ≡ g = o.equal x g e in record {
          under = hi.under;
          count_is = omega (arith, count_push cmp g xs x, hi.count_is, ap (λ (y : G). one (cmp g y)) same, one_here cmp o g);
          some = omega arith;
          none_between = λ h l k. omega (arith, count_push cmp h xs x, hi.none_between h l k, ap (λ (y : G). one (cmp h y)) same, one_higher cmp o g h l);
        }

    top_higher : cmp x g ≡ Greater → TopIs cmp limit (xs ++ (x ∷ [])) x 1
    top_higher e =
        let up : cmp g x ≡ Less = below_higher cmp o x g e in record {
          under = b;
          count_is = omega (arith, count_push cmp x xs x, hi.none_between x up b, one_here cmp o x);
          some = omega arith;
          none_between = λ h l k. omega (arith, count_push cmp h xs x, hi.none_between h (o.lower g x h up l) k, one_higher cmp o x h l);
        }

  -- a member below the limit raises the top
  pub top_raised : (limit : Option G) (xs : List G) (t : Option (Held G)) (x : G) {k : G} {n : ℕ} → below cmp limit x ≡ true → Top cmp limit xs t → Raised cmp t x k n → TopIs cmp limit (xs ++ (x ∷ [])) k n
  top_raised limit xs None x b hi r = rw (r.0, r.1) (top_first limit xs x b hi)
  top_raised limit xs (Some t) x b hi r =
      by_ordering (cmp x g)
      (λ e. let s = rw e at r in rw (s.0, s.1) (top_lower limit xs g m x b hi e))
      (λ e. let s = rw e at r in rw (s.0, s.1) (top_same limit xs g m x b hi e))
      (λ e. let s = rw e at r in rw (s.0, s.1) (top_higher limit xs g m x b hi e))
    where
      g : G
      g = t.grade.now

      m : ℕ
      m = t.count

  -- there are at most as many of the top as members
  pub times_le : (limit : Option G) (xs : List G) (t : Option (Held G)) → Top cmp limit xs t → times t ≤ length xs + 1
  times_le limit xs None hi = omega arith
  times_le limit xs (Some t) hi = omega (arith, hi.count_is, count_le_length cmp t.grade.now xs)

  -- a top that is higher than the other load's, or alone
  pub peak_left : {limit : Option G} {xs ys : List G} {g : G} {m : ℕ} → TopIs cmp limit xs g m → ((h : G) → (g ≡ h) ⊎ (cmp g h ≡ Less) → below cmp limit h ≡ true → count cmp h ys ≡ 0) → PeakIs cmp limit xs ys g m 0
  peak_left {limit} {xs} {ys} {g} hi none = record {
    under = hi.under;
    left_is = hi.count_is;
    right_is = sym (none g (inl refl) hi.under);
    some = omega (arith, hi.some);
    none_left = hi.none_between;
    none_right = λ h l b. none h (inr l) b;
  }

  pub peak_turned : {limit : Option G} {xs ys : List G} {g : G} {m n : ℕ} → PeakIs cmp limit xs ys g m n → PeakIs cmp limit ys xs g n m
  peak_turned p = record {
    under = p.under;
    left_is = p.right_is;
    right_is = p.left_is;
    some = omega (arith, p.some);
    none_left = p.none_right;
    none_right = p.none_left;
  }

  pub peak_alone : {limit : Option G} {xs ys : List G} {g : G} {m : ℕ} → TopIs cmp limit xs g m → NoTop cmp limit ys → PeakIs cmp limit xs ys g m 0
  peak_alone hi none = peak_left hi (λ h _ b. none h b)

  -- a top above the other load's top
  peak_over : {limit : Option G} {xs ys : List G} {g k : G} {m n : ℕ} → TopIs cmp limit xs g m → TopIs cmp limit ys k n → cmp k g ≡ Less → PeakIs cmp limit xs ys g m 0
  peak_over {limit} {xs} {ys} {g} {k} hi lo e = peak_left hi (λ h w b. lo.none_between h (over h w) b)
    where
      over : (h : G) → (g ≡ h) ⊎ (cmp g h ≡ Less) → cmp k h ≡ Less
      over h (inl same) = subst (λ (y : G). cmp k y ≡ Less) same e
      over h (inr l) = o.lower k g h e l

  pub peak_both : {limit : Option G} {xs ys : List G} (l r : Held G) (t : Tally G) → TopIs cmp limit xs l.grade.now l.count → TopIs cmp limit ys r.grade.now r.count → HigherOf cmp l r t → PeakIs cmp limit xs ys t.grade.now t.left t.right
  peak_both {limit} {xs} {ys} l r t hi lo h =
      by_ordering (cmp l.grade.now r.grade.now)
      (λ e. let s = rw e at h in
      rw (s.0, s.1, s.2)
      (peak_turned (peak_over lo hi e)))
      (λ e. let s = rw e at h in
      let same : l.grade.now ≡ r.grade.now = o.equal l.grade.now r.grade.now e in
      rw (s.0, s.1, s.2) (peak_same same))
      (λ e. let s = rw e at h in
      rw (s.0, s.1, s.2)
      (peak_over hi lo (below_higher cmp o l.grade.now r.grade.now e)))
    where
      peak_same : l.grade.now ≡ r.grade.now → PeakIs cmp limit xs ys l.grade.now l.count r.count
      peak_same same =
          let also : TopIs cmp limit ys l.grade.now r.count = subst (λ (y : G). TopIs cmp limit ys y r.count) (sym same) lo in record {
            under = hi.under;
            left_is = hi.count_is;
            right_is = also.count_is;
            some = omega (arith, hi.some);
            none_left = hi.none_between;
            none_right = also.none_between;
          }

-- cases on a test, with its equation
pub by_test : {R : Type 0} (b : Bool) → (b ≡ true → R) → (b ≡ false → R) → R
by_test true t f = t refl
by_test false t f = f refl

-- the loads have as many of each grade that is not below the limit
abbrev pub Agreed : {G : Type 0} → (G → G → Ordering) → Option G → List G → List G → Type 0
Agreed {G} cmp limit xs ys = (h : G) → below cmp limit h ≡ false → count cmp h xs ≡ count cmp h ys

-- how many members are below the limit
abbrev pub under : {G : Type 0} → (G → G → Ordering) → Option G → List G → ℕ
under cmp limit [] = 0
under cmp limit (x ∷ xs) = cond (below cmp limit x) 1 0 + under cmp limit xs

-- at or above the limit
abbrev passed : {G : Type 0} → (G → G → Ordering) → Option G → G → Bool
passed cmp limit x = not (below cmp limit x)

-- how many different grades of a load are at or above the limit
abbrev pub grades_passed : {G : Type 0} → (G → G → Ordering) → Option G → List G → ℕ
grades_passed cmp None xs = 0
grades_passed cmp (Some g) xs = distinct cmp (passed cmp (Some g)) xs

module _ {G : Type 0} {cmp : G → G → Ordering} (o : Order cmp) where
  agrees_above : (limit : Option G) (xs ys : List G) (g : G) → NoneBetween cmp g limit xs → NoneBetween cmp g limit ys → Agreed cmp limit xs ys → (h : G) → cmp g h ≡ Less → count cmp h xs ≡ count cmp h ys
  agrees_above limit xs ys g p q same h l = by_test (below cmp limit h) (λ b. p h l b ∙ sym (q h l b)) (λ b. same h b)

  -- a peak of which the loads hold different numbers decides
  pub decided_at : {limit : Option G} {xs ys : List G} {g : G} {m n : ℕ} → PeakIs cmp limit xs ys g m n → Agreed cmp limit xs ys → (m ≡ n → ⊥) → DecidedAt cmp xs ys g m n
  decided_at p same apart = record {
    left_is = p.left_is;
    right_is = p.right_is;
    differ = apart;
    agree = agrees_above _ _ _ _ p.none_left p.none_right same;
  }

  -- where no peak is left, the loads are equal
  pub all_agree : (limit : Option G) (xs ys : List G) → NoTop cmp limit xs → NoTop cmp limit ys → Agreed cmp limit xs ys → Equal cmp xs ys
  all_agree limit xs ys p q same h = by_test (below cmp limit h) (λ b. p h b ∙ sym (q h b)) (λ b. same h b)

  -- one grade further down
  pub agreed_more : {limit : Option G} {xs ys : List G} {g : G} {m n : ℕ} → PeakIs cmp limit xs ys g m n → m ≡ n → Agreed cmp limit xs ys → Agreed cmp (Some g) xs ys
  agreed_more {limit} {xs} {ys} {g} p e same h out =
      by_ordering (cmp g h)
      (λ l. agrees_above _ _ _ _ p.none_left p.none_right same h l)
      (λ s. subst (λ (k : G). count cmp k xs ≡ count cmp k ys) (o.equal g h s) (sym p.left_is ∙ e ∙ p.right_is))
      (λ u. absurd (both_ways (is_lt (cmp h g)) out (ap is_lt (below_higher cmp o g h u))))

  below_falls : (limit : Option G) (g x : G) → below cmp limit g ≡ true → cmp x g ≡ Less → below cmp limit x ≡ true
  below_falls None g x b l = refl
  below_falls (Some top) g x b l = ap is_lt (o.lower x g top l (is_less (cmp g top) b))

  under_here : (limit : Option G) (g : G) → below cmp limit g ≡ true → (x : G) → cond (is_lt (cmp x g)) 1 0 + one (cmp g x) ≤ cond (below cmp limit x) 1 0
  under_here limit g b x =
      by_ordering (cmp g x)
      (λ l. rw (l, above_lower cmp o g x l) (omega arith))
      (λ e. let same : x ≡ g = sym (o.equal g x e) in
      let alike : cmp x g ≡ Same = ap (λ (y : G). cmp y g) same ∙ o.same g in
      let bx : below cmp limit x ≡ true = ap (below cmp limit) same ∙ b in
      rw (e, alike, bx) (omega arith))
      (λ u. let l : cmp x g ≡ Less = below_higher cmp o g x u in rw (u, l, below_falls limit g x b l) (omega arith))

  under_all : (limit : Option G) (g : G) → below cmp limit g ≡ true → (xs : List G) → under cmp (Some g) xs + count cmp g xs ≤ under cmp limit xs
  under_all limit g b [] = omega arith
  under_all limit g b (x ∷ xs) = omega (arith, under_here limit g b x, under_all limit g b xs)

  -- the walk down ends
  pub under_falls : {limit : Option G} {xs ys : List G} {g : G} {m n : ℕ} → PeakIs cmp limit xs ys g m n → m ≡ n → under cmp (Some g) xs < under cmp limit xs
  under_falls {limit} {xs} {ys} {g} p e = omega (arith, p.some, p.left_is, under_all limit g p.under xs)

  -- tests that agree on the members of a load count its different grades alike
  distinct_like : (p q : G → Bool) (xs : List G) → ((x : G) → 0 < count cmp x xs → p x ≡ q x) → distinct cmp p xs ≡ distinct cmp q xs
  distinct_like p q [] same = refl
  distinct_like p q (x ∷ xs) same =
      let here : p x ≡ q x = same x (omega (arith, one_here cmp o x)) in
      let rest : distinct cmp p xs ≡ distinct cmp q xs = distinct_like p q xs (λ y some. same y (omega (arith, some))) in
      rw (here, rest)

  first_or_more : (n : ℕ) → cond (eqb n 0) 1 0 + cond (eqb n 0) 0 1 ≡ 1
  first_or_more n = by_test (eqb n 0) (λ b. rw b refl) (λ b. rw b refl)

  -- a test that lets one grade more pass counts one more, if the load holds it
  module _ (p q : G → Bool) (g : G) (no : p g ≡ false) (yes : q g ≡ true) where
    step : (x : G) (xs : List G) → ((x ≡ g → ⊥) → p x ≡ q x) → distinct cmp q xs ≡ distinct cmp p xs + cond (eqb (count cmp g xs) 0) 0 1
        → distinct cmp q (x ∷ xs) ≡ distinct cmp p (x ∷ xs) + cond (eqb (count cmp g (x ∷ xs)) 0) 0 1
    step x xs like rest = by_ordering (cmp g x) (λ l. other (apart l (λ e. true≢false (ap is_lt e)))) (λ s. here (o.equal g x s)) (λ u. other (apart u (λ e. false≢true (sym (ap is_gt e)))))
      where
        apart : {s : Ordering} → cmp g x ≡ s → (s ≡ Same → ⊥) → x ≡ g → ⊥
        apart e differs same = differs (sym e ∙ ap (cmp g) same ∙ o.same g)

        other : (x ≡ g → ⊥) → distinct cmp q (x ∷ xs) ≡ distinct cmp p (x ∷ xs) + cond (eqb (count cmp g (x ∷ xs)) 0) 0 1
        other ne =
            let same : q x ≡ p x = sym (like ne) in
            let count_is : count cmp g (x ∷ xs) ≡ count cmp g xs = omega (arith, one_apart cmp o g x (λ e. ne (sym e))) in
            rw (same, count_is) (omega (arith, rest))

        here : g ≡ x → distinct cmp q (x ∷ xs) ≡ distinct cmp p (x ∷ xs) + cond (eqb (count cmp g (x ∷ xs)) 0) 0 1
        here e =
            let qx : q x ≡ true = ap q (sym e) ∙ yes in
            let px : p x ≡ false = ap p (sym e) ∙ no in
            let alike : count cmp x xs ≡ count cmp g xs = ap (λ (y : G). count cmp y xs) (sym e) in
            let some : eqb (count cmp g (x ∷ xs)) 0 ≡ false = ne_eqb (count cmp g (x ∷ xs)) 0 (λ z. omega (arith, z, ap (λ (y : G). one (cmp g y)) e, one_here cmp o g)) in
            rw (qx, px, alike, some) (omega (arith, rest, first_or_more (count cmp g xs)))

    distinct_more : (xs : List G) → ((x : G) → 0 < count cmp x xs → (x ≡ g → ⊥) → p x ≡ q x) → distinct cmp q xs ≡ distinct cmp p xs + cond (eqb (count cmp g xs) 0) 0 1
    distinct_more [] same = omega arith
    distinct_more (x ∷ xs) same =
        step x xs (same x (omega (arith, one_here cmp o x))) (distinct_more xs (λ y some. same y (omega (arith, some))))

  -- without a limit no grade is passed
  passed_none : (xs : List G) → distinct cmp (passed cmp None) xs ≡ 0
  passed_none [] = refl
  passed_none (x ∷ xs) = omega (arith, passed_none xs)

  grades_passed_lem : (limit : Option G) (xs : List G) → grades_passed cmp limit xs ≡ distinct cmp (passed cmp limit) xs
  grades_passed_lem None xs = sym (passed_none xs)
  grades_passed_lem (Some g) xs = refl

  distinct_le : (p : G → Bool) (xs : List G) → distinct cmp p xs ≤ length xs
  distinct_le p [] = omega arith
  distinct_le p (x ∷ xs) = omega (arith, at_most_one (p x) (eqb (count cmp x xs) 0), distinct_le p xs)
    where
      at_most_one : (a b : Bool) → cond a (cond b 1 0) 0 ≤ 1
      at_most_one true true = omega arith
      at_most_one true false = omega arith
      at_most_one false b = omega arith

  -- one grade further down, one more grade is passed
  pub passed_more : {limit : Option G} {xs ys : List G} {g : G} {m n : ℕ} → PeakIs cmp limit xs ys g m n → m ≡ n → (grades_passed cmp (Some g) xs ≡ grades_passed cmp limit xs + 1) × (grades_passed cmp limit xs < length xs)
  passed_more {limit} {xs} {ys} {g} p e = (omega (arith, grows, grades_passed_lem limit xs), omega (arith, grows, grades_passed_lem limit xs, distinct_le (passed cmp (Some g)) xs))
    where
      held : eqb (count cmp g xs) 0 ≡ false
      held = ne_eqb (count cmp g xs) 0 (λ z. omega (arith, z, p.some, p.left_is, e))

      no_lower : is_lt (cmp g g) ≡ false
      no_lower = ap is_lt (o.same g)

      same : (x : G) → 0 < count cmp x xs → (x ≡ g → ⊥) → passed cmp limit x ≡ passed cmp (Some g) x
      same x some ne =
          by_ordering (cmp g x)
          (λ l. ap not (by_test (below cmp limit x) (λ b. absurd (omega (arith, some, p.none_left x l b))) (λ b. b ∙ sym (ap is_lt (above_lower cmp o g x l)))))
          (λ s. absurd (ne (sym (o.equal g x s))))
          (λ u. let l : cmp x g ≡ Less = below_higher cmp o g x u in ap not (below_falls limit g x p.under l ∙ sym (ap is_lt l)))

      grows : distinct cmp (passed cmp (Some g)) xs ≡ distinct cmp (passed cmp limit) xs + 1
      grows = rw held at (distinct_more (passed cmp limit) (passed cmp (Some g)) g (ap not p.under) (ap not no_lower) xs same)

  -- the grades passed are those above the deciding one
  pub passed_all : (limit : Option G) (xs : List G) → NoTop cmp limit xs → grades_passed cmp limit xs ≡ distinct cmp (λ _. true) xs
  passed_all limit xs none =
      grades_passed_lem limit xs ∙ distinct_like (passed cmp limit) (λ _. true) xs (λ x some. ap not (by_test (below cmp limit x) (λ b. absurd (omega (arith, some, none x b))) (λ b. b)))

  pub passed_above : {limit : Option G} {xs ys : List G} {g : G} {m n : ℕ} → PeakIs cmp limit xs ys g m n → grades_passed cmp limit xs ≡ distinct cmp (λ x. is_lt (cmp g x)) xs
  passed_above {limit} {xs} {ys} {g} p = grades_passed_lem limit xs ∙ distinct_like (passed cmp limit) (λ x. is_lt (cmp g x)) xs same
    where
      same : (x : G) → 0 < count cmp x xs → passed cmp limit x ≡ is_lt (cmp g x)
      same x some =
          by_ordering (cmp g x)
          (λ l. by_test (below cmp limit x) (λ b. absurd (omega (arith, some, p.none_left x l b))) (λ b. ap not b ∙ sym (ap is_lt l)))
          (λ s. ap not (ap (below cmp limit) (sym (o.equal g x s)) ∙ p.under) ∙ sym (ap is_lt s))
          (λ u. ap not (below_falls limit g x p.under (below_higher cmp o g x u)) ∙ sym (ap is_lt u))
