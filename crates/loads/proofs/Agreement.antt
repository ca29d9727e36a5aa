-- The recursion agrees with the counts.
use Rattle.std.proofs.Common.{◌≡◌, ℕ, zero, suc, ◌+◌, ◌<◌, ◌≤◌, Bool, cond, List, [], ◌∷◌, length, sym, refl, ap, ◌∙◌, subst, arith}
use Rattle.std.proofs.lemmas.Bool.{both_ways, cond_both}
use Rattle.std.specs.declared.cmp.Ordering.{Ordering}
use Rattle.std.specs.declared.cmp.Ordering.TheVariants.{Less}
use Rattle.std.specs.Ordering.{is_lt, is_eq}
use Rattle.loads.specs.declared.weighing.Weight.{Weight}
use Rattle.loads.specs.Grades.{Order}
use Rattle.loads.specs.Loads.{count, Lighter, Weighed}
use Rattle.loads.specs.Recursive.{maximum, without, by_maxima, weighed_in, weighed}
use Rattle.loads.proofs.Counting.{one, by_ordering, is_less, is_equal, below_higher, one_here, one_higher, one_apart}
use Rattle.loads.proofs.Descent.{by_test}
use Rattle.loads.proofs.Weights.{more_weighed, one_answer}

-- m is the grade of a member, and none is higher
abbrev Top : {G : Type 0} → (G → G → Ordering) → G → List G → Type 0
Top {G} cmp m xs = (0 < count cmp m xs) × ((h : G) → cmp m h ≡ Less → count cmp h xs ≡ 0)

module _ {G : Type 0} (cmp : G → G → Ordering) (o : Order cmp) where
  top_more : (x m : G) (ys : List G) → Top cmp m ys → Top cmp (cond (is_lt (cmp m x)) x m) (x ∷ ys)
  top_more x m ys t =
      cond_both (is_lt (cmp m x)) x m (λ k. Top cmp k (x ∷ ys))
      (λ b. let l : cmp m x ≡ Less = is_less (cmp m x) b in
      (omega (arith, one_here cmp o x), λ h u. omega (arith, one_higher cmp o x h u, t.1 h (o.lower m x h l u))))
      (λ b. (
        omega (arith, t.0),
        λ h u. omega (arith, t.1 h u, one_apart cmp o h x (λ e. both_ways (is_lt (cmp m x)) b (ap is_lt (subst (λ (y : G). cmp m y ≡ Less) e u)))),
      ))

  top : (x : G) (xs : List G) → Top cmp (maximum cmp x xs) (x ∷ xs)
  top x [] = (omega (arith, one_here cmp o x), λ h u. omega (arith, one_higher cmp o x h u))
  top x (y ∷ ys) = top_more x (maximum cmp y ys) (y ∷ ys) (top y ys)

  -- what a drop leaves
  dropped : (m : G) (xs : List G) → 0 < count cmp m xs → (h : G) → count cmp h xs ≡ count cmp h (without cmp m xs) + one (cmp h m)
  dropped m [] some h = absurd (omega arith)
  dropped m (x ∷ xs) some h =
      by_test (is_eq (cmp m x))
      (λ b. let same : m ≡ x = o.equal m x (is_equal (cmp m x) b) in
      rw b (omega (arith, ap (λ (y : G). one (cmp h y)) same)))
      (λ b. let left : 0 < count cmp m xs = omega (arith, ap {B = ℕ} (λ (t : Bool). cond t 1 0) b) in
      rw b (omega (arith, dropped m xs left h)))

  dropped_length : (m : G) (xs : List G) → 0 < count cmp m xs → length xs ≡ suc (length (without cmp m xs))
  dropped_length m [] some = absurd (omega arith)
  dropped_length m (x ∷ xs) some =
      by_test (is_eq (cmp m x))
      (λ b. rw b refl)
      (λ b. let left : 0 < count cmp m xs = omega (arith, ap {B = ℕ} (λ (t : Bool). cond t 1 0) b) in
      rw b (ap suc (dropped_length m xs left)))

  -- a lower maximum is lighter
  lower_top : (m k : G) (xs ys : List G) → Top cmp m xs → Top cmp k ys → cmp m k ≡ Less → Lighter cmp xs ys
  lower_top m k xs ys s t l =
      (k, omega (arith, s.1 k l, t.0), λ h u. omega (arith, s.1 h (o.lower m k h l u), t.1 h u))

  settles : (m k : G) (xs ys : List G) (w : Weight) → Top cmp m xs → Top cmp k ys → Weighed cmp w (without cmp m xs) (without cmp k ys) → Weighed cmp (by_maxima (cmp m k) w) xs ys
  settles m k xs ys w s t rest =
      by_ordering (cmp m k)
      (λ l. rw l (lower_top m k xs ys s t l))
      (λ e. let same : k ≡ m = sym (o.equal m k e) in
      rw e (more_weighed cmp (λ h. one (cmp h m)) (without cmp m xs) (without cmp k ys) xs ys (dropped m xs s.0)
      (λ h. dropped k ys t.0 h ∙ ap (λ (g : G). count cmp h (without cmp k ys) + one (cmp h g)) same) w rest))
      (λ u. rw u (lower_top k m ys xs t s (below_higher cmp o m k u)))

  answers : (n : ℕ) (xs ys : List G) → length xs ≤ n → Weighed cmp (weighed_in cmp n xs ys) xs ys
  answers n [] [] le = λ h. refl
  answers n [] (y ∷ ys) le = (maximum cmp y ys, (top y ys).0, λ h u. sym ((top y ys).1 h u))
  answers n (x ∷ xs) [] le = (maximum cmp x xs, (top x xs).0, λ h u. sym ((top x xs).1 h u))
  answers zero (x ∷ xs) (y ∷ ys) le = absurd (omega arith)
  answers (suc n) (x ∷ xs) (y ∷ ys) le =
      settles (maximum cmp x xs) (maximum cmp y ys) (x ∷ xs) (y ∷ ys) (weighed_in cmp n (without cmp (maximum cmp x xs) (x ∷ xs)) (without cmp (maximum cmp y ys) (y ∷ ys)))
      (top x xs) (top y ys)
      (answers n (without cmp (maximum cmp x xs) (x ∷ xs)) (without cmp (maximum cmp y ys) (y ∷ ys)) (omega (arith, dropped_length (maximum cmp x xs) (x ∷ xs) (top x xs).0)))

  -- the recursion gives an answer that holds, so there is one for any two loads; and no other holds
  pub weighed_holds : (xs ys : List G) → Weighed cmp (weighed cmp xs ys) xs ys
  weighed_holds xs ys = answers (length xs) xs ys (omega arith)

  pub weighed_only : (xs ys : List G) (w : Weight) → Weighed cmp w xs ys → w ≡ weighed cmp xs ys
  weighed_only xs ys w p = one_answer cmp o xs ys w (weighed cmp xs ys) p (weighed_holds xs ys)
