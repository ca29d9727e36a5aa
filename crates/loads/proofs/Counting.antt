-- Counts of a load, and what the laws of an order give of them.
use Rattle.std.proofs.Common.{◌≡◌, ℕ, ◌+◌, ◌≤◌, true, cond, List, [], ◌∷◌, ◌++◌, length, refl, ap, ◌∙◌, arith}
use Rattle.std.specs.declared.cmp.Ordering.{Ordering}
use Rattle.std.specs.declared.cmp.Ordering.TheVariants.{Less, Equal as Same, Greater}
use Rattle.std.proofs.lemmas.Bool.{false≢true}
use Rattle.std.specs.Cmp.{Equal-is}
use Rattle.std.specs.Ordering.{is_lt, is_eq, ordering_reverse}
use Rattle.loads.specs.Grades.{Order}
use Rattle.loads.specs.Loads.{count}

-- cases on a standing, with its equation
pub by_ordering : {R : Type 0} (s : Ordering) → (s ≡ Less → R) → (s ≡ Same → R) → (s ≡ Greater → R) → R
by_ordering Less l e h = l refl
by_ordering Same l e h = e refl
by_ordering Greater l e h = h refl

pub is_less : (s : Ordering) → is_lt s ≡ true → s ≡ Less
is_less Less e = refl
is_less Same e = absurd (false≢true e)
is_less Greater e = absurd (false≢true e)

pub is_equal : (s : Ordering) → is_eq s ≡ true → s ≡ Same
is_equal s e = (Equal-is s).0 e

-- what a member adds to the count of a grade
abbrev pub one : Ordering → ℕ
one s = cond (is_eq s) 1 0

pub one_le : (s : Ordering) → one s ≤ 1
one_le Less = omega arith
one_le Same = omega arith
one_le Greater = omega arith

pub count_append : {G : Type 0} (cmp : G → G → Ordering) (g : G) (xs ys : List G) → count cmp g (xs ++ ys) ≡ count cmp g xs + count cmp g ys
count_append cmp g [] ys = omega arith
count_append cmp g (x ∷ xs) ys = omega (arith, count_append cmp g xs ys)

pub count_push : {G : Type 0} (cmp : G → G → Ordering) (g : G) (xs : List G) (x : G) → count cmp g (xs ++ (x ∷ [])) ≡ count cmp g xs + one (cmp g x)
count_push cmp g xs x = omega (arith, count_append cmp g xs (x ∷ []))

pub count_le_length : {G : Type 0} (cmp : G → G → Ordering) (g : G) (xs : List G) → count cmp g xs ≤ length xs
count_le_length cmp g [] = omega arith
count_le_length cmp g (x ∷ xs) = omega (arith, one_le (cmp g x), count_le_length cmp g xs)

module _ {G : Type 0} (cmp : G → G → Ordering) (o : Order cmp) where
  pub above_lower : (x y : G) → cmp x y ≡ Less → cmp y x ≡ Greater
  above_lower x y e = o.exchange x y ∙ ap ordering_reverse e

  pub below_higher : (x y : G) → cmp x y ≡ Greater → cmp y x ≡ Less
  below_higher x y e = o.exchange x y ∙ ap ordering_reverse e

  pub one_here : (x : G) → one (cmp x x) ≡ 1
  one_here x = ap one (o.same x)

  -- a higher grade and a lower one are not the same
  pub one_higher : (x y : G) → cmp x y ≡ Less → one (cmp y x) ≡ 0
  one_higher x y e = ap one (above_lower x y e)

  -- a grade of which P holds is not the same as one of which it does not
  pub one_apart : (x y : G) → (x ≡ y → ⊥) → one (cmp x y) ≡ 0
  one_apart x y n = by_ordering (cmp x y) (λ e. ap one e) (λ e. absurd (n (o.equal x y e))) (λ e. ap one e)
