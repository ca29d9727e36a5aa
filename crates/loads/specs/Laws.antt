-- The laws of weighing.
use Rattle.std.specs.Prelude.{◌≡◌, ℕ, ◌<◌, ◌≤◌, Bool, true, false, List, [], ◌∷◌, ◌++◌, length, MatchBool, ◌≢◌, slice_index_or, slice_set}
use Rattle.std.specs.List.Sorted.{IsPermutation}
use Rattle.std.specs.declared.cmp.Ordering.{Ordering}
use Rattle.std.specs.declared.cmp.Ordering.TheVariants.{Less, Equal as Same, Greater}
use Rattle.loads.specs.declared.weighing.Weight.{Weight}
use Rattle.loads.specs.declared.weighing.Weight.TheVariants.{Lighter as lighter, Equal as equal, Heavier as heavier}
use Rattle.loads.specs.Loads.{Lighter, NotHeavier, Weighed}
use Rattle.loads.specs.Recursive.{weighed}

abbrev pub is_not_heavier : Weight → Bool
is_not_heavier lighter = true
is_not_heavier equal = true
is_not_heavier heavier = false

-- What the answer w says of the loads xs and ys, and the laws it keeps to.
pub record Weighs {G : Type 0} (cmp : G → G → Ordering) (xs ys : List G) (w : Weight) : Type 0 where
  -- the answer holds, and no other does: exactly one of lighter, equal and heavier holds
  pub holds : Weighed cmp w xs ys
  pub alone : (v : Weight) → Weighed cmp v xs ys → v ≡ w
  pub not_heavier : MatchBool (is_not_heavier w) (NotHeavier cmp xs ys) (NotHeavier cmp xs ys → ⊥)
  -- it is what the recursive definition gives
  pub recursion : w ≡ weighed cmp xs ys
  -- lighter than lighter is lighter
  pub through : (zs : List G) → Lighter cmp xs ys → Lighter cmp ys zs → Lighter cmp xs zs
  -- the order of the members does not matter
  pub rearranged : (us vs : List G) → IsPermutation xs us → IsPermutation ys vs → Weighed cmp w us vs
  -- the same member more in both loads, wherever it stands, changes nothing
  pub added : (x : G) (us vs ss ts : List G) → xs ≡ us ++ vs → ys ≡ ss ++ ts → Weighed cmp w (us ++ (x ∷ vs)) (ss ++ (x ∷ ts))

-- the weight that an ordering gives: how the numbers of the deciding grade stand, or a new member to the one it replaced
abbrev pub as_weight : Ordering → Weight
as_weight Less = lighter
as_weight Same = equal
as_weight Greater = heavier

-- One member old of a load, wherever it stands, is replaced by new: by a lower one the load gets lighter, by the same one
-- it stays equal, by a higher one it gets heavier.
pub record Replaced {G : Type 0} (cmp : G → G → Ordering) (new old : G) (w : Weight) : Type 0 where
  pub by_grades : w ≡ as_weight (cmp new old)
  pub load : (xs : List G) (i : ℕ) → i < length xs → old ≡ slice_index_or xs i old → Weighed cmp w (slice_set xs i new) xs

-- as many members, and none higher than its fellow at the same place
abbrev pub NoneHigher : {G : Type 0} → (G → G → Ordering) → List G → List G → Type 0
NoneHigher cmp [] [] = Unit {0}
NoneHigher cmp [] (y ∷ ys) = ⊥
NoneHigher cmp (x ∷ xs) [] = ⊥
NoneHigher cmp (x ∷ xs) (y ∷ ys) = (cmp x y ≢ Greater) × NoneHigher cmp xs ys

-- new stands in the load ys where old stood in xs, and ys weighs so against xs
pub record Exchange {G : Type 0} (cmp : G → G → Ordering) (xs : List G) (i : ℕ) (new : G) (ys : List G) (old : G) (w : Weight) : Type 0 where
  pub within : i < length xs
  pub old_is : old ≡ slice_index_or xs i old
  pub after : ys ≡ slice_set xs i new
  pub weight : w ≡ as_weight (cmp new old)
  pub weighs : Weighed cmp w ys xs

-- there is no member at i: new comes back, and the load is as it was
pub record NoMember {G : Type 0} (xs : List G) (i : ℕ) (new : G) (ys : List G) (back : G) : Type 0 where
  pub past : length xs ≤ i
  pub after : ys ≡ xs
  pub back_is : back ≡ new
