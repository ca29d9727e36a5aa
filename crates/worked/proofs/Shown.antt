-- The rows of the table, shown: each by a test that computes.
use Rattle.std.proofs.Common.{◌≡◌, Bool, true, false, not, List, [], ◌∷◌, refl, ℕ}
use Rattle.std.specs.Prelude.{◌&&◌}
use Rattle.std.specs.List.{AllByRecursion}
use Rattle.std.proofs.lemmas.Bool.{false≢true, and_parts}
use lib.Count.{count_trailing_zeros, count_leading_zeros}
use Rattle.filtering.specs.Sides.{lowest, highest}
use Rattle.loads.specs.declared.weighing.Weight.{Weight}
use Rattle.loads.specs.declared.weighing.Weight.TheVariants.{Lighter as lighter, Equal as equal, Heavier as heavier}
use Rattle.loads.specs.Kinds.{by_rank}
use Rattle.loads.specs.Loads.{Weighed}
use Rattle.loads.specs.Recursive.{weighed}
use Rattle.loads.proofs.Agreement.{weighed_holds}
use Rattle.loads.proofs.FromTop.{rank_order}
use Rattle.worked.specs.Rows.{Row, weighing, marked, filtered, unmet, Holds}
use Rattle.worked.specs.Table.{table}
use Rattle.worked.proofs.Filters.{ready, meets, filters, unmet_only, filtered_only}
use Rattle.worked.proofs.Marks.{marks, marked_only}
use Rattle.worked.proofs.Tests.{every, some}

abbrev weighs : Weight → Weight → Bool
weighs lighter lighter = true
weighs equal equal = true
weighs heavier heavier = true
weighs v w = false

abbrev test : Row → Bool
test (weighing left right w) = weighs (weighed by_rank left right) w
test (marked cs left right m) = ready cs left right && marks cs left right m
test (filtered cs left right after went) = ready cs left right && filters cs after left right went
test (unmet cs left right) = ready cs left right && not (meets cs left right)

abbrev tests : List Row → Bool
tests [] = true
tests (x ∷ xs) = test x && tests xs

weighs_only : (v w : Weight) → weighs v w ≡ true → (left right : List ℕ) → Weighed by_rank v left right → Weighed by_rank w left right
weighs_only lighter lighter e left right h = h
weighs_only equal equal e left right h = h
weighs_only heavier heavier e left right h = h
weighs_only v w e left right h = absurd (false≢true e)

-- a row that passes holds
holds : (row : Row) → test row ≡ true → Holds row
holds (weighing left right w) e = weighs_only (weighed by_rank left right) w e left right (weighed_holds by_rank rank_order left right)
holds (marked cs left right m) e =
    let p = and_parts (ready cs left right) (marks cs left right m) e in
    marked_only cs left right p.0 m p.1
holds (filtered cs left right after went) e =
    let p = and_parts (ready cs left right) (filters cs after left right went) e in
    filtered_only cs left right p.0 after went p.1
holds (unmet cs left right) e =
    let p = and_parts (ready cs left right) (not (meets cs left right)) e in
    unmet_only cs left right p.0 p.1

all_hold : (rows : List Row) → tests rows ≡ true → AllByRecursion Holds rows
all_hold [] e = tt
all_hold (x ∷ xs) e = let p = and_parts (test x) (tests xs) e in (holds x p.0, all_hold xs p.1)

pub shown : AllByRecursion Holds table
unfolding every some lowest highest count_trailing_zeros count_leading_zeros
shown = all_hold table refl
