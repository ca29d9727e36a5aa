-- Comparing loads by recursion, a second definition that stands by itself: an empty load is lighter than one that is not;
-- else the load with the lower maximum is lighter; else one maximum is dropped from each and the rest compared.
use Rattle.std.specs.Prelude.{ℕ, zero, suc, cond, List, [], ◌∷◌, length}
use Rattle.std.specs.declared.cmp.Ordering.{Ordering}
use Rattle.std.specs.declared.cmp.Ordering.TheVariants.{Less, Equal as Same, Greater}
use Rattle.std.specs.Ordering.{is_lt, is_eq}
use Rattle.loads.specs.declared.weighing.Weight.{Weight}
use Rattle.loads.specs.declared.weighing.Weight.TheVariants.{Lighter as lighter, Equal as equal, Heavier as heavier}

-- the highest of x and xs
abbrev pub maximum : {G : Type 0} → (G → G → Ordering) → G → List G → G
maximum cmp x [] = x
maximum cmp x (y ∷ ys) = cond (is_lt (cmp (maximum cmp y ys) x)) x (maximum cmp y ys)

-- xs without its first member of the grade g
abbrev pub without : {G : Type 0} → (G → G → Ordering) → G → List G → List G
without cmp g [] = []
without cmp g (x ∷ xs) = cond (is_eq (cmp g x)) xs (x ∷ without cmp g xs)

-- the answer that the standing of the two maxima gives, and where they are the same, that of the rest
abbrev pub by_maxima : Ordering → Weight → Weight
by_maxima Less rest = lighter
by_maxima Same rest = rest
by_maxima Greater rest = heavier

-- the answer after at most n drops; `weighed` gives as many as the left load has members, and each step drops one of them
abbrev pub weighed_in : {G : Type 0} → (G → G → Ordering) → ℕ → List G → List G → Weight
weighed_in cmp n [] [] = equal
weighed_in cmp n [] (y ∷ ys) = lighter
weighed_in cmp n (x ∷ xs) [] = heavier
weighed_in cmp zero (x ∷ xs) (y ∷ ys) = equal
weighed_in cmp (suc n) (x ∷ xs) (y ∷ ys) =
    by_maxima (cmp (maximum cmp x xs) (maximum cmp y ys)) (weighed_in cmp n (without cmp (maximum cmp x xs) (x ∷ xs)) (without cmp (maximum cmp y ys) (y ∷ ys)))

abbrev pub weighed : {G : Type 0} → (G → G → Ordering) → List G → List G → Weight
weighed cmp xs ys = weighed_in cmp (length xs) xs ys
