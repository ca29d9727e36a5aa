-- Loads: lists of grades, compared by how often each grade occurs in them.
use Rattle.std.specs.Prelude.{◌≡◌, ℕ, ◌+◌, ◌<◌, cond, ◌⊎◌, List, [], ◌∷◌}
use Rattle.std.specs.declared.cmp.Ordering.{Ordering}
use Rattle.std.specs.declared.cmp.Ordering.TheVariants.{Less}
use Rattle.std.specs.Ordering.{is_eq}
use Rattle.loads.specs.declared.weighing.Weight.{Weight}
use Rattle.loads.specs.declared.weighing.Weight.TheVariants.{Lighter as lighter, Equal as equal, Heavier as heavier}

-- how often the grade g occurs in a load
abbrev pub count : {G : Type 0} → (G → G → Ordering) → G → List G → ℕ
count cmp g [] = 0
count cmp g (x ∷ xs) = cond (is_eq (cmp g x)) 1 0 + count cmp g xs

-- xs holds fewer of some grade g, and as many of each higher one
abbrev pub Lighter : {G : Type 0} → (G → G → Ordering) → List G → List G → Type 0
Lighter {G} cmp xs ys = (g : G) × (count cmp g xs < count cmp g ys) × ((h : G) → cmp g h ≡ Less → count cmp h xs ≡ count cmp h ys)

-- as many of every grade
abbrev pub Equal : {G : Type 0} → (G → G → Ordering) → List G → List G → Type 0
Equal {G} cmp xs ys = (g : G) → count cmp g xs ≡ count cmp g ys

abbrev pub NotHeavier : {G : Type 0} → (G → G → Ordering) → List G → List G → Type 0
NotHeavier cmp xs ys = Lighter cmp xs ys ⊎ Equal cmp xs ys

-- what each answer says of the left load xs against the right load ys
abbrev pub Weighed : {G : Type 0} → (G → G → Ordering) → Weight → List G → List G → Type 0
Weighed cmp lighter xs ys = Lighter cmp xs ys
Weighed cmp equal xs ys = Equal cmp xs ys
Weighed cmp heavier xs ys = Lighter cmp ys xs
