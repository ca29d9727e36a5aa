-- What the walk down the grades of two loads finds.
use Rattle.std.specs.Prelude.{◌≡◌, ℕ, ◌+◌, ◌<◌, Bool, true, cond, List, [], ◌∷◌, Some, None, Option, ◌==◌}
use Rattle.std.specs.Borrow.{Bor}
use Rattle.std.specs.declared.cmp.Ordering.{Ordering}
use Rattle.std.specs.declared.cmp.Ordering.TheVariants.{Less}
use Rattle.std.specs.Ordering.{is_lt, match_ordering}
use Rattle.loads.specs.declared.weighing.Held.{Held}
use Rattle.loads.specs.declared.weighing.Tally.{Tally}
use Rattle.loads.specs.Loads.{count, Equal}

-- what an optional reference points to
abbrev pub seen : {G : Type 0} → Option (Bor G) → Option G
seen None = None
seen (Some r) = Some r.now

-- h is below the limit; without a limit every grade is
abbrev pub below : {G : Type 0} → (G → G → Ordering) → Option G → G → Bool
below cmp None h = true
below cmp (Some limit) h = is_lt (cmp h limit)

-- no member of xs is below the limit and higher than g
abbrev pub NoneBetween : {G : Type 0} → (G → G → Ordering) → G → Option G → List G → Type 0
NoneBetween {G} cmp g limit xs = (h : G) → cmp g h ≡ Less → below cmp limit h ≡ true → count cmp h xs ≡ 0

-- g is the highest grade below the limit that a member of xs has, and n members have it
pub record TopIs {G : Type 0} (cmp : G → G → Ordering) (limit : Option G) (xs : List G) (g : G) (n : ℕ) : Type 0 where
  pub under : below cmp limit g ≡ true
  pub count_is : n ≡ count cmp g xs
  pub some : 0 < n
  pub none_between : NoneBetween cmp g limit xs

-- no member of xs is below the limit
abbrev pub NoTop : {G : Type 0} → (G → G → Ordering) → Option G → List G → Type 0
NoTop {G} cmp limit xs = (h : G) → below cmp limit h ≡ true → count cmp h xs ≡ 0

abbrev pub Top : {G : Type 0} → (G → G → Ordering) → Option G → List G → Option (Held G) → Type 0
Top cmp limit xs None = NoTop cmp limit xs
Top cmp limit xs (Some h) = TopIs cmp limit xs h.grade.now h.count

-- one more than how many members have the top grade
abbrev pub times : {G : Type 0} → Option (Held G) → ℕ
times None = 1
times (Some h) = h.count + 1

-- the top so far with one more member x: the grade g, which n members have
abbrev pub Raised : {G : Type 0} → (G → G → Ordering) → Option (Held G) → G → G → ℕ → Type 0
Raised cmp None x g n = (g ≡ x) × (n ≡ 1)
Raised cmp (Some t) x g n =
    (g ≡ match_ordering (cmp x t.grade.now) t.grade.now t.grade.now x)
    × (n ≡ match_ordering (cmp x t.grade.now) t.count (t.count + 1) 1)

-- the same of two loads: g is the highest grade below the limit that either holds, m times in xs and n times in ys
pub record PeakIs {G : Type 0} (cmp : G → G → Ordering) (limit : Option G) (xs ys : List G) (g : G) (m n : ℕ) : Type 0 where
  pub under : below cmp limit g ≡ true
  pub left_is : m ≡ count cmp g xs
  pub right_is : n ≡ count cmp g ys
  pub some : 0 < m + n
  pub none_left : NoneBetween cmp g limit xs
  pub none_right : NoneBetween cmp g limit ys

abbrev pub Peak : {G : Type 0} → (G → G → Ordering) → Option G → List G → List G → Option (Tally G) → Type 0
Peak cmp limit xs ys None = NoTop cmp limit xs × NoTop cmp limit ys
Peak cmp limit xs ys (Some t) = PeakIs cmp limit xs ys t.grade.now t.left t.right

-- the higher of two tops, with how many members of either load have it
abbrev pub HigherOf : {G : Type 0} → (G → G → Ordering) → Held G → Held G → Tally G → Type 0
HigherOf cmp l r t =
    (t.grade.now ≡ match_ordering (cmp l.grade.now r.grade.now) r.grade.now l.grade.now l.grade.now)
    × (t.left ≡ match_ordering (cmp l.grade.now r.grade.now) 0 l.count l.count)
    × (t.right ≡ match_ordering (cmp l.grade.now r.grade.now) r.count r.count 0)

-- The deciding grade: the two loads hold different numbers of g, m and n, and as many of each higher grade.
pub record DecidedAt {G : Type 0} (cmp : G → G → Ordering) (xs ys : List G) (g : G) (m n : ℕ) : Type 0 where
  pub left_is : m ≡ count cmp g xs
  pub right_is : n ≡ count cmp g ys
  pub differ : m ≡ n → ⊥
  pub agree : (h : G) → cmp g h ≡ Less → count cmp h xs ≡ count cmp h ys

-- there is a deciding grade, with its counts, or the loads are equal
abbrev pub Decided : {G : Type 0} → (G → G → Ordering) → List G → List G → Option (Tally G) → Type 0
Decided cmp xs ys None = Equal cmp xs ys
Decided cmp xs ys (Some t) = DecidedAt cmp xs ys t.grade.now t.left t.right

-- x is above the deciding grade; where none decides, every grade is
abbrev pub above : {G : Type 0} → (G → G → Ordering) → Option (Tally G) → G → Bool
above cmp None x = true
above cmp (Some t) x = is_lt (cmp t.grade.now x)

-- how many different grades among the members of xs pass a test
abbrev pub distinct : {G : Type 0} → (G → G → Ordering) → (G → Bool) → List G → ℕ
distinct cmp p [] = 0
distinct cmp p (x ∷ xs) = cond (p x) (cond (count cmp x xs == 0) 1 0) 0 + distinct cmp p xs
