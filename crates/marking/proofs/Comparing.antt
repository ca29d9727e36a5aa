-- How two counts of ranks compare, and what a change by one does to them: the words of the argument for the marks.
use Rattle.std.proofs.Common.{◌≡◌, ℕ, ◌+◌, ◌<◌, ◌≤◌, ◌⊎◌}
use Rattle.loads.specs.Kinds.{by_rank}
use Rattle.loads.specs.declared.weighing.Weight.{Weight}
use Rattle.loads.specs.declared.weighing.Weight.TheVariants.{Lighter as lighter, Equal as equal, Heavier as heavier}
use Rattle.loads.proofs.Counting as counting

-- f counts fewer at the highest rank where the two differ
abbrev pub Below : (ℕ → ℕ) → (ℕ → ℕ) → Type 0
Below f g = (p : ℕ) × (f p < g p) × ((h : ℕ) → p < h → f h ≡ g h)

abbrev pub Same : (ℕ → ℕ) → (ℕ → ℕ) → Type 0
Same f g = (h : ℕ) → f h ≡ g h

abbrev pub AtMost : (ℕ → ℕ) → (ℕ → ℕ) → Type 0
AtMost f g = Below f g ⊎ Same f g

-- what an answer says, of the three
abbrev pub Says : Weight → Type 0 → Type 0 → Type 0 → Type 0
Says lighter P Q R = P
Says equal P Q R = Q
Says heavier P Q R = R

-- one member, of rank r
unfoldable pub one : ℕ → ℕ → ℕ
one r h = counting.one (by_rank h r)

-- the counts g, f against oy, ox: one more in favour at t, one less at u
abbrev pub Shifted : (ℕ → ℕ) → (ℕ → ℕ) → (ℕ → ℕ) → (ℕ → ℕ) → ℕ → ℕ → Type 0
Shifted ox oy f g t u = (h : ℕ) → (f h + oy h) + one t h ≡ (g h + ox h) + one u h

-- f with one member of rank a moved to rank r
abbrev pub Moved : (ℕ → ℕ) → (ℕ → ℕ) → ℕ → ℕ → Type 0
Moved f g a r = (h : ℕ) → g h + one a h ≡ f h + one r h

-- α, where ox is not heavier: it has fewer there
abbrev pub Alpha : (ℕ → ℕ) → (ℕ → ℕ) → ℕ → Type 0
Alpha ox oy α = (ox α < oy α) × ((h : ℕ) → α < h → ox h ≡ oy h)

abbrev pub Beta : (ℕ → ℕ) → (ℕ → ℕ) → ℕ → ℕ → Type 0
Beta ox oy α β = (β < α) × (oy β < ox β) × ((h : ℕ) → β < h → h < α → ox h ≤ oy h)

abbrev pub NoBeta : (ℕ → ℕ) → (ℕ → ℕ) → ℕ → Type 0
NoBeta ox oy α = (h : ℕ) → h < α → ox h ≤ oy h

abbrev pub Gamma : (ℕ → ℕ) → (ℕ → ℕ) → ℕ → ℕ → Type 0
Gamma ox oy α β = (h : ℕ) → β < h → h < α → ox h ≡ oy h

abbrev pub Sigma : (ℕ → ℕ) → (ℕ → ℕ) → ℕ → Type 0
Sigma ox oy β = (s : ℕ) × (s < β) × (oy s < ox s) × ((h : ℕ) → s < h → h < β → ox h ≡ oy h)
