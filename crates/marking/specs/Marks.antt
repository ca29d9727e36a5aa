-- The marks of two counts: ox says how often each rank occurs on the left, oy on the right.
use Rattle.std.specs.Prelude.{◌≡◌, ℕ, ◌<◌, ◌≤◌, List, Some, None, IsTrue, ◌↔◌, Option, ◌≢◌, slice_index}
use Rattle.marking.specs.declared.counts.Counts.{Counts}
use Rattle.marking.specs.declared.marks.Marks.{Marks}

-- how often a rank occurs, where xs counts the ranks from 0 up
abbrev pub occurs : List ℕ → ℕ → ℕ
occurs xs h = slice_index xs h

-- the same of the left and of the right of two counts
abbrev pub on_left : Counts → ℕ → ℕ
on_left counts = occurs counts.left.now

abbrev pub on_right : Counts → ℕ → ℕ
on_right counts = occurs counts.right.now

-- α is the highest rank whose counts differ, and is absent when there is none
abbrev pub AlphaIs : (ℕ → ℕ) → (ℕ → ℕ) → Option ℕ → Type 0
AlphaIs ox oy None = (h : ℕ) → ox h ≡ oy h
AlphaIs ox oy (Some α) = (ox α ≢ oy α) × ((h : ℕ) → α < h → ox h ≡ oy h)

-- β is the highest rank below α where ox exceeds oy, and is absent without one or α
abbrev pub BetaIs : (ℕ → ℕ) → (ℕ → ℕ) → Option ℕ → Option ℕ → Type 0
BetaIs ox oy None β = β ≡ None
BetaIs ox oy (Some α) None = (h : ℕ) → h < α → ox h ≤ oy h
BetaIs ox oy (Some α) (Some β) = (β < α) × (oy β < ox β) × ((h : ℕ) → β < h → h < α → ox h ≤ oy h)

-- the counts agree at every rank strictly between two
abbrev pub Between : (ℕ → ℕ) → (ℕ → ℕ) → ℕ → ℕ → Type 0
Between ox oy low high = (h : ℕ) → low < h → h < high → ox h ≡ oy h

-- what γ says: β is present, and the counts agree at every rank strictly between α and β
abbrev pub GammaSays : (ℕ → ℕ) → (ℕ → ℕ) → Option ℕ → Option ℕ → Type 0
GammaSays ox oy None β = ⊥
GammaSays ox oy (Some α) None = ⊥
GammaSays ox oy (Some α) (Some β) = Between ox oy β α

-- what σ says: β is present, some rank below β has differing counts, and ox is the greater at the highest of these
abbrev pub SigmaSays : (ℕ → ℕ) → (ℕ → ℕ) → Option ℕ → Type 0
SigmaSays ox oy None = ⊥
SigmaSays ox oy (Some β) = (s : ℕ) × (s < β) × (oy s < ox s) × Between ox oy s β

-- m has the marks of ox and oy
pub record Marked (ox oy : ℕ → ℕ) (m : Marks) : Type 0 where
  pub alpha_is : AlphaIs ox oy m.alpha
  pub beta_is : BetaIs ox oy m.alpha m.beta
  pub gamma_is : IsTrue m.gamma ↔ GammaSays ox oy m.alpha m.beta
  pub sigma_is : IsTrue m.sigma ↔ SigmaSays ox oy m.beta

-- and no other marks are theirs
pub record OnlyMarks (ox oy : ℕ → ℕ) (m : Marks) : Type 0 where
  pub marked : Marked ox oy m
  pub alone : (n : Marks) → Marked ox oy n → n ≡ m
