-- The open trials, the newest first, by what is saved for them.
use Rattle.std.specs.Prelude.{ℕ, ◌<◌, ◌≤◌, List, [], ◌∷◌, map, reverse, slice_index_or}
use Rattle.std.specs.List.{AllByRecursion, AllByRecursion-prop}
use Rattle.std.specs.Coded.{Unit-prop, le_prop}
use Rattle.std.proofs.Props.{props}
use Rattle.trials.specs.declared.saved.Saved.{Saved}

-- an open trial: its number, what its owner noted, and the mask of each cell when it was opened
pub record Trial : Type 0 where
  pub number : ℕ
  pub note : ℕ
  pub masks : List ℕ

abbrev pub trial : Saved → Trial
trial s = record { number = s.number; note = s.note; masks = s.masks }

-- the trials of what is saved, where the oldest stands first
abbrev pub trials_from : List Saved → List Trial
trials_from saved = map trial (reverse saved)

-- what is saved at a place
abbrev pub at : List Saved → ℕ → Saved
at saved k = slice_index_or saved k (record { number = 0; note = 0; masks = [] })

-- the numbers are among those granted, and fall from the newest on: no two trials share one
abbrev pub Numbered : ℕ → List Trial → Type 0
Numbered granted [] = Unit {0}
Numbered granted (x ∷ older) = (1 ≤ x.number) × (x.number ≤ granted) × AllByRecursion (λ y. y.number < x.number) older × Numbered granted older

pub Numbered-prop : (granted : ℕ) (trials : List Trial) → IsProp (Numbered granted trials)
Numbered-prop granted [] = Unit-prop
Numbered-prop granted (x ∷ older) = hlevel (props, AllByRecursion-prop (λ y. y.number < x.number) (λ y. le_prop) older, Numbered-prop granted older)
