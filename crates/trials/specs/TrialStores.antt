-- A store with trials: the open trials, the newest first, each with the cells as they were when it was opened.
use Rattle.std.specs.Prelude.{◌≡◌, ℕ, ◌≤◌, List, length, Result, MatchResult}
use Rattle.stores.specs.declared.store.Store.{Ghosts}
use Rattle.stores.specs.Stores.{Savable}
use Rattle.trials.specs.Saved.{Trial, trial}
use Rattle.trials.specs.Trials.{Opens, CannotOpen, Ends, CannotEnd}
use Rattle.trials.specs.Saving.{of_cells, trials_over, opened, Sound}
use Rattle.trials.specs.declared.saved.Saved.{Saved}
use Rattle.trials.specs.declared.faults.TrialFault.{TrialFault}
use Rattle.trials.specs.declared.trial_store.TrialStore.{TrialStore}

-- Trials change to others as trials do: of those granted before, each that is open is one that was open, with the same
-- number, the same saved cells and the same older trials. So what is saved for one is never changed for another.
pub record Apart (granted : ℕ) (before : List Trial) (granted' : ℕ) (after : List Trial) : Type 0 where
  pub spent : granted ≤ granted'
  pub same : (t : ℕ) → t ≤ granted → (that : Trial) (older : List Trial) → Ends t after that older → Ends t before that older

-- S is the kind of the store below, and m says what it means
module _ {S : Type 0} (m : Ghosts S) where
  abbrev pub open_trials : TrialStore S → List Trial
  open_trials s = trials_over (length (m.cells s.below)) s.table

  -- what is saved for each open trial can be written back
  abbrev pub IsSound : TrialStore S → Type 0
  IsSound s = Sound m s.below s.table

  -- the trials of s and t and the numbers granted, as in `Apart`
  abbrev pub TrialsApart : TrialStore S → TrialStore S → Type 0
  TrialsApart s t = Apart s.table.granted (open_trials s) t.table.granted (open_trials t)

  -- the trial with the next number and the present cells is opened, or none is
  abbrev pub OpenAnswers : TrialStore S → TrialStore S → Result ℕ TrialFault → Type 0
  OpenAnswers s t r =
      MatchResult r (λ number. Opens (open_trials s) s.table.granted (opened number (m.cells s.below)) (open_trials t) t.table.granted × (t.below ≡ s.below))
      (λ fault. CannotOpen (open_trials s) s.table.granted fault × (t ≡ s))

  -- the trial with a number is kept: it ends, and the store below is as it was
  pub record Kept (number : ℕ) (s t : TrialStore S) : Type 0 where
    pub that : Trial
    pub ends : Ends number (open_trials s) that (open_trials t)
    pub below : t.below ≡ s.below
    pub granted : t.table.granted ≡ s.table.granted

  -- the trial with a number ends, for which x is saved; where s is sound, x can be written back
  pub record Closed (number : ℕ) (x : Saved) (s t : TrialStore S) : Type 0 where
    pub kept : Kept number s t
    pub saved : kept.that ≡ of_cells (length (m.cells s.below)) (trial x)
    pub can : IsSound s → Savable m.holds (m.width t.below) (length (m.cells t.below)) x.masks

  abbrev pub KeepAnswers : ℕ → TrialStore S → TrialStore S → Result ℕ TrialFault → Type 0
  KeepAnswers number s t r = MatchResult r (λ left. Kept number s t × (left ≡ length (open_trials t))) (λ fault. CannotEnd number (open_trials s) fault × (t ≡ s))

  -- what a write leaves
  pub record Rests (s t : TrialStore S) : Type 0 where
    pub trials : open_trials t ≡ open_trials s
    pub granted : t.table.granted ≡ s.table.granted
    pub sound : IsSound s → IsSound t

  -- the trial with a number is undone: it ends, and each cell has the set that was saved for it
  pub record Undone (number : ℕ) (s t : TrialStore S) : Type 0 where
    pub that : Trial
    pub ends : Ends number (open_trials s) that (open_trials t)
    pub back : IsSound s → m.cells t.below ≡ that.masks
    pub count : length (m.cells t.below) ≡ length (m.cells s.below)
    pub scale : m.width t.below ≡ m.width s.below
    pub rest : m.stays s.below t.below
    pub granted : t.table.granted ≡ s.table.granted

  abbrev pub UndoAnswers : ℕ → TrialStore S → TrialStore S → Result ℕ TrialFault → Type 0
  UndoAnswers number s t r = MatchResult r (λ left. Undone number s t × (left ≡ length (open_trials t))) (λ fault. CannotEnd number (open_trials s) fault × (t ≡ s))
