-- What a call does to a store with trials that is sound: as on any, and an undo gives each cell the set that was saved for it.
use Rattle.std.specs.Prelude.{◌≡◌, ℕ, length, Result, MatchResult}
use Rattle.stores.specs.declared.store.Store.{Ghosts}
use Rattle.trials.specs.Trials.{CannotEnd}
use Rattle.stores.specs.Stores.{Savable}
use Rattle.trials.specs.TrialStores.{open_trials, Undone as undone_where_sound, Closed as closed_where_sound}
use Rattle.trials.specs.Rehearsals.{told, Answered as answered}
use Rattle.trials.specs.declared.saved.Saved.{Saved}
use Rattle.trials.specs.declared.trial_store.TrialStore.{TrialStore}
use Rattle.trials.specs.declared.faults.TrialFault.{TrialFault}
use Rattle.trials.specs.declared.faults.CallFault.{CallFault}
use Rattle.trials.specs.declared.faults.CallFault.TheVariants.{Trial as by_trials}
use Rattle.trials.specs.declared.rehearsal.CallAnswer.{CallAnswer}
use Rattle.trials.specs.declared.rehearsal.CallAnswer.TheVariants.{Ended as ended}
use Rattle.trials.specs.declared.rehearsal.TrialCall.{TrialCall}
use Rattle.trials.specs.declared.rehearsal.TrialCall.TheVariants.{Undo}

module _ {S : Type 0} (m : Ghosts S) where
  -- the trial with a number ends, for which x is saved, and x can be written back
  pub record Closed (number : ℕ) (x : Saved) (s t : TrialStore S) : Type 0 where
    pub closed : closed_where_sound m number x s t
    pub can : ∥ Savable m.holds (m.width t.below) (length (m.cells t.below)) x.masks ∥₁

  -- the trial with a number is undone: it ends, and each cell has the set that was saved for it, with no premise
  pub record Undone (number : ℕ) (s t : TrialStore S) : Type 0 where
    pub undone : undone_where_sound m number s t
    pub back : m.cells t.below ≡ undone.that.masks

  abbrev pub UndoAnswers : ℕ → TrialStore S → TrialStore S → Result ℕ TrialFault → Type 0
  UndoAnswers number s t r = MatchResult r (λ left. Undone number s t × (left ≡ length (open_trials m t))) (λ fault. CannotEnd number (open_trials m s) fault × (t ≡ s))

  -- a call is answered r and takes s to t
  abbrev pub Answered : TrialCall → TrialStore S → TrialStore S → Result CallAnswer CallFault → Type 0
  Answered (Undo number) s t r = (w : Result ℕ TrialFault) × UndoAnswers number s t w × (r ≡ told ended by_trials w)
  Answered call s t r = answered m call s t r
