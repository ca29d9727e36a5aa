-- A list of calls on a store with trials, and what they do, one after another.
use Rattle.std.specs.Prelude.{◌≡◌, ℕ, ◌+◌, List, [], ◌∷◌, length, Ok, Err, Result, MatchResult, slice_set}
use Rattle.stores.specs.Stores.{Accepted, Refused}
use Rattle.stores.specs.declared.faults.WriteFault.{WriteFault}
use Rattle.stores.specs.declared.store.Store.{Ghosts}
use Rattle.trials.specs.Trials.{NotAmong, CannotOpen}
use Rattle.trials.specs.TrialStores.{open_trials, IsSound, OpenAnswers, KeepAnswers, Rests, Undone, UndoAnswers}
use Rattle.trials.specs.declared.trial_store.TrialStore.{TrialStore}
use Rattle.trials.specs.declared.faults.TrialFault.{TrialFault}
use Rattle.trials.specs.declared.faults.TrialFault.TheVariants.{TooManyOpen, AllGranted, NotOpen}
use Rattle.trials.specs.declared.faults.CallFault.{CallFault}
use Rattle.trials.specs.declared.faults.CallFault.TheVariants.{Write as by_store, Trial as by_trials}
use Rattle.trials.specs.declared.rehearsal.CallAnswer.{CallAnswer}
use Rattle.trials.specs.declared.rehearsal.CallAnswer.TheVariants.{Written, Opened, Ended as ended}
use Rattle.trials.specs.declared.rehearsal.TrialCall.{TrialCall}
use Rattle.trials.specs.declared.rehearsal.TrialCall.TheVariants.{Write, Open, Undo, Keep}

-- an answer or a refusal of one call, as that of one of several
abbrev pub told : {A F : Type 0} → (A → CallAnswer) → (F → CallFault) → Result A F → Result CallAnswer CallFault
told answer fault (Ok a) = Ok (answer a)
told answer fault (Err f) = Err (fault f)

module _ {S : Type 0} (m : Ghosts S) where
  -- a write of a set to a cell, as on any store; the trials stay
  pub record Writes (cell mask : ℕ) (s t : TrialStore S) (r : Result Unit WriteFault) : Type 0 where
    pub outcome : MatchResult r (λ _. Accepted m.holds (length (m.cells s.below)) (m.width s.below) cell mask × (m.cells t.below ≡ slice_set (m.cells s.below) cell mask))
        (λ fault. Refused m.holds (length (m.cells s.below)) (m.width s.below) cell mask fault × (t ≡ s))
    pub scale : m.width t.below ≡ m.width s.below
    pub rest : Rests m s t

  -- a call is answered r and takes s to t
  abbrev pub Answered : TrialCall → TrialStore S → TrialStore S → Result CallAnswer CallFault → Type 0
  Answered (Write cell part) s t r = (w : Result Unit WriteFault) × Writes cell part.mask s t w × (r ≡ told (λ _. Written) by_store w)
  Answered Open s t r = (w : Result ℕ TrialFault) × OpenAnswers m s t w × (r ≡ told Opened by_trials w)
  Answered (Undo number) s t r = (w : Result ℕ TrialFault) × UndoAnswers m number s t w × (r ≡ told ended by_trials w)
  Answered (Keep number) s t r = (w : Result ℕ TrialFault) × KeepAnswers m number s t w × (r ≡ told ended by_trials w)

  -- a call, with some answer, takes s to t
  abbrev pub Step : TrialCall → TrialStore S → TrialStore S → Type 0
  Step (Write cell part) s t = (r : Result Unit WriteFault) × Writes cell part.mask s t r
  Step Open s t = (r : Result ℕ TrialFault) × OpenAnswers m s t r
  Step (Undo number) s t = (r : Result ℕ TrialFault) × UndoAnswers m number s t r
  Step (Keep number) s t = (r : Result ℕ TrialFault) × KeepAnswers m number s t r

  -- the calls, one after another, take s to t
  abbrev pub Ran : List TrialCall → TrialStore S → TrialStore S → Type 0
  Ran [] s t = t ≡ s
  Ran (call ∷ calls) s t = (u : TrialStore S) × Step call s u × Ran calls u t

  -- the trial with the next number is opened, and then the calls are made
  pub record Tried (calls : List TrialCall) (number : ℕ) (s t : TrialStore S) : Type 0 where
    pub next : number ≡ s.table.granted + 1
    pub first : TrialStore S
    pub opens : OpenAnswers m s first (Ok number)
    pub ran : Ran calls first t

  -- and that trial is undone
  pub record Rehearsed (calls : List TrialCall) (s t : TrialStore S) : Type 0 where
    pub number : ℕ
    pub last : TrialStore S
    pub tried : Tried calls number s last
    pub undone : Undone m number last t

  -- or the calls have ended it
  pub record Ended (calls : List TrialCall) (s t : TrialStore S) : Type 0 where
    pub number : ℕ
    pub tried : Tried calls number s t
    pub none : NotAmong number (open_trials m t)

  -- why there is no rehearsal: no trial can be opened, or the calls ended it
  abbrev pub NotRehearsed : List TrialCall → TrialStore S → TrialStore S → TrialFault → Type 0
  NotRehearsed calls s t TooManyOpen = CannotOpen (open_trials m s) s.table.granted TooManyOpen × (t ≡ s)
  NotRehearsed calls s t AllGranted = CannotOpen (open_trials m s) s.table.granted AllGranted × (t ≡ s)
  NotRehearsed calls s t NotOpen = Ended calls s t

  -- the cells, the width and the open trials of t are those of s
  pub record Back (s t : TrialStore S) : Type 0 where
    pub same : IsSound m s → m.cells t.below ≡ m.cells s.below
    pub scale : m.width t.below ≡ m.width s.below
    pub trials : open_trials m t ≡ open_trials m s
