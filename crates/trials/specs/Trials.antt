-- The open trials, the newest first, and what opening one and ending one do to them.
use Rattle.std.specs.Prelude.{◌≡◌, ℕ, ◌+◌, ◌<◌, List, ◌∷◌, ◌++◌, length, take, ◌≢◌}
use Rattle.std.specs.List.{AllByRecursion}
use Rattle.trials.specs.Saved.{Trial, trials_from}
use Rattle.trials.specs.declared.table.TrialTable.{TrialTable}
use Rattle.trials.specs.declared.faults.TrialFault.{TrialFault}
use Rattle.trials.specs.declared.faults.TrialFault.TheVariants.{TooManyOpen, AllGranted, NotOpen}

-- what is saved for them fills the first places
abbrev pub trials_of : TrialTable → List Trial
trials_of t = trials_from (take t.count t.saved)

-- no trial has the number t
abbrev pub NotAmong : ℕ → List Trial → Type 0
NotAmong t trials = AllByRecursion (λ x. x.number ≢ t) trials

-- the trial `that` is opened: it has the next number, and stands in front
pub record Opens (before : List Trial) (granted : ℕ) (that : Trial) (after : List Trial) (granted' : ℕ) : Type 0 where
  pub few : length before < 16
  pub left : granted < 1000000
  pub next : that.number ≡ granted + 1
  pub front : after ≡ that ∷ before
  pub spent : granted' ≡ granted + 1

-- why none is opened, the first that applies
abbrev pub CannotOpen : List Trial → ℕ → TrialFault → Type 0
CannotOpen before granted TooManyOpen = length before ≡ 16
CannotOpen before granted AllGranted = (length before < 16) × (granted ≡ 1000000)
CannotOpen before granted NotOpen = ⊥

-- the trial `that`, which has the number t, ends, and with it all newer ones
pub record Ends (t : ℕ) (before : List Trial) (that : Trial) (older : List Trial) : Type 0 where
  pub newer : List Trial
  pub split : before ≡ newer ++ (that ∷ older)
  pub named : that.number ≡ t

-- why none is ended
abbrev pub CannotEnd : ℕ → List Trial → TrialFault → Type 0
CannotEnd t before TooManyOpen = ⊥
CannotEnd t before AllGranted = ⊥
CannotEnd t before NotOpen = NotAmong t before
