-- The number of each refusal of a call on trials, and of one of several calls.
use Rattle.std.specs.Prelude.{ℕ}
use Rattle.stores.specs.Faults.{write_number}
use Rattle.trials.specs.declared.faults.TrialFault.{TrialFault}
use Rattle.trials.specs.declared.faults.TrialFault.TheVariants.{TooManyOpen, AllGranted, NotOpen}
use Rattle.trials.specs.declared.faults.CallFault.{CallFault}
use Rattle.trials.specs.declared.faults.CallFault.TheVariants.{Write, Trial}

abbrev pub trial_number : TrialFault → ℕ
trial_number TooManyOpen = 10
trial_number AllGranted = 11
trial_number NotOpen = 12

abbrev pub call_number : CallFault → ℕ
call_number (Write f) = write_number f
call_number (Trial f) = trial_number f
