use Rattle.std.proofs.Common.{◌≤◌, length, take}
use Rattle.trials.specs.TrialStores.{IsSound}
use Rattle.trials.specs.Rehearsals.{Ran}
use Rattle.trials.proofs.rehearsal.carry_out_all.Given as goal

abbrev pub invariant-loop-call : goal.invariant-loop-call
invariant-loop-call g l =
    let m = g.S.Store in
    (l.call-index ≤ length l.calls) × Ran m (take l.call-index l.calls) l.initial.store l.store × (IsSound m l.initial.store → IsSound m l.store)
