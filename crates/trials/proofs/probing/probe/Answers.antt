use Rattle.trials.specs.TrialStores.{open_trials}
use Rattle.trials.proofs.Ending.{apart_same}
use Rattle.trials.proofs.Calls.{goes_back}
use Rattle.trials.proofs.probing.probe.Goals as goal

pub returns-clause-back : goal.returns-clause-back
returns-clause-back g c =
    let m = g.S.Store in
    let first = c.open.new.self in
    let last = c.cap-some.new.store in
    let rests = c.cap-some.ensures.rest.1 in
    goes_back m c.args.store.now first last c.undo.new.self c.in_ok-number.number c.in_ok-number.ensures.outcome
    (apart_same first.table.granted (open_trials m first) last.table.granted (open_trials m last) rests.granted rests.trials)
    c.cap-some.ensures.width (λ h. rests.sound (c.in_ok-number.ensures.sound h)) c.in_ok-undo.ensures.outcome.0
