use Rattle.trials.specs.TrialStores.{IsSound}
use Rattle.trials.proofs.Calls.{calls_go_back}
use Rattle.trials.proofs.rehearsal.try_calls.Goals as goal

pub returns : goal.returns
returns g c =
    let m = g.S.Store in
    let s = c.args.store.now in
    let first = c.open.new.self in
    let o = c.in_ok-number.ensures.outcome in
    let last = c.carry_out_all.new.store in
    let ran = c.carry_out_all.ensures.ran in
    let sound : IsSound m s → IsSound m last = λ h. c.carry_out_all.ensures.sound (c.in_ok-number.ensures.sound h) in
    record {
      outcome = record { next = o.0.next; first = first; opens = o; ran = ran };
      back = calls_go_back m c.args.calls.now s first last c.in_ok-number.number o ran sound;
      sound = sound;
    }
