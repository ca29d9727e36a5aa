use Rattle.std.proofs.Common.{List, subst, arith, take_all}
use Rattle.trials.specs.Rehearsals.{Step, Ran}
use Rattle.trials.specs.declared.rehearsal.TrialCall.{TrialCall}
use Rattle.trials.proofs.Calls.{ran_next}
use Rattle.trials.proofs.rehearsal.carry_out_all.Goals as goal

pub loop-call-preserved : goal.loop-call-preserved
loop-call-preserved g c =
    let m = g.S.Store in
    let s = c.args.store.now in
    let t = c.loop-call.store in
    let u = c.carry_out.new.store in
    let call = c.call-item.result in (
      omega (arith, c.loop-call-test.true),
      ran_next m c.args.calls.now c.loop-call.call-index call s t u c.loop-call-test.true c.loop-call.invariant.1
          (subst (λ (x : TrialCall). Step m x t u) c.call-item.is c.carry_out.ensures.step),
      λ h. c.carry_out.ensures.sound (c.loop-call.invariant.2 h),
    )

pub returns : goal.returns
returns g c =
    record {
      ran = subst (λ (xs : List TrialCall). Ran g.S.Store xs c.args.store.now c.loop-call.store) (take_all c.loop-call.call-index c.args.calls.now c.loop-call-test.false) c.loop-call.invariant.1;
      sound = c.loop-call.invariant.2;
    }
