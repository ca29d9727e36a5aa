use Rattle.std.proofs.Common.{refl}
use Rattle.trials.proofs.Layers.{same_store, write_count, write_outcome}
use Rattle.trials.proofs.Soundness.{write_rests}
use Rattle.trials.proofs.trial_store.TrialStore.pass_on.Goals as goal

pub returns : goal.returns
returns g c =
    let m = g.S.Store in
    let s = c.args.self.now in
    let t = c.write.new.self in
    let w = c.write.ensures in
    record {
      outcome = write_outcome m s.below t c.args.cell c.args.part.mask c.write.result _ (λ q. same_store _ s q refl) w.outcome;
      width = w.width;
      rest = (w.rest, write_rests m s (record { below = t; table = s.table }) refl (write_count m s.below t c.args.cell c.args.part.mask c.write.result w.outcome) w.width);
    }
