use Rattle.trials.proofs.Layers.{end_outcome, ended_sound, end_apart}
use Rattle.trials.proofs.trial_store.TrialStore.end.Goals as goal

pub returns : goal.returns
returns g c =
    let m = g.S.Store in
    let s = c.args.self.now in
    let u = c.end.new.self in
    record {
      outcome = end_outcome m s u c.args.number c.end.result c.end.ensures;
      sound = ended_sound m s u c.args.number c.end.result c.end.ensures;
      apart = end_apart m s u c.args.number c.end.result c.end.ensures;
    }
