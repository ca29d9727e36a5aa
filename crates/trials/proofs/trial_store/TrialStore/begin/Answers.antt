use Rattle.std.proofs.Common.{refl}
use Rattle.trials.proofs.Layers.{same_store, open_outcome, open_apart}
use Rattle.trials.proofs.Soundness.{open_sound}
use Rattle.trials.proofs.trial_store.TrialStore.begin.Goals as goal

pub returns : goal.returns
returns g c =
    let m = g.S.Store in
    let s = c.args.self.now in
    let u = c.open.new.self in
    record {
      outcome = open_outcome m s.below s.table u c.args.masks c.requires.0 _ (λ q. same_store _ s refl q) c.open.result c.open.ensures;
      sound = open_sound m s.below s.table u c.args.masks c.requires.1 c.open.result c.open.ensures;
      apart = open_apart m s.below s.table u c.args.masks c.requires.0 c.open.result c.open.ensures;
    }
