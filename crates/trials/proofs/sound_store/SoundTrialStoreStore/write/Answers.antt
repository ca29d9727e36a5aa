use Rattle.trials.proofs.SoundStores.{whole}
use Rattle.trials.proofs.sound_store.SoundTrialStoreStore.write.Goals as goal

pub returns-clause-outcome : goal.returns-clause-outcome
returns-clause-outcome g c = whole g.S.Store c.args.self.now c.write.new.self _ _ _ c.write.result c.write.ensures.outcome
