use Rattle.trials.proofs.SoundStores.{whole}
use Rattle.trials.proofs.sound_store.SoundTrialStoreStore.lay_out.Goals as goal

pub returns-clause-outcome : goal.returns-clause-outcome
returns-clause-outcome g c = whole g.S.Store c.args.self.now c.lay_out.new.self _ _ _ c.lay_out.result c.lay_out.ensures.outcome
