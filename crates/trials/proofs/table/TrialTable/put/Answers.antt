use Rattle.trials.proofs.Places.{put_numbered}
use Rattle.trials.proofs.table.TrialTable.put.Goals as goal

pub invariant_of-self-clause-numbered : goal.invariant_of-self-clause-numbered
invariant_of-self-clause-numbered c = put_numbered c.args.self.now c.args.saved c.requires.0 c.requires.1.1
