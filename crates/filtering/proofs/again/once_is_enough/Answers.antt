use Rattle.filtering.proofs.Twice.{nothing_again}
use Rattle.filtering.proofs.again.once_is_enough.Goals as goal

pub returns-clause-once : goal.returns-clause-once
returns-clause-once c = nothing_again
