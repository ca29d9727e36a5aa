use Rattle.rules.proofs.Laws.{once_per_rule}
use Rattle.rules.proofs.support.support_stands.Goals as goal

pub returns-clause-once : goal.returns-clause-once
returns-clause-once c = once_per_rule
