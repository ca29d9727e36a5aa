use Rattle.std.proofs.Common.{ap, ◌∙◌}
use Rattle.loads.specs.Laws.{as_weight}
use Rattle.loads.proofs.FromTop.{rank_decides, none_decides}
use Rattle.loads.proofs.rank_counts.weigh_below.Goals as goal

pub returns-in-Some : goal.returns-in-Some
returns-in-Some c = rank_decides _ _ _ c.in-Some.rank c.into.result c.in-Some.ensures (c.into.ensures ∙ ap as_weight cc)

pub returns-in-None : goal.returns-in-None
returns-in-None c = none_decides _ _ _ c.in-None.ensures
