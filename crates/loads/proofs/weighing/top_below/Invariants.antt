use Rattle.std.proofs.Common.{take}
use Rattle.loads.specs.Weighing.{seen, Top}
use Rattle.loads.proofs.weighing.top_below.Given as goal

abbrev pub invariant-loop-x : goal.invariant-loop-x
invariant-loop-x g l = Top g.G.Grade.cmp (seen l.limit) (take l.x-index l.load) l.top
