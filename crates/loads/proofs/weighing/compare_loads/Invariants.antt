use Rattle.std.proofs.Common.{◌≡◌}
use Rattle.loads.specs.Weighing.{seen}
use Rattle.loads.proofs.Descent.{Agreed, under, grades_passed}
use Rattle.loads.proofs.weighing.compare_loads.Given as goal

abbrev pub invariant-loop-tally : goal.invariant-loop-tally
invariant-loop-tally g l =
    Agreed g.G.Grade.cmp (seen l.limit) l.left l.right
    × (l.agreed ≡ grades_passed g.G.Grade.cmp (seen l.limit) l.left)

abbrev pub decreases-loop-tally : goal.decreases-loop-tally
decreases-loop-tally g l = under g.G.Grade.cmp (seen l.limit) l.left
