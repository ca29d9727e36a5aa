use Rattle.loads.proofs.Descent.{peak_alone, peak_turned, peak_both}
use Rattle.loads.proofs.weighing.peak_below.Goals as goal

pub returns-in-Some-Some : goal.returns-in-Some-Some
returns-in-Some-Some g c =
    peak_both g.met.G.Grade.order c.in-Some-Some.l c.in-Some-Some.r c.higher_of.result
    c.in-Some-Some.ensures c.in-Some-Some.ensures' c.higher_of.ensures

pub returns-in-Some-None : goal.returns-in-Some-None
returns-in-Some-None g c =
    rw (c.on_left.ensures.grade, c.on_left.ensures.left, c.on_left.ensures.right)
    (peak_alone g.met.G.Grade.order c.in-Some-None.ensures c.in-Some-None.ensures')

pub returns-in-None-Some : goal.returns-in-None-Some
returns-in-None-Some g c =
    rw (c.on_right.ensures.grade, c.on_right.ensures.left, c.on_right.ensures.right)
    (peak_turned g.met.G.Grade.order (peak_alone g.met.G.Grade.order c.in-None-Some.ensures' c.in-None-Some.ensures))
