use Rattle.loads.proofs.Keeping.{replaced}
use Rattle.loads.proofs.weighing.weigh_replaced.Goals as goal

pub returns : goal.returns
returns g c = replaced g.met.G.Grade.order (rw c.compare.ensures at c.into.ensures)
