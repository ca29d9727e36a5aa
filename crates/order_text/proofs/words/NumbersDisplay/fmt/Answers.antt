use Rattle.std.proofs.lemmas.Iterator.{YieldsList-from_slice}
use Rattle.std.proofs.lemmas.Iterator.Consumers.{YieldsList-from_copied, YieldsList-at}
use Rattle.order_text.proofs.Making.{all_listed}
use Rattle.order_text.proofs.words.NumbersDisplay.fmt.Goals as goal

pub returns-clause-writes : goal.returns-clause-writes
returns-clause-writes g c = all_listed c.write_list.result c.args.self.now.0.now c.write_list.ensures (YieldsList-from_copied (YieldsList-at c.copied.ensures.source (YieldsList-from_slice c.args.self.now.0.now c.iter.ensures.rest)))
