use Rattle.std.proofs.Common.{◌/◌, ◌%◌, ◌^◌, refl, rules}
use borrow.Author.Tests.{tests}
use Rattle.std.specs.Bool.{◌==◌}
use Rattle.std.proofs.lemmas.Iterator.{YieldsList-from_range}
use Rattle.std.proofs.lemmas.Iterator.Consumers.{YieldsList-from_filter, YieldsList-at}
use Rattle.order_text.specs.Words.{ranks_of}
use Rattle.order_text.proofs.Making.{all_listed}
use Rattle.order_text.proofs.words.RanksDisplay.fmt.Goals as goal

pub returns-clause-writes : goal.returns-clause-writes
unfolding ranks_of
returns-clause-writes g c =
    all_listed c.write_list.result (ranks_of c.args.self.now.0) c.write_list.ensures
    (YieldsList-from_filter _ (λ r. (c.args.self.now.0 / 2 ^ r % 2) == 1) (YieldsList-at c.filter.ensures.source (YieldsList-from_range 0 48 48 refl refl)) c.filter.ensures.closure (λ x b q k. search (rules, tests)))
