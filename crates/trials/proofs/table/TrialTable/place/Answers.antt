use Rattle.std.proofs.Common.{rules, tests, nat_eq, arith}
use Rattle.std.proofs.lemmas.Iterator.{YieldsList-from_slice}
use Rattle.std.proofs.lemmas.Iterator.Search.{position_from_yields_List}
use Rattle.trials.proofs.Places.{placed_in}
use Rattle.trials.proofs.table.TrialTable.place.Goals as goal

pub returns : goal.returns
returns c =
    let t = c.args.self.now in
    let n = c.args.number in
    placed_in t.saved t.count n c.position.result (omega (arith, t.few, t.long))
    (position_from_yields_List (λ s. nat_eq s.number n) _ _ c.position.result c.position.ensures.ran (YieldsList-from_slice _ cc) (λ x b q k. search (rules, tests)))
