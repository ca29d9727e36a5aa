use Rattle.std.proofs.Common.{◌∙◌, arith}
use Rattle.loads.proofs.Descent.{decided_at, all_agree, agreed_more, under_falls, passed_more, passed_all, passed_above}
use Rattle.loads.proofs.Keeping.{weighs, decided_weighs}
use Rattle.loads.proofs.weighing.compare_loads.Goals as goal

pub returns-then-tally : goal.returns-then-tally
returns-then-tally g c =
    let o = g.met.G.Grade.order in
    let peak = c.in-Some.ensures in
    let decided = decided_at o peak c.loop-tally.invariant.0 c.if-tally.true in
    record {
      weight = decided_weighs o decided c.weight.ensures;
      decided = decided;
      agreed = c.loop-tally.invariant.1 ∙ passed_above o peak;
    }

pub overflow_add-agreed : goal.overflow_add-agreed
overflow_add-agreed g c =
    omega (arith, c.loop-tally.invariant.1, (passed_more g.met.G.Grade.order c.in-Some.ensures c.if-tally.false).1)

pub loop-tally-smaller : goal.loop-tally-smaller
loop-tally-smaller g c = under_falls g.met.G.Grade.order c.in-Some.ensures c.if-tally.false

pub loop-tally-preserved : goal.loop-tally-preserved
loop-tally-preserved g c =
    let o = g.met.G.Grade.order in
    let peak = c.in-Some.ensures in (
      agreed_more o peak c.if-tally.false c.loop-tally.invariant.0,
      omega (arith, c.loop-tally.invariant.1, (passed_more o peak c.if-tally.false).0),
    )

pub returns : goal.returns
returns g c =
    let o = g.met.G.Grade.order in
    let none = c.in_default.ensures in
    let agree = all_agree o _ _ _ none.0 none.1 c.loop-tally.invariant.0 in
    record {
      weight = weighs o agree;
      decided = agree;
      agreed = c.loop-tally.invariant.1 ∙ passed_all o _ _ none.0;
    }
