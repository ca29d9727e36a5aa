use Rattle.std.proofs.Common.{length, MatchResult, Result, sym, subst}
use Rattle.marking.specs.declared.bounds.Bounds.{Bounds}
use Rattle.rules.specs.Filtered.{rule, Unfiltered}
use Rattle.rules.specs.declared.faults.FilterFault.{FilterFault}
use Rattle.filtering.specs.Bounded.{Bounded}
use Rattle.filtering.proofs.Verdicts.{decided, below_left, below_right}
use Rattle.filtering.proofs.bounding.rule_bounds.Goals as goal

pub count_bests-lows-requires-clause-below : goal.count_bests-lows-requires-clause-below
count_bests-lows-requires-clause-below g c =
    let fit = rw c.size.ensures.0 at c.in_ok-check_rows.ensures in
    below_left (length (g.S.Store.cells c.args.store.now)) c.args.left.now c.args.right.now fit.below

pub count_bests-highs-requires-clause-below : goal.count_bests-highs-requires-clause-below
count_bests-highs-requires-clause-below g c =
    let fit = rw c.size.ensures.0 at c.in_ok-check_rows.ensures in
    below_right (length (g.S.Store.cells c.args.store.now)) c.args.left.now c.args.right.now fit.below

pub returns : goal.returns
returns g c =
    let cs = g.S.Store.cells c.args.store.now in
    let q = rule c.args.left.now c.args.right.now in
    let lows = c.count_bests-lows in
    let highs = c.count_bests-highs in
    let fit = rw c.size.ensures.0 at c.in_ok-check_rows.ensures in
    subst (λ (x : Result Bounds FilterFault). MatchResult x (λ b. Bounded cs q b) (λ e. Unfiltered cs q e)) (sym c.ok_or.ensures.value)
    (decided (g.met.S.Store.laws.formed c.args.store.now) lows.result highs.result fit lows.ensures.long highs.ensures.long lows.ensures.counted highs.ensures.counted c.decide.result c.decide.ensures)
