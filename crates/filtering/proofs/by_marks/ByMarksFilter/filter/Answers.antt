use Rattle.std.proofs.Common.{ℕ, length, sym, subst}
use Rattle.rules.specs.Rows.{Below}
use Rattle.filtering.proofs.Cuts.{total_few, sum_fits}
use Rattle.filtering.proofs.Joined.{apart_left, apart_right}
use Rattle.filtering.proofs.Pass.{filtered}
use Rattle.filtering.proofs.Verdicts.{below_left, below_right}
use Rattle.filtering.proofs.by_marks.ByMarksFilter.filter.Goals as goal

pub cut_row-requires-clause-below : goal.cut_row-requires-clause-below
cut_row-requires-clause-below g c = below_left (length (g.S.Store.cells c.args.store.now)) c.args.left.now c.args.right.now c.in_ok-bounds.ensures.marks.fit.below

pub cut_row-requires-clause-apart : goal.cut_row-requires-clause-apart
cut_row-requires-clause-apart g c = apart_left c.args.left.now c.args.right.now c.in_ok-bounds.ensures.marks.fit.apart

pub cut_row-requires-2-clause-below : goal.cut_row-requires-2-clause-below
cut_row-requires-2-clause-below g c =
    subst (λ (n : ℕ). Below n c.args.right.now) (sym c.in_ok-lower.ensures.outcome.count)
    (below_right (length (g.S.Store.cells c.args.store.now)) c.args.left.now c.args.right.now c.in_ok-bounds.ensures.marks.fit.below)

pub cut_row-requires-2-clause-apart : goal.cut_row-requires-2-clause-apart
cut_row-requires-2-clause-apart g c = apart_right c.args.left.now c.args.right.now c.in_ok-bounds.ensures.marks.fit.apart

pub overflow_add-result : goal.overflow_add-result
overflow_add-result g c =
    sum_fits c.in_ok-lower.lower c.in_ok-upper.upper _ _ (filtered c.in_ok-bounds.ensures c.in_ok-lower.ensures.outcome c.in_ok-upper.ensures.outcome).fewer
    (total_few (g.S.Store.cells c.args.store.now) (g.met.S.Store.laws.formed c.args.store.now).few)

pub returns-clause-outcome : goal.returns-clause-outcome
returns-clause-outcome g c = filtered c.in_ok-bounds.ensures c.in_ok-lower.ensures.outcome c.in_ok-upper.ensures.outcome
