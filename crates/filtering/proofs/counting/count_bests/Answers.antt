use Rattle.std.proofs.Common.{◌≡◌, ℕ, ◌+◌, List, length, get_or, take, sym, refl, ap, ◌∙◌, subst, length-set, arith}
use Rattle.loads.specs.Counts.{Counted}
use Rattle.marking.specs.Marks.{occurs}
use Rattle.std.proofs.lemmas.List.{take_all}
use Rattle.filtering.specs.Sides.{best, bests}
use Rattle.filtering.proofs.Tally.{counted_none, counted_more, counted_few}
use Rattle.filtering.proofs.counting.count_bests.Goals as goal
use Rattle.filtering.proofs.counting.count_bests.Goals.{in-Some, in_default}

pub loop-cell-init : goal.loop-cell-init
loop-cell-init g c = record { long = refl; counted = counted_none }

pub overflow_add-counts : goal.overflow_add-counts
overflow_add-counts g c = omega (arith, counted_few c.loop-cell.counts c.args.row.now _ c.loop-cell.cell-index c.best.result (omega arith) c.best.ensures.rank c.loop-cell.invariant.counted)

pub loop-cell-preserved : goal.loop-cell-preserved
loop-cell-preserved g c =
    let cs = g.S.Store.cells c.args.store.now in
    let f = λ (x : ℕ). best c.args.side (get_or cs x 0) in
    let row = c.args.row.now in
    let i = c.loop-cell.cell-index in
    elim c.match-read.branch [
      | in-Some w ↦
          let e : w.best.result ≡ f (get_or row i 0) = cc (w.best.ensures.value, w.in-Some.ensures.1, c.from.ensures) in
          record {
            long = ap length w.counts-is ∙ length-set c.loop-cell.counts w.best.result _ ∙ c.loop-cell.invariant.long;
            counted = subst (λ (xs : List ℕ). Counted (occurs xs) 48 (bests c.args.side cs (take (i + 1) row))) (sym w.counts-is)
                (counted_more c.loop-cell.counts row f i w.best.result c.loop-cell.invariant.long c.loop-cell-test.true w.best.ensures.rank e c.loop-cell.invariant.counted);
          }
      | in_default w ↦ absurd (omega (arith, w.in_default.ensures, c.from.ensures, c.requires.below i c.loop-cell-test.true))
    ]

pub returns : goal.returns
returns g c =
    let cs = g.S.Store.cells c.args.store.now in
    let row = c.args.row.now in
    record {
      long = c.loop-cell.invariant.long;
      counted = subst (λ (xs : List ℕ). Counted (occurs c.loop-cell.counts) 48 (bests c.args.side cs xs)) (take_all c.loop-cell.cell-index row (omega arith)) c.loop-cell.invariant.counted;
    }
