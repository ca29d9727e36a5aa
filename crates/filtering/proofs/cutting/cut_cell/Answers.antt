use Rattle.filtering.proofs.Cuts.{cell_cut, fewer_left}
use Rattle.filtering.proofs.cutting.cut_cell.Goals as goal

pub overflow_sub-result : goal.overflow_sub-result
overflow_sub-result g c =
    fewer_left c.args.side c.args.bounds c.in_ok-part.part.mask c.in_ok-kept.kept.mask c.count.result c.count-2.result
    (rw c.in_ok-kept.ensures.ok_part at c.keep.ensures) c.count.ensures c.count-2.ensures

pub returns-clause-outcome : goal.returns-clause-outcome
returns-clause-outcome g c =
    let read = rw c.in_ok-part.ensures.ok_part at c.read.ensures in
    cell_cut c.args.side c.args.bounds (g.S.Store.cells c.args.store.now) (g.S.Store.cells c.write.new.self) c.args.cell c.in_ok-part.part.mask c.in_ok-kept.kept.mask c.count.result c.count-2.result
    read.1 (rw c.in_ok-kept.ensures.ok_part at c.keep.ensures) c.in_ok-write.ensures.outcome.1 c.count.ensures c.count-2.ensures
