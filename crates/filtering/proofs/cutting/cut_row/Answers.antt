use Rattle.std.proofs.Common.{ℕ, get_or, ◌∙◌, subst}
use Rattle.filtering.specs.Bounded.{kept}
use Rattle.filtering.specs.Cuts.{CellCut}
use Rattle.filtering.proofs.Cuts.{cut_more, more_fits}
use Rattle.filtering.proofs.cutting.cut_row.Goals as goal

pub overflow_add-went : goal.overflow_add-went
overflow_add-went g c = more_fits (g.met.S.Store.laws.formed c.args.store.now).few c.loop-cell.invariant.cut c.in_ok-went.ensures.outcome

pub loop-cell-preserved : goal.loop-cell-preserved
loop-cell-preserved g c =
    let m = g.S.Store in
    let i = c.loop-cell.cell-index in
    let row = c.args.row.now in
    let inv = c.loop-cell.invariant in
    let one : CellCut (kept c.args.side c.args.bounds) (m.cells c.loop-cell.store) (m.cells c.cut_cell.new.store) (get_or row i 0) c.in_ok-went.field-0 =
    subst (λ (x : ℕ). CellCut (kept c.args.side c.args.bounds) (m.cells c.loop-cell.store) (m.cells c.cut_cell.new.store) x c.in_ok-went.field-0) c.from.ensures c.in_ok-went.ensures.outcome in
    record {
      cut = cut_more row i c.loop-cell-test.true c.requires.apart (c.requires.below i c.loop-cell-test.true) inv.cut one;
      width = c.cut_cell.ensures.width ∙ inv.width;
      rest = g.met.S.Store.laws.then c.args.store.now c.loop-cell.store c.cut_cell.new.store inv.rest c.cut_cell.ensures.rest;
    }
