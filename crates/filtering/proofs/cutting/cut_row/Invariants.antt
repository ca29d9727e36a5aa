use Rattle.std.proofs.Common.{◌≡◌, take}
use Rattle.filtering.specs.Bounded.{kept}
use Rattle.filtering.specs.Cuts.{Cut}
use Rattle.filtering.proofs.cutting.cut_row.Given as goal

abbrev pub invariant-loop-cell : goal.invariant-loop-cell
invariant-loop-cell g l =
    let m = g.S.Store in
    record {
      cut : Cut (kept l.side l.bounds) (take l.cell-index l.row) (m.cells l.initial.store) (m.cells l.store) l.went;
      width : m.width l.store ≡ m.width l.initial.store;
      rest : m.stays l.initial.store l.store;
    }
