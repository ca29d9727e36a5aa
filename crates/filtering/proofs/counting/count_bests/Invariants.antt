use Rattle.std.proofs.Common.{◌≡◌, length, take}
use Rattle.loads.specs.Counts.{Counted}
use Rattle.marking.specs.Marks.{occurs}
use Rattle.filtering.specs.Sides.{bests}
use Rattle.filtering.proofs.counting.count_bests.Given as goal

abbrev pub invariant-loop-cell : goal.invariant-loop-cell
invariant-loop-cell g l = record {
  long : length l.counts ≡ 48;
  counted : Counted (occurs l.counts) 48 (bests l.side (g.S.Store.cells l.store) (take l.cell-index l.row));
}
