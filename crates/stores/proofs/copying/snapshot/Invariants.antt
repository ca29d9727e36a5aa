use Rattle.std.proofs.Common.{◌≡◌, ℕ, ◌<◌, get_or}
use Rattle.stores.proofs.copying.snapshot.Given as goal

abbrev pub invariant-loop-cell : goal.invariant-loop-cell
invariant-loop-cell g l = (k : ℕ) → k < l.cell → get_or l.mask-items k 0 ≡ get_or (g.S.Store.cells l.store) k 0
