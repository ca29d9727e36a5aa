use Rattle.std.proofs.Common.{◌≡◌, ℕ, ◌<◌, length, get_or}
use Rattle.stores.specs.Stores.{Savable}
use Rattle.stores.proofs.copying.restore.Given as goal

abbrev pub invariant-loop-cell : goal.invariant-loop-cell
invariant-loop-cell g l =
    let m = g.S.Store in
    (m.width l.store ≡ m.width l.initial.store) × (length (m.cells l.store) ≡ length (m.cells l.initial.store))
    × (Savable m.holds (m.width l.initial.store) (length (m.cells l.initial.store)) l.saved → (k : ℕ) → k < l.cell → get_or (m.cells l.store) k 0 ≡ get_or l.saved k 0)
    × m.stays l.initial.store l.store
