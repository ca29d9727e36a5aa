-- The number of each refusal of a store.
use Rattle.std.specs.Prelude.{ℕ}
use Rattle.stores.specs.declared.faults.LayOutFault.{LayOutFault}
use Rattle.stores.specs.declared.faults.LayOutFault.TheVariants.{OutOfBounds}
use Rattle.stores.specs.declared.faults.WriteFault.{WriteFault}
use Rattle.stores.specs.declared.faults.WriteFault.TheVariants.{NoCell, RankPastScale, NotHeld}

abbrev pub lay_out_number : LayOutFault → ℕ
lay_out_number OutOfBounds = 2

abbrev pub write_number : WriteFault → ℕ
write_number NoCell = 4
write_number RankPastScale = 6
write_number NotHeld = 8
