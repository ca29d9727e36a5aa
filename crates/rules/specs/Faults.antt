-- The number of each refusal of two rows, and of filtering.
use Rattle.std.specs.Prelude.{ℕ}
use Rattle.stores.specs.Faults.{write_number}
use Rattle.rules.specs.declared.faults.RowFault.{RowFault}
use Rattle.rules.specs.declared.faults.RowFault.TheVariants.{BadLength, NoCell, NamedTwice}
use Rattle.rules.specs.declared.faults.FilterFault.{FilterFault}
use Rattle.rules.specs.declared.faults.FilterFault.TheVariants.{Rows, NothingLeft, Store}

abbrev pub row_number : RowFault → ℕ
row_number BadLength = 3
row_number NoCell = 4
row_number NamedTwice = 5

abbrev pub filter_number : FilterFault → ℕ
filter_number (Rows f) = row_number f
filter_number NothingLeft = 9
filter_number (Store f) = write_number f
