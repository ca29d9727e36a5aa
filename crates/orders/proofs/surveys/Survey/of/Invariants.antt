use Rattle.std.proofs.Common.{◌≡◌, ◌-◌, ◌≤◌, length}
use Rattle.orders.proofs.Surveying.{Leads, Counts}
use Rattle.orders.proofs.surveys.Survey.of.Given as goal

-- the orders so far come before those of the rest of the file; every order took a byte at least
abbrev pub invariant-loop-orders : goal.invariant-loop-orders
invariant-loop-orders l = (l.reader.file.now ≡ l.file) × (l.orders ≤ l.reader.place) × Leads l.file l.reader.place (Counts l.orders)

abbrev pub decreases-loop-orders : goal.decreases-loop-orders
decreases-loop-orders l = length l.file - l.reader.place
