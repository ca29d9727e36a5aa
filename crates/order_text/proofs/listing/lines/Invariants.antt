use Rattle.std.proofs.Common.{◌≡◌, ◌-◌, length, string_bytes}
use Rattle.orders.proofs.Surveying.{Leads}
use Rattle.order_text.proofs.Reading.{Lists}
use Rattle.order_text.proofs.listing.lines.Given as goal

-- however the rest of the file is read, the lines so far and those of the rest are those of the whole
abbrev pub invariant-loop-order : goal.invariant-loop-order
invariant-loop-order l = (l.reader.file.now ≡ l.file) × Leads l.file l.reader.place (Lists l.reader.place (string_bytes l.text))

abbrev pub decreases-loop-order : goal.decreases-loop-order
decreases-loop-order l = length l.file - l.reader.place
