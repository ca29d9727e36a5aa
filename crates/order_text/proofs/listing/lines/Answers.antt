use Rattle.std.proofs.Common.{◌<◌, string_bytes, ◌∙◌, arith}
use Rattle.orders.specs.Said.{said}
use Rattle.orders.proofs.Ends.{falls}
use Rattle.orders.proofs.Surveying.{Leads, bytes_of}
use Rattle.order_text.proofs.Reading.{Lists, one_more, at_end, at_fault}
use Rattle.order_text.proofs.listing.lines.Goals as goal

step : (c : goal.In_ok-writeln-in-Ok-Some) → (c.loop-order.reader.place < c.next.new.self.place) × Leads c.args.file.now c.next.new.self.place (Lists c.next.new.self.place (string_bytes c.writeln.new.self))
step c =
    one_more c.args.file.now c.loop-order.reader.file.now c.loop-order.reader.place c.next.new.self.place c.place-place.result
    (string_bytes c.loop-order.text) (string_bytes c.writeln.new.self) (said c.in-Ok-Some.order)
    (bytes_of c.args.file.now (λ i. omega (arith, c.type_inv.file i))) c.loop-order.invariant.0
    (rw c.in-Ok-Some.field-0-is at c.in-Ok-Some.ensures.order) c.in-Ok-Some.ensures.place c.place-place.ensures
    c.in_ok-writeln-in-Ok-Some.ensures.bytes c.loop-order.invariant.1

pub loop-order-smaller : goal.loop-order-smaller
loop-order-smaller c =
    falls c.args.file.now c.loop-order.reader.file.now c.next.new.self.file.now c.loop-order.reader.place c.next.new.self.place
    c.loop-order.invariant.0 c.in-Ok-Some.ensures.file (step c).0 c.next.new.self.within

pub loop-order-preserved : goal.loop-order-preserved
loop-order-preserved c = (c.in-Ok-Some.ensures.file ∙ c.loop-order.invariant.0, (step c).1)

pub returns-in-Ok-None : goal.returns-in-Ok-None
returns-in-Ok-None c =
    at_end c.args.file.now c.loop-order.reader.file.now c.loop-order.reader.place (string_bytes c.loop-order.text) c.loop-order.invariant.0
    (rw c.in-Ok-None.field-0-is at c.in-Ok-None.ensures.order) c.loop-order.invariant.1

pub returns-in-Err : goal.returns-in-Err
returns-in-Err c =
    at_fault c.args.file.now c.loop-order.reader.file.now c.loop-order.reader.place _ _ (string_bytes c.loop-order.text) c.loop-order.invariant.0 c.in-Err.ensures.order c.loop-order.invariant.1
