use Rattle.std.proofs.Common.{◌+◌, ◌<◌, ◌∙◌, arith}
use Rattle.orders.specs.Said.{said}
use Rattle.orders.specs.Parse.{number_of, place_of}
use Rattle.orders.proofs.Ends.{falls}
use Rattle.orders.proofs.Surveying.{Leads, Counts, turn, bytes_of, at_end, at_fault}
use Rattle.orders.proofs.surveys.Survey.of.Goals as goal

step : (c : goal.In-Ok-Some) → (c.loop-orders.reader.place < c.next.new.self.place) × Leads c.args.file.now c.next.new.self.place (Counts (c.loop-orders.orders + 1))
step c =
    turn c.args.file.now c.loop-orders.reader.file.now c.loop-orders.reader.place c.next.new.self.place (said c.in-Ok-Some.field-0-0)
    c.loop-orders.invariant.0 (rw c.in-Ok-Some.field-0-is at c.in-Ok-Some.ensures.order) c.in-Ok-Some.ensures.place c.loop-orders.invariant.2 (λ ts ss e. omega arith)

pub loop-orders-smaller : goal.loop-orders-smaller
loop-orders-smaller c =
    falls c.args.file.now c.loop-orders.reader.file.now c.next.new.self.file.now c.loop-orders.reader.place c.next.new.self.place
    c.loop-orders.invariant.0 c.in-Ok-Some.ensures.file (step c).0 c.next.new.self.within

pub loop-orders-preserved : goal.loop-orders-preserved
loop-orders-preserved c = (c.in-Ok-Some.ensures.file ∙ c.loop-orders.invariant.0, omega (arith, (step c).0, c.loop-orders.invariant.1), (step c).1)

pub returns-in-Ok-None : goal.returns-in-Ok-None
returns-in-Ok-None c =
    at_end c.args.file.now c.loop-orders.reader.file.now c.loop-orders.reader.place c.place.result c.loop-orders.orders
    (bytes_of c.args.file.now (λ i. omega (arith, c.type_inv.file i))) c.loop-orders.invariant.0
    (rw c.in-Ok-None.field-0-is at c.in-Ok-None.ensures.order) (c.place.ensures ∙ c.in-Ok-None.ensures.place) c.loop-orders.invariant.2

pub returns-in-Err : goal.returns-in-Err
returns-in-Err c =
    at_fault c.args.file.now c.loop-orders.reader.file.now c.loop-orders.reader.place c.loop-orders.orders (number_of c.in-Err.fault) (place_of c.in-Err.fault)
    (bytes_of c.args.file.now (λ i. omega (arith, c.type_inv.file i))) c.loop-orders.invariant.0 c.in-Err.ensures.order c.loop-orders.invariant.2
