use Rattle.std.proofs.Common.{string_bytes, arith}
use Rattle.orders.proofs.Surveying.{bytes_of}
use Rattle.order_text.proofs.Reading.{whole_listing}
use Rattle.order_text.proofs.listing.whole.Goals as goal

pub returns : goal.returns
returns c =
    whole_listing c.args.file.now (string_bytes c.in_ok-text.text) (string_bytes c.write.new.self) c.of.result
    (bytes_of c.args.file.now (λ i. omega (arith, c.type_inv.file i))) c.requires c.in_ok-text.ensures c.of.ensures c.in_ok-write.ensures.bytes
