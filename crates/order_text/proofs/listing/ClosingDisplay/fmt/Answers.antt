use Rattle.std.proofs.Common.{◌++◌, List, ℕ, codes, decimal, append_assoc, sym, ap}
use Rattle.std.proofs.Output.{has_written_of_eq}
use Rattle.order_text.proofs.listing.ClosingDisplay.fmt.Goals as goal

pub returns-in-Ok-clause-writes : goal.returns-in-Ok-clause-writes
returns-in-Ok-clause-writes g c = λ plain ok.
    let last : List ℕ = codes "; orders: " ++ decimal c.args.self.now.0.orders in
    let same = append_assoc (decimal c.in-Ok.place) (codes ": end of the file") last in
    rw c.in-Ok.is (has_written_of_eq _ _ _ _ _ (ap (λ (text : List ℕ). codes "at " ++ text) (sym same)) (c.write.ensures.writes plain ok))
