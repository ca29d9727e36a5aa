use Rattle.std.proofs.Common.{◌∷◌}
use Rattle.std.specs.Fmt.{HasWritten, IsPlainFormatter}
use Rattle.order_text.specs.Words.{listed}
use Rattle.order_text.proofs.words.write_list.Given as goal

abbrev pub invariant-loop-number : goal.invariant-loop-number
invariant-loop-number g l = IsPlainFormatter l.fn.f → HasWritten g.W.Write.write_str_gives l.fn.f (listed (l.first ∷ l.yielded)) l.f
