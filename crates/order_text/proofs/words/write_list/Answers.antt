use Rattle.std.proofs.Common.{◌∷◌}
use Rattle.order_text.proofs.words.write_list.Goals as goal

pub returns : goal.returns
returns g c =
    let rest = rw c.into_iter-number-iterator.ensures.into_iter_gives at c.loop-number.yielded_by in
    (c.in-Some.first ∷ c.loop-number.yielded, (_, (_, (_, c.in-Some.ensures.steps, rest), c.in-None.ensures.steps)), c.loop-number.invariant)
