use Rattle.std.proofs.Common.{rules, subst}
use Rattle.std.specs.Io.KnownBytes.{Consumes}
use Rattle.inputs.proofs.Filling.{both, seam}
use Rattle.inputs.proofs.read_into.Goals as goal

-- the room's front grows by what was read behind it
pub loop-count-preserved : goal.loop-count-preserved
loop-count-preserved g c =
    let grown = seam c.loop-count.room c.read.new.buf _ c.loop-count.count c.in_ok-more.more c.loop-count.invariant.0 c.in_ok-more.ensures.bound.0 in
    (search rules, subst (Consumes _ _) grown (both _ _ _ _ _ c.loop-count.invariant.1 c.in_ok-more.ensures.bytes.0))
