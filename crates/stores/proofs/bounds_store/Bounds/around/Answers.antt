use Rattle.domains.proofs.Ranks.{gapless_run}
use Rattle.stores.proofs.bounds_store.Bounds.around.Goals as goal

pub returns : goal.returns
returns c = gapless_run 48 c.args.part.mask c.lowest.result c.highest.result c.args.part.below
    c.lowest.ensures.within (λ k l i. c.lowest.ensures.least k (l, i)) c.highest.ensures.within (λ k l i. c.highest.ensures.most k (l, i))
