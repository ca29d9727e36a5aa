use Rattle.std.proofs.Common.{Bool, MatchBool, sym, ◌∙◌, subst}
use Rattle.domains.specs.Sets.{Gapless}
use Rattle.domains.proofs.Ranks.{run_gapless}
use Rattle.stores.proofs.Cells.{when_equal}
use Rattle.stores.proofs.bounds_store.is_gapless.Goals as goal

pub returns : goal.returns
returns c =
    let m = c.args.part.mask in
    subst (λ (same : Bool). MatchBool same (Gapless m) (Gapless m → ⊥)) (sym c.eq.ensures) (when_equal c.domain.result.mask m (Gapless m) (Gapless m → ⊥)
    (λ e. subst Gapless (sym c.domain.ensures ∙ e) (run_gapless c.around.result.low c.around.result.high))
    (λ ne g. ne (c.domain.ensures ∙ c.around.ensures g)))
