use Rattle.std.proofs.Common.{refl, arith}
use Rattle.marking.proofs.Finding.{sigma_by}
use Rattle.marking.proofs.counts.Counts.is_heavier_below.Goals as goal

pub returns-in-Heavier : goal.returns-in-Heavier
returns-in-Heavier c =
    let sigma = sigma_by c.args.self.now c.args.bound c.weigh_counts-weight.result (omega arith) c.weigh_counts-weight.ensures.value in
    (λ _. sigma.0 c.in-Heavier.is, λ _. refl)

pub returns-in_default : goal.returns-in_default
returns-in_default c =
    let sigma = sigma_by c.args.self.now c.args.bound c.weigh_counts-weight.result (omega arith) c.weigh_counts-weight.ensures.value in
    (λ e. absurd (cc), λ s. absurd (c.in_default.not-Heavier (sigma.1 s)))
