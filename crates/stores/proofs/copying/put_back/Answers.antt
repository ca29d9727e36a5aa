use Rattle.std.proofs.Common.{◌^◌, ◌≤◌, ⊎_elim, arith, pow_mono}
use Rattle.stores.proofs.copying.put_back.Goals as goal

pub returns-in_default-clause-same : goal.returns-in_default-clause-same
returns-in_default-clause-same g c =
    let s = c.args.store.now in
    let p : 2 ^ g.S.Store.width s ≤ 2 ^ 48 = pow_mono (g.met.S.Store.laws.formed s).narrow in
    λ l h. absurd (⊎_elim (λ z. omega (arith, z, h.some)) (λ z. omega (arith, z, h.below, p)) c.in_default.ensures)
