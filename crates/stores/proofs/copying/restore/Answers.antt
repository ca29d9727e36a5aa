use Rattle.std.proofs.Common.{◌≡◌, ℕ, ◌<◌, ◌≤◌, length, length-take, get_or, take, sym, ◌∙◌, subst, arith, rules}
use Rattle.std.proofs.lemmas.List.{get_or-take}
use Rattle.stores.specs.Stores.{Holdable}
use Rattle.stores.proofs.Cells.{same_front, set_next}
use Rattle.stores.proofs.copying.restore.Goals as goal

pub loop-cell-preserved : goal.loop-cell-preserved
loop-cell-preserved g c =
    let m = g.S.Store in
    let s = c.args.store.now in
    let t = c.loop-cell.store in
    let u = c.put_back.new.store in
    let i = c.loop-cell.cell in
    let saved = c.args.saved.now in
    let inv = c.loop-cell.invariant in
    let n : i < length (m.cells t) = omega (arith, c.size-size.ensures.0, inv.1, c.loop-cell-test.true, length-take c.size-size.result.cells saved) in
    let e : get_or (take c.size-size.result.cells saved) i 0 ≡ get_or saved i 0 = get_or-take c.size-size.result.cells saved i 0 (omega (arith, n, inv.1, c.size-size.ensures.0)) in
    let put = rw e at c.put_back.ensures.same in (
      c.put_back.ensures.width ∙ inv.0,
      c.put_back.ensures.count ∙ inv.1,
      λ ok.
          let held : Holdable m.holds (m.width t) (get_or saved i 0) = subst (λ (d : ℕ). Holdable m.holds d (get_or saved i 0)) (sym inv.0) (ok i (omega (arith, n, inv.1))) in
          set_next (m.cells t) saved (m.cells u) i n (put n held) (inv.2 ok),
      g.met.S.Store.laws.then s t u inv.3 c.put_back.ensures.rest,
    )

pub returns-clause-same : goal.returns-clause-same
returns-clause-same g c =
    let n = length (g.S.Store.cells c.args.store.now) in
    let few : n ≤ 64 = (g.met.S.Store.laws.formed c.args.store.now).few in
    let within : n ≤ length c.args.saved.now = search rules in
    λ ok. sym (same_front n c.args.saved.now (g.S.Store.cells c.loop-cell.store) within c.loop-cell.invariant.1
    (λ k h. sym (c.loop-cell.invariant.2 ok k (omega (arith, c.size-size.ensures.0)))))
