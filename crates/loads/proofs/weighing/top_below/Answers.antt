use Rattle.std.proofs.Common.{◌≡◌, ◌+◌, true, false, List, [], ◌∷◌, ◌++◌, take, sym, subst, arith, length-take}
use Rattle.loads.specs.Weighing.{seen, below, Top}
use Rattle.loads.proofs.Descent.{one_more, top_skips, top_raised, times_le}
use Rattle.loads.proofs.weighing.top_below.Goals as goal
use Rattle.loads.proofs.weighing.top_below.Goals.{then-is_below, else-is_below}

pub raised-requires : goal.raised-requires
raised-requires g c =
    omega (
      arith,
      times_le g.met.G.Grade.order (seen c.args.limit) _ c.loop-x.top c.loop-x.invariant,
      length-take c.loop-x.x-index c.args.load.now,
    )

pub loop-x-preserved : goal.loop-x-preserved
loop-x-preserved g c =
    let cmp = g.G.Grade.cmp in
    let o = g.met.G.Grade.order in
    let limit = seen c.args.limit in
    let load = c.args.load.now in
    let i = c.loop-x.x-index in
    let x = c.x-item.result in
    let more : take (i + 1) load ≡ take i load ++ (x ∷ []) = one_more load i x c.loop-x-test.true c.x-item.is in
    subst (λ (xs : List g.row.G.Denot). Top cmp limit xs c.if-is_below.top) (sym more)
    (elim c.if-is_below.branch [
      | then-is_below w ↦
          let yes : below cmp limit x ≡ true = sym {b = below cmp limit x} w.if-is_below.ensures in
          subst (Top cmp limit (take i load ++ (x ∷ []))) (sym w.top-is)
          (top_raised o limit (take i load) c.loop-x.top x yes c.loop-x.invariant w.raised.ensures)
      | else-is_below w ↦
          let no : below cmp limit x ≡ false = sym {b = below cmp limit x} w.if-is_below.ensures in
          subst (Top cmp limit (take i load ++ (x ∷ []))) (sym w.top-is)
          (top_skips o limit (take i load) c.loop-x.top x no c.loop-x.invariant)
    ])
