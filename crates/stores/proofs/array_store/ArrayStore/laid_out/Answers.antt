use Rattle.std.proofs.Common.{◌^◌, ◌<◌, ◌≤◌, length, take, map, replicate, refl, ap, ◌∙◌, arith}
use Rattle.std.proofs.lemmas.List.{take-replicate}
use Rattle.std.proofs.lemmas.List.Elements.{All-replicate, All-same}
use Rattle.std.proofs.lemmas.Nat.{pow_pos}
use lib.LanesLaws.{map-replicate}
use Rattle.stores.proofs.array_store.ArrayStore.laid_out.Goals as goal

pub invariant_of-result : goal.invariant_of-result
invariant_of-result g c =
    let n = c.args.n in
    let d = c.args.d in
    let full = c.in_ok-full-2.full in
    let P : g.row.C.Denot → Type 0 = λ x. g.C.Cell.mask x < 2 ^ d in
    let p : P full = omega (arith, c.in_ok-full-2.ensures.1, c.in_ok-full.ensures.value, pow_pos d) in
    let h : n ≤ 64 = omega arith in
    record {
      long = ap length c.filled.ensures;
      few = h;
      narrow = c.in_ok-full.ensures.taken.1;
      below = All-same P (take n c.filled.result) (replicate n full) (ap (take n) c.filled.ensures ∙ take-replicate n 64 full h) (All-replicate P n full p);
    }

pub returns : goal.returns
returns g c =
    let n = c.args.n in
    let full = c.in_ok-full-2.full in
    let h : n ≤ 64 = omega arith in
    record {
      sized = record { cell = omega arith; cells = h; rank = c.in_ok-full.ensures.taken.0; ranks = c.in_ok-full.ensures.taken.1 };
      cells = ap (λ xs. map g.C.Cell.mask (take n xs)) c.filled.ensures ∙ ap (map g.C.Cell.mask) (take-replicate n 64 full h)
          ∙ map-replicate g.C.Cell.mask n full ∙ ap (replicate n) (c.in_ok-full-2.ensures.1 ∙ c.in_ok-full.ensures.value);
      width = refl;
    }
