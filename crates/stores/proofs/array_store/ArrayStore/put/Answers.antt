use Rattle.std.proofs.Common.{◌^◌, ◌<◌, take, set, map, ap, ◌∙◌}
use Rattle.std.proofs.lemmas.List.{length-set, map-set}
use Rattle.std.proofs.Math.Seq.{take-set-lt}
use Rattle.std.proofs.lemmas.List.Elements.{All-set, All-same}
use Rattle.stores.proofs.array_store.ArrayStore.put.Goals as goal

pub invariant_of-self : goal.invariant_of-self
invariant_of-self g c =
    let s = c.args.self.now in
    let P : g.row.C.Denot → Type 0 = λ x. g.C.Cell.mask x < 2 ^ s.width in
    let more = All-set P (take s.cells s.kept) c.args.cell c.args.kept c.requires.1 s.below in
    record {
      long = length-set s.kept c.args.cell c.args.kept ∙ s.long;
      few = s.few;
      narrow = s.narrow;
      below = All-same P (take s.cells (set s.kept c.args.cell c.args.kept)) (set (take s.cells s.kept) c.args.cell c.args.kept)
          (take-set-lt s.cells s.kept c.args.cell c.args.kept c.requires.0) more;
    }

pub returns-clause-written : goal.returns-clause-written
returns-clause-written g c =
    let s = c.args.self.now in
    ap (map g.C.Cell.mask) (take-set-lt s.cells s.kept c.args.cell c.args.kept c.requires.0) ∙ map-set g.C.Cell.mask (take s.cells s.kept) c.args.cell c.args.kept
