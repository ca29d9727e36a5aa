use Rattle.std.proofs.Common.{◌≡◌, ◌∷◌, length, rules, sym, refl, ap}
use Rattle.std.proofs.lemmas.Bool.{eqb-false}
use Rattle.load_text.specs.Lines.{lines_of}
use Rattle.load_text.proofs.Cutting.{line_cut}
use Rattle.load_text.proofs.lines.LinesIterator.next.Goals as goal

line : (c : goal.After-rest-2-1) → lines_of c.args.self.now.0.now ≡ c.unwrap_or.result.0.now ∷ lines_of c.unwrap_or.result.1.now
line c = rw c.unwrap_or.ensures (line_cut c.args.self.now.0.now c.cut_at.result _ _ c.cut_at.ensures (eqb-false (length c.args.self.now.0.now) 0 (sym c.if-is_empty.ensures)) refl refl)

pub returns-clause-steps : goal.returns-clause-steps
returns-clause-steps c = line c

pub returns-clause-goes : goal.returns-clause-goes
returns-clause-goes c = search (rules, ap length (line c))
