use Rattle.std.proofs.Common.{◌≡◌, eqb, rules, tests, sym, ◌∙◌}
use Rattle.std.specs.List.{position}
use Rattle.std.proofs.lemmas.Iterator.{YieldsList-from_slice}
use Rattle.std.proofs.lemmas.Iterator.Search.{position_from_yields_List}
use Rattle.load_text.proofs.Cutting.{cut_none, cut_there}
use Rattle.load_text.proofs.lines.cut_at.Goals as goal

pub returns-in_err-at : goal.returns-in_err-at
returns-in_err-at c =
    let at : c.position.result ≡ position (λ b. eqb b c.args.byte) c.args.text.now = position_from_yields_List _ _ _ _ c.position.ensures.ran (YieldsList-from_slice c.args.text.now (cc)) (λ x b q k. search (rules, tests)) in
    rw c.from_residual.ensures (cut_none c.args.byte c.args.text.now (sym at ∙ c.in_err-at.was))

pub returns : goal.returns
returns c =
    let at : c.position.result ≡ position (λ b. eqb b c.args.byte) c.args.text.now = position_from_yields_List _ _ _ _ c.position.ensures.ran (YieldsList-from_slice c.args.text.now (cc)) (λ x b q k. search (rules, tests)) in
    cut_there c.args.byte c.args.text.now c.in_ok-at.at (sym at ∙ c.in_ok-at.was)
