use Rattle.std.proofs.Common.{◌≡◌, ◌∷◌, ◌-◌, not, eqb, length, take, drop, rules, tests, sym, ap, ◌∙◌}
use Rattle.std.specs.List.{position}
use Rattle.std.specs.Option.{unwrap_or}
use Rattle.std.proofs.lemmas.Iterator.{YieldsList-from_slice}
use Rattle.std.proofs.lemmas.Iterator.Search.{position_from_yields_List}
use Rattle.load_text.specs.Lines.{words_of}
use Rattle.load_text.proofs.Cutting.{words_none, word_cut}
use Rattle.load_text.proofs.lines.WordsIterator.next.Goals as goal

pub returns-in_err-start-clause-steps : goal.returns-in_err-start-clause-steps
returns-in_err-start-clause-steps c =
    let start : c.position.result ≡ position (λ b. not (eqb b 32)) c.args.self.now.0.now = position_from_yields_List _ _ _ _ c.position.ensures.ran (YieldsList-from_slice c.args.self.now.0.now (cc)) (λ x b q k. search (rules, tests)) in
    let none = words_none c.args.self.now.0.now (sym start ∙ c.in_err-start.was) in
    rw c.from_residual.ensures (none, none)

word : (c : goal.After-rest-2-1) → words_of c.args.self.now.0.now ≡ c.split_at.result.0.now ∷ words_of c.split_at.result.1.now
word c =
    let line = c.args.self.now.0.now in
    let begun = take (length line - c.in_ok-start.start) (drop c.in_ok-start.start line) in
    let start : c.position.result ≡ position (λ b. not (eqb b 32)) line = position_from_yields_List _ _ _ _ c.position.ensures.ran (YieldsList-from_slice line (cc)) (λ x b q k. search (rules, tests)) in
    let end : c.position-2.result ≡ position (λ b. eqb b 32) begun = position_from_yields_List _ _ _ _ c.position-2.ensures.ran (YieldsList-from_slice begun (cc)) (λ x b q k. search (rules, tests)) in
    let at = c.unwrap_or-end.ensures ∙ ap (λ o. unwrap_or o (length begun)) end in
    word_cut line c.split_at.result.0.now c.split_at.result.1.now c.in_ok-start.start (sym start ∙ c.in_ok-start.was)
    (c.split_at.ensures.front ∙ ap (λ n. take n begun) at)
    (c.split_at.ensures.back ∙ ap (λ n. drop n begun) at)

pub returns-clause-steps : goal.returns-clause-steps
returns-clause-steps c = word c

pub returns-clause-goes : goal.returns-clause-goes
returns-clause-goes c = search (rules, ap length (word c))
