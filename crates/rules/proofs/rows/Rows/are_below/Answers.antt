use Rattle.std.proofs.Common.{◌<◌, ◌≤◌, rules}
use Rattle.std.proofs.lemmas.Iterator.{YieldsList-from_slice, cases_from_all}
use Rattle.std.proofs.lemmas.Iterator.Consumers.{YieldsList-from_chain}
use borrow.Author.Tests.{tests}
use Rattle.rules.proofs.rows.Rows.are_below.Goals as goal

pub returns : goal.returns
returns c =
    let rows = c.args.self.now in
    let each = cases_from_all _ _ c.all.result (λ x. x < c.args.n) (λ x. c.args.n ≤ x) c.all.ensures.ran
    (YieldsList-from_chain (YieldsList-from_slice rows.left.now cc) (YieldsList-from_slice rows.right.now cc) (cc) (cc))
    (λ x q k. search (rules, tests)) (λ x q k. search (rules, tests)) in
    search rules
