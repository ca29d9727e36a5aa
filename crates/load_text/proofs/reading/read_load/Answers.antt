use Rattle.std.proofs.Common.{◌≡◌, ◌+◌, [], ◌∷◌, ◌++◌, take, drop, vec_items, vec_len, Some, sym, ap, ◌∙◌, subst, arith}
use Rattle.std.proofs.lemmas.Option.{MatchOption-at_some}
use Rattle.load_text.specs.Lines.{words_of}
use Rattle.load_text.specs.Text.{Written}
use Rattle.load_text.proofs.Gathering.{heads, one_more, all_read}
use Rattle.load_text.proofs.reading.read_load.Goals as goal

pub loop-word-preserved : goal.loop-word-preserved
loop-word-preserved g c =
    let ws = words_of c.args.line.now in
    let n = vec_len c.loop-word.load in
    let at = heads ws n c.in-Some.word.now (words_of c.next.new.self.0.now) (sym c.loop-word.invariant.0 ∙ c.in-Some.ensures.steps) in
    let read : c.parse.result ≡ Some c.in_ok-grade.grade = grind arith in
    let len : vec_len c.push.new.self ≡ n + 1 = c.in_ok-push.ensures.len in
    let items : vec_items c.push.new.self ≡ vec_items c.loop-word.load ++ (c.in_ok-grade.grade ∷ []) = c.in_ok-push.ensures.items in (
      sym at.others ∙ ap (λ k. drop k ws) (sym len),
      subst (λ k. Written g.G.Entry.writes (take k ws) (vec_items c.push.new.self)) (sym len)
          (subst (Written g.G.Entry.writes (take (n + 1) ws)) (sym items)
          (one_more g.G.Entry.writes ws n (vec_items c.loop-word.load) c.in-Some.word.now (words_of c.next.new.self.0.now) at c.loop-word.invariant.1 c.in_ok-grade.grade (MatchOption-at_some _ _ _ read c.parse.ensures))),
    )

pub returns : goal.returns
returns g c = all_read g.G.Entry.writes (words_of c.args.line.now) (vec_len c.loop-word.load) (vec_items c.loop-word.load) (sym c.loop-word.invariant.0 ∙ c.in-None.ensures.steps.0) c.loop-word.invariant.1
