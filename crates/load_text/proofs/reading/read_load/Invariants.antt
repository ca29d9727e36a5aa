use Rattle.std.proofs.Common.{◌≡◌, take, drop, vec_items, vec_len}
use Rattle.load_text.specs.Lines.{words_of}
use Rattle.load_text.specs.Text.{Written}
use Rattle.load_text.proofs.reading.read_load.Given as goal

-- as many words are read as there are grades, and the others are still to come
abbrev pub invariant-loop-word : goal.invariant-loop-word
invariant-loop-word g l =
    (words_of l.word-iterator.0.now ≡ drop (vec_len l.load) (words_of l.line))
    × Written g.G.Entry.writes (take (vec_len l.load) (words_of l.line)) (vec_items l.load)
