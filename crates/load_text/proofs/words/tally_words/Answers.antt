use Rattle.load_text.proofs.words.tally_words.Goals as goal

pub returns : goal.returns
returns g c =
    let word = c.weight_word-word.ensures in
    let grade = c.in_ok-grade.ensures in
    let counts = c.in_ok-counts.ensures in
    rw (word, grade, counts) at c.format.ensures.ok
