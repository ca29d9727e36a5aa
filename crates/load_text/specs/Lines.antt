-- The lines of a text, and the words of a line.
use Rattle.std.specs.Prelude.{◌≡◌, ℕ, ◌+◌, ◌<◌, cond, not, List, [], ◌∷◌, ◌++◌, length, take, drop, Some, None, Option, ◌==◌}
use Rattle.std.specs.Borrow.{Bor}
use Rattle.std.specs.List.{prefix_len}

-- how many bytes stand before the first such byte; all of them where there is none
abbrev pub before : ℕ → List ℕ → ℕ
before byte bs = prefix_len (λ b. not (b == byte)) bs

-- what stands before the first such byte and what follows it; nothing where there is no such byte
abbrev pub CutAt : ℕ → List ℕ → Option (Bor (List ℕ) × Bor (List ℕ)) → Type 0
CutAt byte bs None = before byte bs ≡ length bs
CutAt byte bs (Some cut) = (before byte bs < length bs) × (cut.0.now ≡ take (before byte bs) bs) × (cut.1.now ≡ drop (before byte bs + 1) bs)

-- A line ends with a line feed (10), the last one also with the text: a text that ends in a line feed has no empty line after it.
abbrev pub on_first : ℕ → List (List ℕ) → List (List ℕ)
on_first b [] = (b ∷ []) ∷ []
on_first b (l ∷ ls) = (b ∷ l) ∷ ls

abbrev pub lines_of : List ℕ → List (List ℕ)
lines_of [] = []
lines_of (b ∷ bs) = cond (b == 10) ([] ∷ lines_of bs) (on_first b (lines_of bs))

-- Words stand between spaces (32). A word begun so far, in `begun`, goes on or ends; one of no bytes is none.
abbrev pub ended : List ℕ → List (List ℕ)
ended [] = []
ended (b ∷ bs) = (b ∷ bs) ∷ []

abbrev pub words_after : List ℕ → List ℕ → List (List ℕ)
words_after begun [] = ended begun
words_after begun (b ∷ bs) = cond (b == 32) (ended begun ++ words_after [] bs) (words_after (begun ++ (b ∷ [])) bs)

abbrev pub words_of : List ℕ → List (List ℕ)
words_of line = words_after [] line
