-- The words in which orders are listed.
use Rattle.std.specs.Prelude.{ℕ, ◌/◌, ◌%◌, ◌^◌, List, [], ◌∷◌, ◌++◌, codes, decimal, ◌==◌}
use Rattle.std.specs.List.{filter, flat_map, range_with_len}
use Rattle.orders.specs.Said.{Said, lay_out, limit, post, start, undo, keep, read}

-- the ranks of a set, in rising order, of the 48 that there are; rank r counts 2 ^ r
unfoldable pub ranks_of : ℕ → List ℕ
ranks_of set = filter (λ r. (set / 2 ^ r % 2) == 1) (range_with_len 0 48)

abbrev pub after_first : List ℕ → List ℕ
after_first ns = flat_map (λ n. codes ", " ++ decimal n) ns

-- numbers as a list, with a comma between two
abbrev pub listed : List ℕ → List ℕ
listed [] = codes "none"
listed (n ∷ ns) = decimal n ++ after_first ns

abbrev pub order_words : Said → List ℕ
order_words (lay_out cells width) = codes "lay out: cells " ++ (decimal cells ++ (codes ", grades " ++ decimal width))
order_words (limit cell set) = codes "limit cell " ++ (decimal cell ++ (codes " to ranks " ++ listed (ranks_of set)))
order_words (post left right) = codes "post a rule: left cells " ++ (listed left ++ (codes "; right cells " ++ listed right))
order_words start = codes "open a trial"
order_words (undo trial) = codes "undo trial " ++ decimal trial
order_words (keep trial) = codes "keep trial " ++ decimal trial
order_words (read cell) = codes "read cell " ++ decimal cell

-- the line of an order: its place, and its words
abbrev pub line_of : ℕ → Said → List ℕ
line_of place s = codes "at " ++ (decimal place ++ (codes ": " ++ order_words s))
