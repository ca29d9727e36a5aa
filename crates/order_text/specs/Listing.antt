-- The listing of a file: a line for each order, and a closing line.
use Rattle.std.specs.Prelude.{◌≡◌, ℕ, ◌+◌, ◌<◌, ◌≤◌, List, [], ◌∷◌, ◌++◌, length, codes, decimal, Ok, Err, Result}
use Rattle.orders.specs.declared.kinds.OrderFault.{OrderFault}
use Rattle.orders.specs.Said.{Said}
use Rattle.orders.specs.Parse.{number_of, place_of, fault_words}
use Rattle.orders.specs.Format.{encode, Ending, whole, broken, Reads}
use Rattle.order_text.specs.Words.{line_of}

-- the lines of orders whose records follow one another from the place p on
abbrev pub lines_from : ℕ → List Said → List ℕ
lines_from p [] = []
lines_from p (s ∷ ss) = (line_of p s ++ codes "\n") ++ lines_from (p + length (encode s)) ss

abbrev pub closing_of : ℕ → List ℕ → ℕ → List ℕ
closing_of place what orders = (codes "at " ++ (decimal place ++ (codes ": " ++ what))) ++ (codes "; orders: " ++ decimal orders)

-- how reading stopped, after so many orders
abbrev pub closing : Ending → ℕ → List ℕ
closing (whole p) n = closing_of p (codes "end of the file") n
closing (broken k p) n = closing_of p (fault_words k) n

abbrev pub ending : Result ℕ OrderFault → Ending
ending (Ok p) = whole p
ending (Err f) = broken (number_of f) (place_of f)

abbrev pub too_long : List ℕ
too_long = codes "at 0: over 8192 bytes; playing this file would answer 13"

-- the lines of the orders that a file is read as
abbrev pub Lines : List ℕ → List ℕ → Type 0
Lines fs text = (ss : List Said) × (e : Ending) × Reads fs 0 ss e × (text ≡ lines_from 0 ss)

-- the whole listing; a file that is too long to be played is not read
abbrev pub Listed : List ℕ → List ℕ → Type 0
Listed fs text =
    (8192 < length fs → text ≡ too_long) ×
    (length fs ≤ 8192 → (ss : List Said) × (e : Ending) × Reads fs 0 ss e × (text ≡ lines_from 0 ss ++ closing e (length ss)))
