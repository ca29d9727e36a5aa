-- The two-byte marks, in ASCII, and numbers of several bytes, high byte first.
use Rattle.std.specs.Prelude.{ℕ, ◌+◌, ◌*◌, ◌/◌, ◌%◌, ◌^◌, Bool, false, cond, List, [], ◌∷◌, ◌==◌, slice_index}

-- D is 68, E 69, I 73, K 75, L 76, N 78, O 79, P 80, R 82, T 84, U 85

-- lay out
abbrev pub LO : List ℕ
LO = 76 ∷ 79 ∷ []

-- limit
abbrev pub LI : List ℕ
LI = 76 ∷ 73 ∷ []

-- post a rule
abbrev pub PR : List ℕ
PR = 80 ∷ 82 ∷ []

-- open a trial
abbrev pub OT : List ℕ
OT = 79 ∷ 84 ∷ []

-- undo a trial
abbrev pub UT : List ℕ
UT = 85 ∷ 84 ∷ []

-- keep a trial
abbrev pub KT : List ℕ
KT = 75 ∷ 84 ∷ []

-- read a cell
abbrev pub RD : List ℕ
RD = 82 ∷ 68 ∷ []

-- an order was carried out, was refused, and the end of the answers
abbrev pub OK : List ℕ
OK = 79 ∷ 75 ∷ []

abbrev pub NO : List ℕ
NO = 78 ∷ 79 ∷ []

abbrev pub EN : List ℕ
EN = 69 ∷ 78 ∷ []

-- whether the bytes a and b are the mark m
abbrev pub is_mark : List ℕ → ℕ → ℕ → Bool
is_mark m a b = cond (a == slice_index m 0) (b == slice_index m 1) false

-- the number that the first four, or six, bytes are
abbrev pub four : List ℕ → ℕ
four bs = slice_index bs 0 * 2 ^ 24 + slice_index bs 1 * 2 ^ 16 + slice_index bs 2 * 2 ^ 8 + slice_index bs 3

abbrev pub six : List ℕ → ℕ
six bs = slice_index bs 0 * 2 ^ 40 + slice_index bs 1 * 2 ^ 32 + slice_index bs 2 * 2 ^ 24 + slice_index bs 3 * 2 ^ 16 + slice_index bs 4 * 2 ^ 8 + slice_index bs 5

-- a number as two, four or six bytes
abbrev pub in_two : ℕ → List ℕ
in_two v = (v / 2 ^ 8 % 256) ∷ (v % 256) ∷ []

abbrev pub in_four : ℕ → List ℕ
in_four v = (v / 2 ^ 24 % 256) ∷ (v / 2 ^ 16 % 256) ∷ (v / 2 ^ 8 % 256) ∷ (v % 256) ∷ []

abbrev pub in_six : ℕ → List ℕ
in_six v = (v / 2 ^ 40 % 256) ∷ (v / 2 ^ 32 % 256) ∷ (v / 2 ^ 24 % 256) ∷ (v / 2 ^ 16 % 256) ∷ (v / 2 ^ 8 % 256) ∷ (v % 256) ∷ []
