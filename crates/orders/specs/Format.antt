-- The format of an order file, stated by itself: how orders are written, and what a file then says.
use Rattle.std.specs.Prelude.{◌≡◌, ℕ, ◌^◌, ◌<◌, ◌≤◌, ◌⊎◌, List, [], ◌∷◌, ◌++◌, length, take, drop, ◌≢◌}
use Rattle.std.specs.List.{AllByRecursion}
use Rattle.orders.specs.Said.{Said, lay_out, limit, post, start, undo, keep, read}
use Rattle.orders.specs.Marks.{LO, LI, PR, OT, UT, KT, RD, in_four, in_six}
use Rattle.orders.specs.Parse.{ended, found, faulty, next_of, place_after}

-- the record of an order: the mark, and the fields
abbrev pub encode : Said → List ℕ
encode (lay_out cells width) = LO ++ (cells ∷ width ∷ [])
encode (limit cell set) = LI ++ (cell ∷ in_six set)
encode (post left right) = PR ++ (length left ∷ length right ∷ (left ++ right))
encode start = OT
encode (undo trial) = UT ++ in_four trial
encode (keep trial) = KT ++ in_four trial
encode (read cell) = RD ++ (cell ∷ [])

-- the records of some orders, one after another
abbrev pub encodings : List Said → List ℕ
encodings [] = []
encodings (s ∷ ss) = encode s ++ encodings ss

abbrev pub Bytes : List ℕ → Type 0
Bytes = AllByRecursion (λ b. b < 256)

-- an order whose fields fit their bytes
abbrev pub Fits : Said → Type 0
Fits (lay_out cells width) = (cells < 256) × (width < 256)
Fits (limit cell set) = (cell < 256) × (set < 2 ^ 48)
Fits (post left right) = (length left < 256) × (length right < 256) × Bytes left × Bytes right
Fits start = Unit {0}
Fits (undo trial) = trial < 2 ^ 32
Fits (keep trial) = trial < 2 ^ 32
Fits (read cell) = cell < 256

-- the bytes begin with the mark of no order
abbrev pub Strange : List ℕ → Type 0
Strange bs = (2 ≤ length bs) × ((s : Said) → take 2 bs ≢ take 2 (encode s))

-- the bytes are the beginning of a record, but not all of it
abbrev pub Beginning : List ℕ → Type 0
Beginning bs = (s : Said) × (rest : List ℕ) × Fits s × (0 < length rest) × (encode s ≡ bs ++ rest)

-- what stands at the place of a fault with number k: 14 is an unknown mark; 15 is a record cut short, or a lone byte
abbrev pub Faulty : ℕ → List ℕ → Type 0
Faulty k bs = ((k ≡ 14) × Strange bs) ⊎ ((k ≡ 15) × ((length bs ≡ 1) ⊎ ((2 ≤ length bs) × Beginning bs)))

-- where reading stopped: at the end of the file, with the reader's place, or at a fault, with its number and place
pub data Ending : Type 0 where
  whole : (place : ℕ) → Ending
  broken : (number place : ℕ) → Ending

-- the file fs, from the place p on, next after next, gives the orders ss, and then stops
pub data Reads (fs : List ℕ) : ℕ → List Said → Ending → Type 0 where
  done : {p : ℕ} → next_of fs p ≡ ended → Reads fs p [] (whole p)
  fault : {p k q : ℕ} → next_of fs p ≡ faulty k q → Reads fs p [] (broken k q)
  more : {p : ℕ} {s : Said} {ss : List Said} {e : Ending} → next_of fs p ≡ found s → Reads fs (place_after fs p) ss e → Reads fs p (s ∷ ss) e

-- a file is a list of bytes, read from its start
pub record Format : Type 0 where
  -- a file is read to its end, e, as the orders ss exactly when it is their records, one after another, and e is its length
  pub whole_file : (fs : List ℕ) (ss : List Said) (e : ℕ) → Bytes fs →
      (Reads fs 0 ss (whole e) → AllByRecursion Fits ss × (fs ≡ encodings ss) × (e ≡ length fs)) ×
      (AllByRecursion Fits ss × (fs ≡ encodings ss) × (e ≡ length fs) → Reads fs 0 ss (whole e))
  -- it is read as the orders ss up to a fault exactly when their records come first, the fault's place is where they end, and what stands there is at fault
  pub broken_file : (fs : List ℕ) (ss : List Said) (k p : ℕ) → Bytes fs →
      (Reads fs 0 ss (broken k p) → AllByRecursion Fits ss × (take p fs ≡ encodings ss) × (p ≤ length fs) × Faulty k (drop p fs)) ×
      (AllByRecursion Fits ss × (take p fs ≡ encodings ss) × (p ≤ length fs) × Faulty k (drop p fs) → Reads fs 0 ss (broken k p))
  -- every list of orders whose fields fit reads back as itself
  pub reads_back : (ss : List Said) → AllByRecursion Fits ss → Reads (encodings ss) 0 ss (whole (length (encodings ss)))
  -- two different lists of such orders never have the same bytes
  pub one_meaning : (ss ts : List Said) → AllByRecursion Fits ss → AllByRecursion Fits ts → encodings ss ≡ encodings ts → ss ≡ ts
  -- every file is read, and in one way only
  pub read_somehow : (fs : List ℕ) → Bytes fs → (ss : List Said) × (e : Ending) × Reads fs 0 ss e
  pub one_reading : (fs : List ℕ) (ss ts : List Said) (d e : Ending) → Reads fs 0 ss d → Reads fs 0 ts e → (ss ≡ ts) × (d ≡ e)
