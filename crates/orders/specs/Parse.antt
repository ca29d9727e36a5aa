-- What the bytes of a file say, record by record.
use Rattle.std.specs.Prelude.{ℕ, ◌+◌, cond, List, codes, length, take, drop, Some, None, Ok, Err, Option, Result, ◌==◌, nat_lt, slice_index}
use Rattle.orders.specs.declared.kinds.Order.{Order}
use Rattle.orders.specs.declared.kinds.OrderFault.{OrderFault}
use Rattle.orders.specs.declared.kinds.OrderFault.TheVariants.{UnknownMark, CutShort}
use Rattle.orders.specs.declared.records.Record.{Record}
use Rattle.orders.specs.declared.records.RecordFault.{RecordFault}
use Rattle.orders.specs.declared.records.RecordFault.TheVariants.{Cut, Unknown}
use Rattle.orders.specs.Said.{Said, said, lay_out, limit, post, start, undo, keep, read}
use Rattle.orders.specs.Marks.{LO, LI, PR, OT, UT, KT, RD, is_mark, four, six}

-- what stands where a record may begin: an order and how many bytes its record has, no byte at all, a record cut short, or an unknown mark
pub data Parsed : Type 0 where
  order : Said → ℕ → Parsed
  nothing : Parsed
  cut : Parsed
  unknown : Parsed

-- what the bytes after the mark say, in each kind of record
abbrev pub lay_out_of : List ℕ → Parsed
lay_out_of bs = cond (nat_lt (length bs) 2) cut (order (lay_out (slice_index bs 0) (slice_index bs 1)) 4)

abbrev pub limit_of : List ℕ → Parsed
limit_of bs = cond (nat_lt (length bs) 7) cut (order (limit (slice_index bs 0) (six (drop 1 bs))) 9)

-- the rows after their two counts, l and r
abbrev pub rows_of : ℕ → ℕ → List ℕ → Parsed
rows_of l r bs = cond (nat_lt (length bs) (l + r)) cut (order (post (take l bs) (take r (drop l bs))) (4 + l + r))

abbrev pub post_of : List ℕ → Parsed
post_of bs = cond (nat_lt (length bs) 2) cut (rows_of (slice_index bs 0) (slice_index bs 1) (drop 2 bs))

abbrev pub undo_of : List ℕ → Parsed
undo_of bs = cond (nat_lt (length bs) 4) cut (order (undo (four bs)) 6)

abbrev pub keep_of : List ℕ → Parsed
keep_of bs = cond (nat_lt (length bs) 4) cut (order (keep (four bs)) 6)

abbrev pub read_of : List ℕ → Parsed
read_of bs = cond (nat_lt (length bs) 1) cut (order (read (slice_index bs 0)) 3)

-- the record whose mark is the bytes a and b, and whose other bytes are the first of bs
abbrev pub marked : ℕ → ℕ → List ℕ → Parsed
marked a b bs =
    cond (is_mark LO a b) (lay_out_of bs)
    (cond (is_mark LI a b) (limit_of bs)
    (cond (is_mark PR a b) (post_of bs)
    (cond (is_mark OT a b) (order start 2)
    (cond (is_mark UT a b) (undo_of bs)
    (cond (is_mark KT a b) (keep_of bs)
    (cond (is_mark RD a b) (read_of bs) unknown))))))

-- the record that the first bytes are; a lone byte is a record cut short, whatever it is
abbrev pub record_of : List ℕ → Parsed
record_of bs = cond (length bs == 0) nothing (cond (nat_lt (length bs) 2) cut (marked (slice_index bs 0) (slice_index bs 1) (drop 2 bs)))

-- what stands in the file fs at the place p
unfoldable pub parse : List ℕ → ℕ → Parsed
parse fs p = record_of (drop p fs)

-- what a reader answers: the end of the file, an order, or a fault's number with the place of the mark
pub data Next : Type 0 where
  ended : Next
  found : Said → Next
  faulty : (number place : ℕ) → Next

-- 14 is an unknown mark, 15 a record cut short
abbrev pub answer_at : ℕ → Parsed → Next
answer_at p (order s n) = found s
answer_at p nothing = ended
answer_at p cut = faulty 15 p
answer_at p unknown = faulty 14 p

-- where it then stands: after the order's record, and else where it stood
abbrev pub onward_from : ℕ → Parsed → ℕ
onward_from p (order s n) = p + n
onward_from p nothing = p
onward_from p cut = p
onward_from p unknown = p

abbrev pub next_of : List ℕ → ℕ → Next
next_of fs p = answer_at p (parse fs p)

abbrev pub place_after : List ℕ → ℕ → ℕ
place_after fs p = onward_from p (parse fs p)

-- a fault's number and place
abbrev pub number_of : OrderFault → ℕ
number_of (UnknownMark p) = 14
number_of (CutShort p) = 15

abbrev pub place_of : OrderFault → ℕ
place_of (UnknownMark p) = p
place_of (CutShort p) = p

-- the words of a fault's number, of the two faults that a file can have
abbrev pub fault_words : ℕ → List ℕ
fault_words k = cond (k == 14) (codes "fault 14, an unknown mark") (codes "fault 15, a record cut short")

-- what the code's values say: a record, one of a known mark, and one that may begin anywhere
abbrev pub whole_of : Record → Parsed
whole_of r = order (said r.order) r.length

abbrev pub fault_of : RecordFault → Parsed
fault_of Cut = cut
fault_of Unknown = unknown

abbrev pub fields : Option Record → Parsed
fields (Some r) = whole_of r
fields None = cut

abbrev pub parsed_mark : Result Record RecordFault → Parsed
parsed_mark (Ok r) = whole_of r
parsed_mark (Err f) = fault_of f

abbrev pub parsed : Result (Option Record) RecordFault → Parsed
parsed (Ok (Some r)) = whole_of r
parsed (Ok None) = nothing
parsed (Err f) = fault_of f

abbrev pub told : Result (Option Order) OrderFault → Next
told (Ok None) = ended
told (Ok (Some o)) = found (said o)
told (Err f) = faulty (number_of f) (place_of f)
