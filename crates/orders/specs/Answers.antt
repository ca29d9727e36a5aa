-- Answer records and the closing record: eight bytes each.
use Rattle.std.specs.Prelude.{◌≡◌, ℕ, ◌^◌, ◌<◌, cond, List, ◌++◌, length, drop, Some, None, Ok, Err, Option, Result, ◌==◌, ◌≢◌, nat_lt, slice_index}
use Rattle.orders.specs.declared.answers.AnswerRecord.{AnswerRecord}
use Rattle.orders.specs.declared.answers.AnswerRecord.TheVariants.{Done, Refused}
use Rattle.orders.specs.Marks.{OK, NO, EN, is_mark, six, in_two, in_four, in_six}
use Rattle.orders.specs.Format.{Bytes}

-- what an order was answered: its answer, or a refusal's number
pub data Reply : Type 0 where
  answered : ℕ → Reply
  refused : ℕ → Reply

abbrev pub reply : AnswerRecord → Reply
reply (Done a) = answered a.value
reply (Refused n) = refused n

abbrev pub replied : Option AnswerRecord → Option Reply
replied (Some a) = Some (reply a)
replied None = None

-- a reply that a record can hold
abbrev pub ReplyFits : Reply → Type 0
ReplyFits (answered v) = v < 2 ^ 48
ReplyFits (refused n) = n < 256

-- the mark and the number in six bytes
abbrev pub reply_bytes : Reply → List ℕ
reply_bytes (answered v) = OK ++ in_six v
reply_bytes (refused n) = NO ++ in_six n

-- EN, two bytes for 0 or the number that stopped the play, four bytes place
abbrev pub closing_bytes : ℕ → ℕ → List ℕ
closing_bytes number place = EN ++ (in_two number ++ in_four place)

-- what eight bytes say; others say nothing
abbrev pub reply_of : List ℕ → Option Reply
reply_of bs =
    cond (length bs == 8)
    (cond (is_mark OK (slice_index bs 0) (slice_index bs 1)) (Some (answered (six (drop 2 bs))))
    (cond (is_mark NO (slice_index bs 0) (slice_index bs 1)) (cond (nat_lt (six (drop 2 bs)) 256) (Some (refused (six (drop 2 bs)))) None) None))
    None

-- a part of eight bytes, lent to be filled, holds the record then; a part of another length is refused, and stays as it was
abbrev pub Fills : {U F : Type 0} → List ℕ → Result U F → List ℕ → List ℕ → Type 0
Fills bs (Ok u) old new = (length old ≡ 8) × (new ≡ bs)
Fills bs (Err f) old new = (length old ≢ 8) × (new ≡ old)

-- the laws of these records
pub record AnswerFormat : Type 0 where
  pub eight : (a : Reply) → length (reply_bytes a) ≡ 8
  pub closing_eight : (number place : ℕ) → length (closing_bytes number place) ≡ 8
  -- bytes are read as a reply exactly when they are its record
  pub read_back : (bs : List ℕ) (a : Reply) → Bytes bs →
      (reply_of bs ≡ Some a → ReplyFits a × (bs ≡ reply_bytes a)) × (ReplyFits a × (bs ≡ reply_bytes a) → reply_of bs ≡ Some a)
  -- different replies, and different closings, have different bytes
  pub one_reply : (a b : Reply) → ReplyFits a → ReplyFits b → reply_bytes a ≡ reply_bytes b → a ≡ b
  pub one_closing : (m p n q : ℕ) → m < 2 ^ 16 → p < 2 ^ 32 → n < 2 ^ 16 → q < 2 ^ 32 → closing_bytes m p ≡ closing_bytes n q → (m ≡ n) × (p ≡ q)
  -- the closing record is no answer record
  pub apart : (a : Reply) (number place : ℕ) → reply_bytes a ≢ closing_bytes number place
