-- What an order says: the order without the file that it was read from.
use Rattle.std.specs.Prelude.{ℕ, List}
use Rattle.orders.specs.declared.kinds.Order.{Order}
use Rattle.orders.specs.declared.kinds.Order.TheVariants.{LayOut, Limit, Post, Open, Undo, Keep, Read}

pub data Said : Type 0 where
  lay_out : (cells width : ℕ) → Said
  limit : (cell set : ℕ) → Said
  post : (left right : List ℕ) → Said
  -- open a trial
  start : Said
  undo : (trial : ℕ) → Said
  keep : (trial : ℕ) → Said
  read : (cell : ℕ) → Said

abbrev pub said : Order → Said
said (LayOut cells width) = lay_out cells width
said (Limit cell set) = limit cell set
said (Post left right) = post left.now right.now
said Open = start
said (Undo trial) = undo trial
said (Keep trial) = keep trial
said (Read cell) = read cell
