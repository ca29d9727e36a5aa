-- Grades in total order.
use Rattle.std.specs.Prelude.{◌≡◌}
use Rattle.std.specs.declared.cmp.Ordering.{Ordering}
use Rattle.std.specs.declared.cmp.Ordering.TheVariants.{Less, Equal as Same}
use Rattle.std.specs.Cmp.{IsTotalOrder, tied_itself}
use Rattle.std.specs.Ordering.{ordering_reverse}

-- The laws of a kind, which make its order total: "same" holds exactly for equal grades, exchanging the two exchanges
-- lower and higher, and lower than lower is lower.
pub record Order {G : Type 0} (cmp : G → G → Ordering) : Type 0 where
  pub same : (x : G) → cmp x x ≡ Same
  pub equal : (x y : G) → cmp x y ≡ Same → x ≡ y
  pub exchange : (x y : G) → cmp y x ≡ ordering_reverse (cmp x y)
  pub lower : (x y z : G) → cmp x y ≡ Less → cmp y z ≡ Less → cmp x z ≡ Less

-- std's laws of an order, and that grades which it does not tell apart are the same
pub order_of : {G : Type 0} {cmp : G → G → Ordering} → IsTotalOrder cmp → ((x y : G) → cmp x y ≡ Same → x ≡ y) → Order cmp
order_of {cmp = cmp} total equal = record {
  same = tied_itself total;
  equal = equal;
  exchange = λ x y. total.antisymm y x;
  lower = total.trans;
}
