-- The order of each kind of grade.
use Rattle.std.specs.Prelude.{ℕ}
use Rattle.std.proofs.Common.{ap}
use Rattle.std.specs.Cmp.{on_total, int_cmp_total, signed_Decides}
use Rattle.std.specs.declared.cmp.Ordering.{Ordering}
use Rattle.std.specs.Ordering.{is_eq, nat_cmp, int_cmp, on, flip_args, then_cmp}
use Rattle.loads.specs.declared.kinds.Points.{Points}
use Rattle.loads.specs.declared.kinds.Hand.{Hand}
use Rattle.loads.specs.Grades.{Order, order_of}

-- ranks, the places of the grades on a scale: a kind of the specifications alone
abbrev pub by_rank : ℕ → ℕ → Ordering
by_rank = nat_cmp

abbrev pub by_points : Points → Points → Ordering
by_points x y = int_cmp x.score y.score

-- by the class, and within a class by the year, the later the lower
abbrev pub by_hand : Hand → Hand → Ordering
by_hand = then_cmp (on (λ h. h.class) by_rank) (flip_args (on (λ h. h.year) by_rank))

pub points_order : Order by_points
points_order = order_of (on_total (λ p. p.score) int_cmp_total) (λ x y e. ap (λ s. record { score = s }) ((signed_Decides x.score y.score).0 (ap is_eq e)))
