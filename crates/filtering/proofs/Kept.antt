-- What the bounds leave of a set: a part of it that has a rank.
use Rattle.std.proofs.Common.{◌≡◌, ℕ, zero, suc, ◌/◌, ◌%◌, ◌^◌, ◌<◌, ◌≤◌, arith}
use Rattle.std.proofs.lemmas.Nat.Bits.{bit_at-lt}
use Rattle.domains.specs.Sets.{In, size, size_below}
use Rattle.domains.proofs.Ranks.{in_upto, in_from, some_in}
use Rattle.marking.specs.Bounds.{left_most, right_least}
use Rattle.marking.specs.declared.bounds.Bounds.{Bounds}
use Rattle.marking.proofs.Bounding.{left_keeps, right_keeps}
use Rattle.filtering.specs.Bounded.{kept}
use Rattle.filtering.specs.Sides.{lowest, highest}
use Rattle.filtering.specs.declared.sides.Side.{Side}
use Rattle.filtering.specs.declared.sides.Side.TheVariants.{Left, Right}
use Rattle.filtering.proofs.Best.{lowest_in, highest_in}

-- no bound takes the best rank
pub kept_some : (side : Side) (b : Bounds) (m : ℕ) → 0 < m → m < 2 ^ 48 → 0 < kept side b m
kept_some Left b m p h =
    some_in (kept Left b m) (lowest m) ((in_upto m (left_most b.marks.alpha b.floor (lowest m)) (lowest m)).1 (lowest_in m p h) (left_keeps b.marks.alpha b.floor (lowest m)))
kept_some Right b m p h =
    some_in (kept Right b m) (highest m) ((in_from m (right_least b.marks.alpha b.floor (highest m)) (highest m)).1 (highest_in m p h) (right_keeps b.marks.alpha b.floor (highest m)))

kept_in : (side : Side) (b : Bounds) (m r : ℕ) → In (kept side b m) r → In m r
kept_in Left b m r i = ((in_upto m (left_most b.marks.alpha b.floor (lowest m)) r).0 i).0
kept_in Right b m r i = ((in_from m (right_least b.marks.alpha b.floor (highest m)) r).0 i).0

digit_part : (x y : ℕ) → x < 2 → y < 2 → (x ≡ 1 → y ≡ 1) → x ≤ y
digit_part x y p q f = grind arith

-- a part has no more ranks
size_part : (k a b : ℕ) → ((r : ℕ) → In a r → In b r) → size_below a k ≤ size_below b k
size_part zero a b f = omega arith
size_part (suc k) a b f = omega (arith, size_part k a b f, digit_part (a / 2 ^ k % 2) (b / 2 ^ k % 2) (bit_at-lt a k) (bit_at-lt b k) (f k))

pub kept_fewer : (side : Side) (b : Bounds) (m : ℕ) → size (kept side b m) ≤ size m
kept_fewer side b m = size_part 48 (kept side b m) m (kept_in side b m)

pub size_le : (k m : ℕ) → size_below m k ≤ k
size_le zero m = omega arith
size_le (suc k) m = omega (arith, size_le k m, bit_at-lt m k)
