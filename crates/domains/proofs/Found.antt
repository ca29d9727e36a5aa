-- What the methods of `Domain` compute, in the forms that `grind` applies by itself: it takes a lemma up at the first call in
-- the conclusion that shows all variables. A first part `x ≡ x` says nothing; it is that call.
use Rattle.std.proofs.Common.{◌≡◌, ℕ, ◌+◌, ◌-◌, ◌*◌, ◌/◌, ◌%◌, ◌^◌, ◌<◌, ◌≤◌, zero, suc, refl, ap, subst, ◌∙◌, arith, pow-suc, pow_mono, mod-eq_of_lt, mod-lt, zero-mul, div-mul-le_self}
use native.Mathlib.Nat.{div-eq_of_lt, mod-le}
use lib.Bits.{bit_and, and_le_l}
use lib.Count.{ones, count_trailing_zeros, count_leading_zeros, leading_top}
use Rattle.std.proofs.lemmas.Nat.{and_mask, one_shl}
use Rattle.std.proofs.lemmas.Nat.Bits.{bit_at_above}
use Rattle.domains.specs.Sets.{In, size, run, up_to, from}
use Rattle.domains.proofs.Ranks.{in_below, lowest_is, highest_is, in_and, in_ones, in_upto, in_from, run_none, run_pos, ones_size}

pub none_past : (m k : ℕ) → m < 2 ^ 48 → 48 ≤ k → m / 2 ^ k % 2 ≡ 0
none_past m k h l = bit_at_above m 48 k h l

none_is : (d : ℕ) → d < 2 → (d ≡ 1 → ⊥) → d ≡ 0
none_is zero l n = refl
none_is (suc zero) l n = absurd (n refl)
none_is (suc (suc d)) l n = absurd (omega arith)

pub lowest_in : (m : ℕ) → 0 < m → m < 2 ^ 48 → m / 2 ^ count_trailing_zeros 64 m % 2 ≡ 1
lowest_in m p h = (lowest_is 64 m p (omega arith)).0

pub lowest_rank : (m : ℕ) → 0 < m → m < 2 ^ 48 → count_trailing_zeros 64 m < 48
lowest_rank m p h = in_below 48 m (count_trailing_zeros 64 m) h (lowest_in m p h)

pub lowest_least : (m k : ℕ) → 0 < m → m < 2 ^ 48 → k < count_trailing_zeros 64 m → m / 2 ^ k % 2 ≡ 0
lowest_least m k p h l = none_is (m / 2 ^ k % 2) (mod-lt (m / 2 ^ k) {m = 2} (omega arith)) ((lowest_is 64 m p (omega arith)).1 k l)

pub ruleset lowest = (lowest_in, lowest_rank, lowest_least)

-- the zeros that begin a mask of 64 bits tell its highest rank
top : (m : ℕ) → 0 < m → m < 2 ^ 48 → (2 ^ (63 - count_leading_zeros 64 m) ≤ m) × (m < 2 ^ suc (63 - count_leading_zeros 64 m))
top m p h =
    let t = leading_top 64 m p (omega arith) in
    let e : t.0 ≡ 63 - count_leading_zeros 64 m = omega (arith, t.1) in
    subst (λ (j : ℕ). (2 ^ j ≤ m) × (m < 2 ^ suc j)) e (t.2, t.3)

pub highest_in : (m : ℕ) → 0 < m → m < 2 ^ 48 → m / 2 ^ (63 - count_leading_zeros 64 m) % 2 ≡ 1
highest_in m p h = (highest_is m (63 - count_leading_zeros 64 m) (top m p h).0 (top m p h).1).0

pub highest_most : (m k : ℕ) → 0 < m → m < 2 ^ 48 → 63 - count_leading_zeros 64 m < k → m / 2 ^ k % 2 ≡ 0
highest_most m k p h g =
    none_is (m / 2 ^ k % 2) (mod-lt (m / 2 ^ k) {m = 2} (omega arith)) ((highest_is m (63 - count_leading_zeros 64 m) (top m p h).0 (top m p h).1).1 k g)

pub highest_rank : (m : ℕ) → 0 < m → m < 2 ^ 48 → 63 - count_leading_zeros 64 m < 48
highest_rank m p h = in_below 48 m (63 - count_leading_zeros 64 m) h (highest_in m p h)

pub ruleset highest = (highest_in, highest_most, highest_rank)

pub common : (a b : ℕ) → (bit_and a b ≡ bit_and a b) × ((k : ℕ) → (In (bit_and a b) k → In a k × In b k) × (In a k → In b k → In (bit_and a b) k)) × (bit_and a b ≤ a)
common a b = (refl, in_and a b, and_le_l a b)

pub count : (m : ℕ) → m < 2 ^ 48 → ones m ≡ size m
count m h = ones_size 48 m h

pub scale_bounds : (w : ℕ) → w ≤ 48 → (2 ^ w ≡ 2 ^ w) × (w < 2 ^ w) × (2 ^ w ≤ 2 ^ 48) × (w ≡ 0 → 2 ^ w ≡ 1)
scale_bounds w h = (refl, wide w, pow_mono h, λ e. ap (λ x. 2 ^ x) e)
  where
    wide : (w : ℕ) → w < 2 ^ w
    wide zero = omega arith
    wide (suc w) = omega (arith, wide w, pow-suc 2 w)

pub scale_ranks : (w : ℕ) → (2 ^ w ≡ 2 ^ w) × ((k : ℕ) → (In (2 ^ w - 1) k → k < w) × (k < w → In (2 ^ w - 1) k))
scale_ranks w = (refl, in_ones w)

pub ruleset full = (scale_bounds, scale_ranks)

pub span : (b a : ℕ) → (run a b ≡ run a b) × (b < a → run a b ≡ 0) × (a ≤ b → 0 < run a b)
span b a = (refl, run_none a b, run_pos a b)

pub front_is : (m r : ℕ) → r < 48 → (bit_and m (1 * 2 ^ (r + 1) % 18446744073709551616 - 1) ≡ up_to m r) × ((k : ℕ) → (In (up_to m r) k → In m k × (k ≤ r)) × (In m k → k ≤ r → In (up_to m r) k)) × (up_to m r ≤ m)
front_is m r h = (ap (λ (x : ℕ). bit_and m (x - 1)) (one_shl (r + 1) 64 (omega arith)) ∙ and_mask m (r + 1), in_upto m r, mod-le m (2 ^ (r + 1)))

pub front_whole : (m r : ℕ) → m < 2 ^ 48 → 48 ≤ r → up_to m r ≡ m
front_whole m r h l =
    let o : 48 ≤ r + 1 = omega arith in
    let p : 2 ^ 48 ≤ 2 ^ (r + 1) = pow_mono o in
    let q : m < 2 ^ (r + 1) = omega (arith, p) in
    mod-eq_of_lt q

pub ruleset front = (front_is, front_whole, none_past)

pub rear_is : (m r : ℕ) → m < 2 ^ 48 → (m / 2 ^ r * 2 ^ r % 18446744073709551616 ≡ from m r) × ((k : ℕ) → (In (from m r) k → In m k × (r ≤ k)) × (In m k → r ≤ k → In (from m r) k)) × (from m r ≤ m)
rear_is m r h =
    let l : m / 2 ^ r * 2 ^ r < 18446744073709551616 = omega (arith, div-mul-le_self m (2 ^ r)) in
    (mod-eq_of_lt l, in_from m r, div-mul-le_self m (2 ^ r))

pub rear_none : (m r : ℕ) → m < 2 ^ 48 → 48 ≤ r → from m r ≡ 0
rear_none m r h l =
    let p : 2 ^ 48 ≤ 2 ^ r = pow_mono l in
    let q : m < 2 ^ r = omega (arith, p) in
    ap (λ (x : ℕ). x * 2 ^ r) (div-eq_of_lt q) ∙ zero-mul (2 ^ r)

pub ruleset rear = (rear_is, rear_none, none_past)
