-- The laws of `In`, all of them.
use Rattle.std.proofs.Common.{◌≡◌, ℕ, zero, suc, refl, pow-suc, ◌+◌, ◌-◌, ◌*◌, ◌/◌, ◌%◌, ◌^◌, ◌<◌, ◌≤◌, ◌⊎◌, sym, ap, ◌∙◌, subst, ⊎_elim, inl, inr, mod-lt, suc-mul, zero-mul, div-add-mod', div-mul-le_self, add-one, one-add, arith, pow_pos, pow_mono, shr-shr, shr_lt}
use native.Mathlib.Nat.{div-eq_of_lt, div-eq_of_lt-le}
use lib.Bits.{bit_and}
use lib.Count.{ones, ones_step, ones-le, count_trailing_zeros, under}
use lib.Pow.{ones_lt}
use Rattle.std.proofs.lemmas.Bool.{cases_lt, cases_order}
use Rattle.std.proofs.lemmas.Nat.Bits.{bit_at-zero, bit_at_and, bit_at_ones, bit_at-lt, same_from_bits_below, bit_at_above, bit_at_cat_low, bit_at_cat_high}
use Rattle.domains.specs.Sets.{In, up_to, from, run, Gapless, size_below}

-- nothing at or above the width
pub none_above : (w m k : ℕ) → m < 2 ^ w → w ≤ k → In m k → ⊥
none_above w m k h l i = omega (arith, i, bit_at_above m w k h l)

pub in_below : (w m k : ℕ) → m < 2 ^ w → In m k → k < w
in_below w m k h i = elim (cases_lt k w) [ inl l ↦ l | inr l ↦ absurd (none_above w m k h l i) ]

-- of the half of a number
pub half_div : (m r : ℕ) → m / 2 / 2 ^ r ≡ m / 2 ^ suc r
half_div m r = shr-shr m 1 r ∙ ap (λ k. m / 2 ^ k) (one-add r)

pub in_half : (m r : ℕ) → In (m / 2) r → In m (suc r)
in_half m r h = subst (λ (x : ℕ). x % 2 ≡ 1) (half_div m r) h

pub half_in : (m r : ℕ) → In m (suc r) → In (m / 2) r
half_in m r h = subst (λ (x : ℕ). x % 2 ≡ 1) (sym (half_div m r)) h

half_below : (k n : ℕ) → n < 2 ^ suc k → n / 2 < 2 ^ k
half_below k n h = shr_lt k 1 (subst (λ (x : ℕ). n < 2 ^ x) (sym (add-one k)) h)

-- the count of the zeros below is the lowest rank
pub lowest_is : (k n : ℕ) → 0 < n → n < 2 ^ k → In n (count_trailing_zeros k n) × ((j : ℕ) → j < count_trailing_zeros k n → In n j → ⊥)
unfolding count_trailing_zeros
lowest_is zero n p h = absurd (omega arith)
lowest_is (suc k) n p h = go (n % 2) refl (λ q. lowest_is k (n / 2) q (half_below k n h))
  where
    go : (d : ℕ) → n % 2 ≡ d → (0 < n / 2 → In (n / 2) (count_trailing_zeros k (n / 2)) × ((j : ℕ) → j < count_trailing_zeros k (n / 2) → In (n / 2) j → ⊥))
        → In n (under d (count_trailing_zeros k (n / 2))) × ((j : ℕ) → j < under d (count_trailing_zeros k (n / 2)) → In n j → ⊥)
    go zero e rest =
        let q : 0 < n / 2 = omega arith in
        let ih = rest q in
        (in_half n _ ih.0, λ j. below j ih)
      where
        below : (j : ℕ) → (In (n / 2) (count_trailing_zeros k (n / 2)) × ((j : ℕ) → j < count_trailing_zeros k (n / 2) → In (n / 2) j → ⊥)) → j < suc (count_trailing_zeros k (n / 2)) → In n j → ⊥
        below zero ih l i = omega (arith, i)
        below (suc j) ih l i = ih.1 j (omega arith) (half_in n j i)
    go (suc d) e rest = (omega (arith, mod-lt n {m = 2} (omega arith)), λ j l i. omega arith)

-- the highest rank
pub highest_is : (n j : ℕ) → 2 ^ j ≤ n → n < 2 ^ suc j → In n j × ((k : ℕ) → j < k → In n k → ⊥)
highest_is n j l h =
    let e : n / 2 ^ j ≡ 1 = div-eq_of_lt-le (2 ^ j) (omega arith) (omega (arith, pow-suc 2 j)) in
    (omega (arith, e), λ k g i. none_above (suc j) n k h g i)

-- a part that is 0 has nothing in it
pub none_in_zero : (k : ℕ) → In 0 k → ⊥
none_in_zero k i = none_above 0 0 k (omega arith) (omega arith) i

-- the parts
pub in_upto : (m r k : ℕ) → (In (up_to m r) k → In m k × (k ≤ r)) × (In m k → k ≤ r → In (up_to m r) k)
in_upto m r k = go (cases_lt r k)
  where
    same : k < r + 1 → m / 2 ^ k % 2 ≡ up_to m r / 2 ^ k % 2
    same h = ap (λ x. x / 2 ^ k % 2) (sym (div-add-mod' m (2 ^ (r + 1)))) ∙ bit_at_cat_low (m / 2 ^ (r + 1)) (r + 1) (up_to m r) k h

    go : (r < k) ⊎ (k ≤ r) → (In (up_to m r) k → In m k × (k ≤ r)) × (In m k → k ≤ r → In (up_to m r) k)
    go (inl l) = (
      λ i. absurd (none_above (r + 1) (up_to m r) k (mod-lt m (pow_pos (r + 1))) (omega arith) i),
      λ _ g. absurd (omega arith),
    )
    go (inr l) = let e = same (omega arith) in (λ i. (e ∙ i, l), λ i _. sym e ∙ i)

pub in_from : (m r k : ℕ) → (In (from m r) k → In m k × (r ≤ k)) × (In m k → r ≤ k → In (from m r) k)
in_from m r k = go (cases_lt k r)
  where
    ends : from m r ≡ from m r + 0
    ends = omega arith

    gone : k < r → from m r / 2 ^ k % 2 ≡ 0
    gone l = ap (λ x. x / 2 ^ k % 2) ends ∙ bit_at_cat_low (m / 2 ^ r) r 0 k l ∙ bit_at-zero k

    same : (j : ℕ) → k ≡ r + j → r ≤ k → from m r / 2 ^ k % 2 ≡ m / 2 ^ k % 2
    same j e l =
        let d : k - r ≡ j = omega arith in
        ap (λ x. x / 2 ^ k % 2) ends ∙ bit_at_cat_high (m / 2 ^ r) r 0 k (pow_pos r) l ∙ ap (λ x. m / 2 ^ r / 2 ^ x % 2) d ∙ ap (λ x. x % 2) (shr-shr m r j) ∙ ap (λ x. m / 2 ^ x % 2) (sym e)

    go : (k < r) ⊎ (r ≤ k) → (In (from m r) k → In m k × (r ≤ k)) × (In m k → r ≤ k → In (from m r) k)
    go (inl l) = (λ i. absurd (omega (arith, i, gone l)), λ _ g. absurd (omega arith))
    go (inr l) = let e = same (k - r) (omega arith) l in (λ i. (sym e ∙ i, l), λ i _. e ∙ i)

-- two numbers with the same ranks are equal
pub same_set : (w m n : ℕ) → m < 2 ^ w → n < 2 ^ w → ((k : ℕ) → (In m k → In n k) × (In n k → In m k)) → m ≡ n
same_set w m n h l f = same_from_bits_below w m n h l (λ k _. same (m / 2 ^ k % 2) (n / 2 ^ k % 2) (bit_at-lt m k) (bit_at-lt n k) (f k).0 (f k).1)
  where
    same : (a b : ℕ) → a < 2 → b < 2 → (a ≡ 1 → b ≡ 1) → (b ≡ 1 → a ≡ 1) → a ≡ b
    same a b p q f g = grind arith

-- a mask shifted past a width is 0 exactly where all its ranks are below the width
pub past_scale : (m d : ℕ) → 0 < m / 2 ^ d → 2 ^ d ≤ m
past_scale m d h = ⊎_elim (λ l. absurd (omega (arith, h, div-eq_of_lt l))) (λ l. l) (cases_lt m (2 ^ d))

pub below_scale : (m d : ℕ) → m / 2 ^ d ≤ 0 → m < 2 ^ d
below_scale m d h =
    let z : m / 2 ^ d ≡ 0 = omega arith in
    omega (arith, div-add-mod' m (2 ^ d), ap (λ x. x * 2 ^ d) z ∙ zero-mul (2 ^ d), mod-lt m (pow_pos d))

-- a set with a rank from d on is not below 2 ^ d, and one without is
pub rank_past : (m d r : ℕ) → In m r → d ≤ r → 2 ^ d ≤ m
rank_past m d r i l = ⊎_elim (λ h. absurd (none_above d m r h l i)) (λ h. h) (cases_lt m (2 ^ d))

pub ranks_below : (m d : ℕ) → m < 2 ^ 48 → ((k : ℕ) → d ≤ k → In m k → ⊥) → m < 2 ^ d
ranks_below m d h none = below_scale m d (low (m / 2 ^ d) refl)
  where
    empty : from m d ≡ 0
    empty =
        same_set 48 (from m d) 0 (omega (arith, div-mul-le_self m (2 ^ d))) (omega arith)
        (λ k. (λ i. absurd (none k ((in_from m d k).0 i).1 ((in_from m d k).0 i).0), λ i. absurd (none_in_zero k i)))

    low : (q : ℕ) → m / 2 ^ d ≡ q → m / 2 ^ d ≤ 0
    low zero e = omega (arith, e)
    low (suc q) e =
        let z : suc q * 2 ^ d ≡ 0 = ap (λ x. x * 2 ^ d) (sym e) ∙ empty in
        absurd (omega (arith, z, suc-mul q (2 ^ d), pow_pos d))

-- all the ranks below j
pub in_ones : (j k : ℕ) → (In (2 ^ j - 1) k → k < j) × (k < j → In (2 ^ j - 1) k)
in_ones j k = (in_below j (2 ^ j - 1) k (ones_lt j), bit_at_ones j k)

pub in_run : (a b k : ℕ) → (In (run a b) k → (a ≤ k) × (k ≤ b)) × (a ≤ k → k ≤ b → In (run a b) k)
in_run a b k =
    let f = in_from (2 ^ (b + 1) - 1) a k in
    let o = in_ones (b + 1) k in
    (λ i. ((f.0 i).1, omega (arith, o.0 (f.0 i).0)), λ l h. f.1 (o.1 (omega arith)) l)

pub run_lt : (a b : ℕ) → run a b < 2 ^ (b + 1)
run_lt a b = omega (arith, div-mul-le_self (2 ^ (b + 1) - 1) (2 ^ a), ones_lt (b + 1))

pub run_none : (a b : ℕ) → b < a → run a b ≡ 0
run_none a b h =
    same_set (b + 1) (run a b) 0 (run_lt a b) (pow_pos (b + 1))
    (λ k. (λ i. absurd (omega (arith, (in_run a b k).0 i)), λ i. absurd (none_in_zero k i)))

pub some_in : (m k : ℕ) → In m k → 0 < m
some_in zero k i = absurd (none_in_zero k i)
some_in (suc m) k i = omega arith

pub run_pos : (a b : ℕ) → a ≤ b → 0 < run a b
run_pos a b h = some_in (run a b) a ((in_run a b a).1 (omega arith) h)

pub run_below : (a b d : ℕ) → b < d → run a b < 2 ^ d
run_below a b d h = let p : 2 ^ (b + 1) ≤ 2 ^ d = pow_mono (omega (arith, h)) in omega (arith, run_lt a b)

pub run_gapless : (a b : ℕ) → Gapless (run a b)
run_gapless a b i j k p q s t = (in_run a b j).1 (omega (arith, (in_run a b i).0 s)) (omega (arith, (in_run a b k).0 t))

-- a set without gaps is the run from its lowest rank to its highest
pub gapless_run : (w m a b : ℕ) → m < 2 ^ w → In m a → ((k : ℕ) → k < a → In m k → ⊥) → In m b → ((k : ℕ) → b < k → In m k → ⊥) → Gapless m → run a b ≡ m
gapless_run w m a b h ia least ib most g =
    same_set w (run a b) m (run_below a b w (in_below w m b h ib)) h (λ k. (λ i. to k ((in_run a b k).0 i), λ i. (in_run a b k).1 (over k i) (under_high k i)))
  where
    over : (k : ℕ) → In m k → a ≤ k
    over k i = elim (cases_lt k a) [ inl l ↦ absurd (least k l i) | inr l ↦ l ]

    under_high : (k : ℕ) → In m k → k ≤ b
    under_high k i = elim (cases_lt b k) [ inl l ↦ absurd (most k l i) | inr l ↦ l ]

    to : (k : ℕ) → (a ≤ k) × (k ≤ b) → In m k
    to k l = elim (cases_order a k) [
      | inl e ↦ subst (In m) e ia
      | inr (inr x) ↦ absurd (omega arith)
      | inr (inl x) ↦ elim (cases_order k b) [ inl e ↦ subst (In m) (sym e) ib | inr (inr y) ↦ absurd (omega arith) | inr (inl y) ↦ g a k b x y ia ib ]
    ]

-- the common part
pub in_and : (a b k : ℕ) → (In (bit_and a b) k → In a k × In b k) × (In a k → In b k → In (bit_and a b) k)
in_and a b k =
    let e = bit_at_and a b k in
    let p = bit_at-lt a k in
    let q = bit_at-lt b k in
    (λ i. (omega (arith, e), omega (arith, e)), λ i j. omega (arith, e))

-- how many ranks
div_one : (m : ℕ) → m / 2 ^ 0 ≡ m
div_one m = omega arith

size_low : (m k : ℕ) → size_below m (suc k) ≡ m % 2 + size_below (m / 2) k
size_low m zero = omega (arith, div_one m)
size_low m (suc k) = omega (arith, half_div m k, size_low m k, ap (λ x. x % 2) (half_div m k))

pub ones_size : (k m : ℕ) → m < 2 ^ k → ones m ≡ size_below m k
ones_size zero m h = let z : m ≡ 0 = omega arith in rw z (omega (arith, ones-le 0 0 (omega arith)))
ones_size (suc k) m h = ones_step m ∙ ap (λ n. m % 2 + n) (ones_size k (m / 2) (half_below k m h)) ∙ sym (size_low m k)
