-- The lowest and the highest rank of a set, and the ends of a family.
use Rattle.std.proofs.Common.{◌≡◌, ℕ, ◌/◌, ◌%◌, ◌^◌, ◌<◌, ◌≤◌, inl, inr, refl, arith}
use Rattle.std.proofs.lemmas.Bool.{cases_lt}
use Rattle.std.proofs.lemmas.List.Elements.{Contains-append_left, Contains-append_right}
use Rattle.domains.specs.Sets.{In, NoRank}
use Rattle.domains.proofs.Found as found
use Rattle.rules.specs.Ends.{Ends}
use Rattle.rules.specs.Rules.{Rule, Names}
use Rattle.filtering.specs.Sides.{lowest, highest}

pub lowest_in : (m : ℕ) → 0 < m → m < 2 ^ 48 → In m (lowest m)
unfolding lowest
lowest_in m p h = found.lowest_in m p h

pub lowest_least : (m r : ℕ) → 0 < m → m < 2 ^ 48 → In m r → lowest m ≤ r
unfolding lowest
lowest_least m r p h i = elim (cases_lt r (lowest m)) [ inl l ↦ absurd (omega (arith, i, found.lowest_least m r p h l)) | inr l ↦ l ]

pub highest_in : (m : ℕ) → 0 < m → m < 2 ^ 48 → In m (highest m)
unfolding highest
highest_in m p h = found.highest_in m p h

pub highest_most : (m r : ℕ) → 0 < m → m < 2 ^ 48 → In m r → r ≤ highest m
unfolding highest
highest_most m r p h i = elim (cases_lt (highest m) r) [ inl l ↦ absurd (omega (arith, i, found.highest_most m r p h l)) | inr l ↦ l ]

-- no other rank is the lowest, or the highest
lowest_is : (m r : ℕ) → 0 < m → m < 2 ^ 48 → In m r → NoRank (λ k. (k < r) × In m k) → r ≡ lowest m
lowest_is m r p h i n = elim (cases_lt (lowest m) r) [ inl l ↦ absurd (n (lowest m) (l, lowest_in m p h)) | inr l ↦ omega (arith, l, lowest_least m r p h i) ]

highest_is : (m r : ℕ) → 0 < m → m < 2 ^ 48 → In m r → NoRank (λ k. (r < k) × In m k) → r ≡ highest m
highest_is m r p h i n = elim (cases_lt r (highest m)) [ inl l ↦ absurd (n (highest m) (l, highest_in m p h)) | inr l ↦ omega (arith, l, highest_most m r p h i) ]

-- the same, as `grind` applies it: the first part is the call that it looks for
pub lowest_found : (m r : ℕ) → 0 < m → m < 2 ^ 48 → In m r → NoRank (λ k. (k < r) × In m k) → (m / 2 ^ r % 2 ≡ m / 2 ^ r % 2) × (r ≡ lowest m)
lowest_found m r p h i n = (refl, lowest_is m r p h i n)

pub highest_found : (m r : ℕ) → 0 < m → m < 2 ^ 48 → In m r → NoRank (λ k. (r < k) × In m k) → (m / 2 ^ r % 2 ≡ m / 2 ^ r % 2) × (r ≡ highest m)
highest_found m r p h i n = (refl, highest_is m r p h i n)

-- the best ranks of a family of sets
pub ends_of : (F : ℕ → ℕ) (q : Rule) → ((x : ℕ) → Names q x → (0 < F x) × (F x < 2 ^ 48)) → Ends F q (λ x. lowest (F x)) (λ x. highest (F x))
ends_of F q f = record {
  low = λ x m. let s = f x (Contains-append_left q.left q.right x m) in lowest_in (F x) s.0 s.1;
  high = λ x m. let s = f x (Contains-append_right q.left q.right x m) in highest_in (F x) s.0 s.1;
  least = λ x r m i. let s = f x (Contains-append_left q.left q.right x m) in lowest_least (F x) r s.0 s.1 i;
  most = λ x r m i. let s = f x (Contains-append_right q.left q.right x m) in highest_most (F x) r s.0 s.1 i;
}
