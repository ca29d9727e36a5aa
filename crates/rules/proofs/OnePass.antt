-- One pass of the filter over a rule: what it takes away is a side of each set, and what it leaves stands.
use Rattle.std.proofs.Common.{◌≡◌, ℕ, ◌≤◌, ◌⊎◌, ◌++◌, map, inl, inr, arith}
use Rattle.domains.specs.Sets.{In}
use Rattle.loads.specs.Kinds.{by_rank}
use Rattle.loads.specs.Loads.{NotHeavier}
use Rattle.rules.specs.Ends.{Ends, but}
use Rattle.rules.specs.Rows.{Apart}
use Rattle.rules.specs.Rules.{Rule, Names, Supported}
use Rattle.std.specs.List.{Contains}
use Rattle.std.proofs.lemmas.List.Elements.{Contains-append_left, Contains-append_right, Contains-append_cases}
use Rattle.rules.proofs.Best.{not_heavier_mono, left_needs, left_suffices, right_needs, right_suffices}
use Rattle.std.proofs.lemmas.Bool.Decides.{nat_tests}

but_mono : (f : ℕ → ℕ) (c r s x : ℕ) → r ≤ s → but f c r x ≤ but f c s x
but_mono f c r s x l = grind (arith, nat_tests)

but_own : (f : ℕ → ℕ) (c x : ℕ) → but f c (f c) x ≡ f x
but_own f c x = grind (arith, nat_tests)

-- a choice from a smaller family is one from a larger
pub supported_mono : (F G : ℕ → ℕ) (q : Rule) → ((x r : ℕ) → Names q x → In (G x) r → In (F x) r) → (c r : ℕ) → Supported G q c r → Supported F q c r
supported_mono F G q sub c r s = (s.0, λ x n. sub x (s.0 x) n (s.1 x n), s.2, s.3)

module _ (F : ℕ → ℕ) (q : Rule) (lo hi : ℕ → ℕ) (ends : Ends F q lo hi) (far : Apart (q.left ++ q.right)) where
  -- on the left the supported ranks of a cell are its lower ones, on the right its higher ones
  pub left_down : (c r s : ℕ) → Contains q.left c → Supported F q c s → r ≤ s → In (F c) r → Supported F q c r
  left_down c r s m p l i =
      left_suffices F q lo hi ends c r far m i
      (not_heavier_mono q.left q.right (but lo c s) (but lo c r) hi hi (λ x _. but_mono lo c r s x l) (λ x _. omega arith) (left_needs F q lo hi ends c s m p).1)

  pub right_up : (c r s : ℕ) → Contains q.right c → Supported F q c s → s ≤ r → In (F c) r → Supported F q c r
  right_up c r s m p l i =
      right_suffices F q lo hi ends c r far m i
      (not_heavier_mono q.left q.right lo lo (but hi c s) (but hi c r) (λ x _. omega arith) (λ x _. but_mono hi c s r x l) (right_needs F q lo hi ends c s m p).1)

  module _ (meets : NotHeavier by_rank (map lo q.left) (map hi q.right)) where
    -- where a choice meets the rule, the lowest rank of a left cell and the highest of a right one are supported
    pub lowest_left : (c : ℕ) → Contains q.left c → Supported F q c (lo c)
    lowest_left c m =
        left_suffices F q lo hi ends c (lo c) far m (ends.low c m)
        (not_heavier_mono q.left q.right lo (but lo c (lo c)) hi hi (λ x _. omega (arith, but_own lo c x)) (λ x _. omega arith) meets)

    pub highest_right : (c : ℕ) → Contains q.right c → Supported F q c (hi c)
    highest_right c m =
        right_suffices F q lo hi ends c (hi c) far m (ends.high c m)
        (not_heavier_mono q.left q.right lo lo hi (but hi c (hi c)) (λ x _. omega arith) (λ x _. omega (arith, but_own hi c x)) meets)

    -- the family G that keeps of each cell just the supported ranks has the same ends, and all of its ranks are supported by itself: one pass is enough
    module _ (G : ℕ → ℕ) (only : (x r : ℕ) → Names q x → In (G x) r → In (F x) r × Supported F q x r) (all : (x r : ℕ) → Names q x → In (F x) r → Supported F q x r → In (G x) r) where
      pub ends_stay : Ends G q lo hi
      ends_stay = record {
        low = λ x m. all x (lo x) (Contains-append_left q.left q.right x m) (ends.low x m) (lowest_left x m);
        high = λ x m. all x (hi x) (Contains-append_right q.left q.right x m) (ends.high x m) (highest_right x m);
        least = λ x r m i. ends.least x r m (only x r (Contains-append_left q.left q.right x m) i).0;
        most = λ x r m i. ends.most x r m (only x r (Contains-append_right q.left q.right x m) i).0;
      }

      pub stands : (c r : ℕ) → Names q c → In (G c) r → Supported G q c r
      stands c r n i = go (Contains-append_cases q.left q.right c n)
        where
          go : Contains q.left c ⊎ Contains q.right c → Supported G q c r
          go (inl m) = left_suffices G q lo hi ends_stay c r far m i (left_needs F q lo hi ends c r m (only c r n i).1).1
          go (inr m) = right_suffices G q lo hi ends_stay c r far m i (right_needs F q lo hi ends c r m (only c r n i).1).1
