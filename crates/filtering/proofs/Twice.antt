-- Filtering twice by one rule: the supported ranks support one another, so the second time nothing goes.
use Rattle.std.proofs.Common.{◌≡◌, ℕ, zero, suc, Bool, true, false, refl, nat_eq, true≢false, ◌^◌, ◌<◌, ◌++◌, List, length, sym, ap, subst, arith}
use Rattle.std.proofs.lemmas.List.{ext_get_or}
use Rattle.std.proofs.lemmas.Bool.Decides.{Decides-eqb}
use Rattle.std.proofs.lemmas.Map.Made.{is_member-Decides}
use Rattle.std.specs.Set.{is_member}
use Rattle.domains.specs.Sets.{In}
use Rattle.domains.proofs.Ranks.{same_set, none_in_zero}
use Rattle.rules.specs.Families.{family, total}
use Rattle.rules.specs.Filtered.{Filtered}
use Rattle.rules.specs.Rules.{Rule, Names, Supported}
use Rattle.rules.proofs.Laws.{best_decides, once_per_rule}
use Rattle.filtering.specs.Again.{Sets, NothingAgain}
use Rattle.filtering.specs.Sides.{lowest, highest}
use Rattle.filtering.proofs.Best.{ends_of}
use Rattle.filtering.proofs.Verdicts.{named_below}

module _ (cs cs' cs'' : List ℕ) (q : Rule) (went again : ℕ) (s : Sets cs) (s' : Sets cs') (s'' : Sets cs'') (f : Filtered cs cs' q went) (g : Filtered cs' cs'' q again) where
  -- a cell that the rule names has a rank, and its mask is below 2^48
  some : (x : ℕ) → Names q x → (0 < family cs x) × (family cs x < 2 ^ 48)
  some x m = (has (family cs x) (f.choice.0 x) (f.choice.1 x m), s x (named_below (length cs) (q.left ++ q.right) x f.fit.below m))
    where
      has : (m r : ℕ) → In m r → 0 < m
      has zero r i = absurd (none_in_zero r i)
      has (suc m) r i = omega arith

  was : (x r : ℕ) → Names q x → Supported (family cs) q x r → In (family cs x) r
  was x r m h = subst (In (family cs x)) h.2 (h.1 x m)

  stays : (c r : ℕ) → Names q c → In (family cs' c) r → Supported (family cs') q c r
  stays =
      let lo = λ (x : ℕ). lowest (family cs x) in
      let hi = λ (x : ℕ). highest (family cs x) in
      let ends = ends_of (family cs) q some in
      once_per_rule (family cs) q lo hi ends f.fit.apart ((best_decides (family cs) q lo hi ends f.fit.apart).meets.0 f.choice)
      (family cs') (λ x r m i. let h = (f.named x r m).0 i in (was x r m h, h)) (λ x r m i h. (f.named x r m).1 h)

  named_same : (c : ℕ) → Names q c → family cs'' c ≡ family cs' c
  named_same c m =
      let n : c < length cs' = named_below (length cs') (q.left ++ q.right) c g.fit.below m in
      same_set 48 (family cs'' c) (family cs' c) (s'' c (omega (arith, n, g.count))) (s' c n)
      (λ r. (λ i. let h = (g.named c r m).0 i in subst (In (family cs' c)) h.2 (h.1 c m), λ i. (g.named c r m).1 (stays c r m i)))

  same_cell : (c : ℕ) → family cs'' c ≡ family cs' c
  same_cell c = go (is_member nat_eq (q.left ++ q.right) c) (is_member-Decides Decides-eqb (q.left ++ q.right) c)
    where
      go : (b : Bool) → (b ≡ true → Names q c) × (Names q c → b ≡ true) → family cs'' c ≡ family cs' c
      go true d = named_same c (d.0 refl)
      go false d = g.other c (λ m. true≢false (sym (d.1 m)))

  same_cells : cs'' ≡ cs'
  same_cells = ext_get_or 0 cs'' cs' g.count (λ c l. same_cell c)

  pub none_again : (again ≡ 0) × (cs'' ≡ cs')
  none_again = (omega (arith, g.fewer, ap total same_cells), same_cells)

pub nothing_again : NothingAgain
nothing_again = λ cs cs' cs'' q went again s s' s'' f g. none_again cs cs' cs'' q went again s s' s'' f g
