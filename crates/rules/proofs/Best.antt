-- The best choice decides: the lowest ranks on the left and the highest on the right, but for the cell asked.
use Rattle.std.proofs.Common.{◌≡◌, ℕ, ◌≤◌, ◌⊎◌, List, ◌++◌, map, sym, refl, ap, ◌∙◌, subst, subst₂, inl, inr, arith}
use Rattle.domains.specs.Sets.{In}
use Rattle.loads.specs.Kinds.{by_rank}
use Rattle.loads.specs.Loads.{NotHeavier}
use Rattle.loads.proofs.FromTop.{rank_order}
use Rattle.loads.proofs.Weights as weights
use Rattle.rules.specs.Ends.{Ends, but}
use Rattle.rules.specs.Rows.{Apart}
use Rattle.rules.specs.Rules.{Rule, Chosen, Meets, Supported}
use Rattle.rules.proofs.Places.{apart_rows, but_here, but_there, map_same, map_mono}
use Rattle.std.proofs.lemmas.Bool.{cases_eq, cond-true, cond-false, false_from_ne_true}
use Rattle.std.proofs.lemmas.Bool.Decides.{Decides-eqb}
use Rattle.std.proofs.lemmas.List.Elements.{Contains-append_left, Contains-append_right, Contains-append_cases}
use Rattle.std.proofs.lemmas.Map.Made.{is_member-Decides}
use Rattle.std.specs.List.{Contains}
use Rattle.std.specs.Prelude.{nat_eq, if◌then◌else◌}
use Rattle.std.specs.Set.{is_member}

not_heavier_trans : (xs ys zs : List ℕ) → NotHeavier by_rank xs ys → NotHeavier by_rank ys zs → NotHeavier by_rank xs zs
not_heavier_trans xs ys zs = weights.not_heavier_trans by_rank rank_order xs ys zs

-- lower on the left and higher on the right keeps a rule met
pub not_heavier_mono : (ls rs : List ℕ) (f f' g g' : ℕ → ℕ) → ((x : ℕ) → Contains ls x → f' x ≤ f x) → ((x : ℕ) → Contains rs x → g x ≤ g' x) → NotHeavier by_rank (map f ls) (map g rs) → NotHeavier by_rank (map f' ls) (map g' rs)
not_heavier_mono ls rs f f' g g' l r m =
    not_heavier_trans (map f' ls) (map f ls) (map g' rs) (map_mono ls f' f l)
    (not_heavier_trans (map f ls) (map g rs) (map g' rs) m (map_mono rs g g' r))

-- f on the left row and g elsewhere
abbrev pub either : List ℕ → (ℕ → ℕ) → (ℕ → ℕ) → ℕ → ℕ
either ls f g x = if is_member nat_eq ls x then f x else g x

either_left : (ls : List ℕ) (f g : ℕ → ℕ) (x : ℕ) → Contains ls x → either ls f g x ≡ f x
either_left ls f g x m = cond-true (is_member nat_eq ls x) (f x) (g x) ((is_member-Decides Decides-eqb ls x).1 m)

either_right : (ls rs : List ℕ) (f g : ℕ → ℕ) (x : ℕ) → Apart (ls ++ rs) → Contains rs x → either ls f g x ≡ g x
either_right ls rs f g x far m = cond-false (is_member nat_eq ls x) (f x) (g x) (false_from_ne_true (is_member nat_eq ls x) (λ t. apart_rows ls rs x far ((is_member-Decides Decides-eqb ls x).0 t) m))

but_in : (F f : ℕ → ℕ) (c r x : ℕ) → In (F x) (f x) → In (F c) r → In (F x) (but f c r x)
but_in F f c r x i j = go (cases_eq x c)
  where
    go : (x ≡ c) ⊎ (x ≡ c → ⊥) → In (F x) (but f c r x)
    go (inl e) = subst (λ (y : ℕ). In (F x) y) (sym (but_here f c r x e)) (subst (λ (y : ℕ). In (F y) r) (sym e) j)
    go (inr n) = subst (λ (y : ℕ). In (F x) y) (sym (but_there f c r x n)) i

either_meets : (q : Rule) (f g : ℕ → ℕ) → Apart (q.left ++ q.right) → NotHeavier by_rank (map f q.left) (map g q.right) → Meets q (either q.left f g)
either_meets q f g far m =
    subst₂ (NotHeavier by_rank)
    (map_same q.left f (either q.left f g) (λ x h. sym (either_left q.left f g x h)))
    (map_same q.right g (either q.left f g) (λ x h. sym (either_right q.left q.right f g x far h)))
    m

either_chosen : (F : ℕ → ℕ) (q : Rule) (f g : ℕ → ℕ) → Apart (q.left ++ q.right) → ((x : ℕ) → Contains q.left x → In (F x) (f x)) → ((x : ℕ) → Contains q.right x → In (F x) (g x)) → Chosen F q (either q.left f g)
either_chosen F q f g far i j x n = go (Contains-append_cases q.left q.right x n)
  where
    go : Contains q.left x ⊎ Contains q.right x → In (F x) (either q.left f g x)
    go (inl m) = subst (λ (y : ℕ). In (F x) y) (sym (either_left q.left f g x m)) (i x m)
    go (inr m) = subst (λ (y : ℕ). In (F x) y) (sym (either_right q.left q.right f g x far m)) (j x m)

module _ (F : ℕ → ℕ) (q : Rule) (lo hi : ℕ → ℕ) (ends : Ends F q lo hi) where
  -- a choice that meets the rule exists exactly when the best one meets it
  pub meets_needs : (ch : ℕ → ℕ) → Chosen F q ch → Meets q ch → NotHeavier by_rank (map lo q.left) (map hi q.right)
  meets_needs ch chosen m =
      not_heavier_mono q.left q.right ch lo ch hi
      (λ x h. let n = Contains-append_left q.left q.right x h in ends.least x (ch x) h (chosen x n))
      (λ x h. let n = Contains-append_right q.left q.right x h in ends.most x (ch x) h (chosen x n))
      m

  pub meets_suffices : Apart (q.left ++ q.right) → NotHeavier by_rank (map lo q.left) (map hi q.right) → (ch : ℕ → ℕ) × Chosen F q ch × Meets q ch
  meets_suffices far m =
      (either q.left lo hi, either_chosen F q lo hi far ends.low ends.high, either_meets q lo hi far m)

  -- a rank at a cell of the left row
  pub left_needs : (c r : ℕ) → Contains q.left c → Supported F q c r → In (F c) r × NotHeavier by_rank (map (but lo c r) q.left) (map hi q.right)
  left_needs c r m s = (
    subst (λ (y : ℕ). In (F c) y) s.2 (s.1 c (Contains-append_left q.left q.right c m)),
    not_heavier_mono q.left q.right s.0 (but lo c r) s.0 hi
        (λ x h. go x h (cases_eq x c))
        (λ x h. let n = Contains-append_right q.left q.right x h in ends.most x (s.0 x) h (s.1 x n))
        s.3,
  )
    where
      go : (x : ℕ) → Contains q.left x → (x ≡ c) ⊎ (x ≡ c → ⊥) → but lo c r x ≤ s.0 x
      go x h (inl e) = omega (arith, but_here lo c r x e, s.2, ap s.0 e)
      go x h (inr n) =
          let k = Contains-append_left q.left q.right x h in
          omega (arith, but_there lo c r x n, ends.least x (s.0 x) h (s.1 x k))

  pub left_suffices : (c r : ℕ) → Apart (q.left ++ q.right) → Contains q.left c → In (F c) r → NotHeavier by_rank (map (but lo c r) q.left) (map hi q.right) → Supported F q c r
  left_suffices c r far m i n = (
    either q.left (but lo c r) hi,
    either_chosen F q (but lo c r) hi far (λ x k. but_in F lo c r x (ends.low x k) i) ends.high,
    either_left q.left (but lo c r) hi c m ∙ but_here lo c r c refl,
    either_meets q (but lo c r) hi far n,
  )

  -- a rank at a cell of the right row
  pub right_needs : (c r : ℕ) → Contains q.right c → Supported F q c r → In (F c) r × NotHeavier by_rank (map lo q.left) (map (but hi c r) q.right)
  right_needs c r m s = (
    subst (λ (y : ℕ). In (F c) y) s.2 (s.1 c (Contains-append_right q.left q.right c m)),
    not_heavier_mono q.left q.right s.0 lo s.0 (but hi c r)
        (λ x h. let n = Contains-append_left q.left q.right x h in ends.least x (s.0 x) h (s.1 x n))
        (λ x h. go x h (cases_eq x c))
        s.3,
  )
    where
      go : (x : ℕ) → Contains q.right x → (x ≡ c) ⊎ (x ≡ c → ⊥) → s.0 x ≤ but hi c r x
      go x h (inl e) = omega (arith, but_here hi c r x e, s.2, ap s.0 e)
      go x h (inr n) =
          let k = Contains-append_right q.left q.right x h in
          omega (arith, but_there hi c r x n, ends.most x (s.0 x) h (s.1 x k))

  pub right_suffices : (c r : ℕ) → Apart (q.left ++ q.right) → Contains q.right c → In (F c) r → NotHeavier by_rank (map lo q.left) (map (but hi c r) q.right) → Supported F q c r
  right_suffices c r far m i n = (
    either q.left lo (but hi c r),
    either_chosen F q lo (but hi c r) far ends.low (λ x k. but_in F hi c r x (ends.high x k) i),
    either_right q.left q.right lo (but hi c r) c far m ∙ but_here hi c r c refl,
    either_meets q lo (but hi c r) far n,
  )
