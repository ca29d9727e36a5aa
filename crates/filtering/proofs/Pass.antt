-- The left row cut and then the right row: each cell that the rule names has exactly its supported ranks.
use Rattle.std.proofs.Common.{◌≡◌, ℕ, ◌+◌, ◌⊎◌, List, sym, ap, ◌∙◌, subst, inl, inr, arith}
use Rattle.std.specs.Prelude.{◌↔◌}
use Rattle.std.specs.List.{Contains}
use Rattle.std.proofs.lemmas.List.Elements.{Contains-append_left, Contains-append_right, Contains-append_cases}
use Rattle.domains.specs.Sets.{In}
use Rattle.marking.specs.declared.bounds.Bounds.{Bounds}
use Rattle.rules.specs.Families.{family}
use Rattle.rules.specs.Filtered.{Filtered}
use Rattle.rules.specs.Rules.{Rule, Supported}
use Rattle.rules.proofs.Places.{apart_rows}
use Rattle.filtering.specs.Bounded.{kept, Bounded}
use Rattle.filtering.specs.Cuts.{Cut}
use Rattle.filtering.specs.declared.sides.Side.TheVariants.{Left, Right}

module _ {cs cs1 cs2 : List ℕ} {q : Rule} {b : Bounds} {l u : ℕ} (bounded : Bounded cs q b) (lower : Cut (kept Left b) q.left cs cs1 l) (upper : Cut (kept Right b) q.right cs1 cs2 u) where
  left_is : (c : ℕ) → Contains q.left c → family cs2 c ≡ kept Left b (family cs c)
  left_is c m = upper.other c (λ n. apart_rows q.left q.right c bounded.marks.fit.apart m n) ∙ lower.named c m

  right_is : (c : ℕ) → Contains q.right c → family cs2 c ≡ kept Right b (family cs c)
  right_is c m = upper.named c m ∙ ap (kept Right b) (lower.other c (λ n. apart_rows q.left q.right c bounded.marks.fit.apart n m))

  pub filtered : Filtered cs cs2 q (l + u)
  filtered = record {
    fit = bounded.marks.fit;
    choice = bounded.marks.choice;
    count = upper.count ∙ lower.count;
    named = λ c r n. named c r (Contains-append_cases q.left q.right c n);
    other = λ c n. upper.other c (λ m. n (Contains-append_right q.left q.right c m)) ∙ lower.other c (λ m. n (Contains-append_left q.left q.right c m));
    fewer = omega (arith, lower.fewer, upper.fewer);
  }
    where
      named : (c r : ℕ) → Contains q.left c ⊎ Contains q.right c → (In (family cs2 c) r ↔ Supported (family cs) q c r)
      named c r (inl m) = subst (λ (x : ℕ). In x r ↔ Supported (family cs) q c r) (sym (left_is c m)) (bounded.each Left c r m)
      named c r (inr m) = subst (λ (x : ℕ). In x r ↔ Supported (family cs) q c r) (sym (right_is c m)) (bounded.each Right c r m)
