-- The bounds of the counts of the best ranks decide which ranks are supported.
use Rattle.std.proofs.Common.{◌≡◌, ℕ, ◌+◌, ◌<◌, ◌≤◌, ◌⊎◌, List, ◌++◌, length, get_or, set, map, sym, ap, ◌∙◌, subst, inl, inr, arith, length-append}
use Rattle.std.specs.Prelude.{◌↔◌}
use Rattle.std.specs.List.{Contains}
use Rattle.std.proofs.lemmas.Bool.{cases_eq, cases_order}
use Rattle.std.proofs.lemmas.List.{get_or-map, get_or-set_same, get_or-set_other, ext_get_or, length-map, length-set, get_or_append_left, get_or_default, get_or-append-add}
use Rattle.domains.specs.Sets.{In, up_to, from}
use Rattle.domains.proofs.Ranks.{in_upto, in_from}
use Rattle.loads.specs.Kinds.{by_rank}
use Rattle.loads.specs.Loads.{NotHeavier}
use Rattle.marking.specs.Bounds.{Loaded, BoundsOf, Outweighs, left_most, right_least}
use Rattle.marking.specs.declared.bounds.Bounds.{Bounds}
use Rattle.rules.specs.Ends.{Ends, but}
use Rattle.rules.specs.Rows.{Apart}
use Rattle.rules.specs.Rules.{Rule, Supported, Meetable}
use Rattle.rules.specs.Support.{Supports}
use Rattle.rules.proofs.Laws.{best_decides}
use Rattle.rules.proofs.Places.{but_here, but_there}

pub apart_left : (l r : List ℕ) → Apart (l ++ r) → Apart l
apart_left l r far i j h k e =
    far i j h (omega (arith, k, length-append l r)) (get_or_append_left l r 0 i (omega (arith, h, k)) ∙ e ∙ sym (get_or_append_left l r 0 j k))

pub apart_right : (l r : List ℕ) → Apart (l ++ r) → Apart r
apart_right l r far i j h k e =
    far (length l + i) (length l + j) (omega (arith, h)) (omega (arith, k, length-append l r))
    (get_or-append-add l r i 0 ∙ e ∙ sym (get_or-append-add l r j 0))

-- the place of a cell in a row
pub at_place : (cs : List ℕ) (c : ℕ) (m : Contains cs c) → get_or cs m.0 0 ≡ c
at_place cs c m = sym (get_or_default cs m.0 c 0 m.1) ∙ m.2

-- no other place has it
lone : (cs : List ℕ) (i k : ℕ) → Apart cs → i < length cs → k < length cs → (k ≡ i → ⊥) → get_or cs k 0 ≡ get_or cs i 0 → ⊥
lone cs i k far l h n e = go (cases_order k i)
  where
    go : (k ≡ i) ⊎ ((k < i) ⊎ (i < k)) → ⊥
    go (inl x) = n x
    go (inr (inl x)) = far k i x l e
    go (inr (inr x)) = far i k x h (sym e)

-- another rank at one cell is another member at its place
pub but_set : (cs : List ℕ) (f : ℕ → ℕ) (c r : ℕ) (m : Contains cs c) → Apart cs → map (but f c r) cs ≡ set (map f cs) m.0 r
but_set cs f c r m far =
    ext_get_or 0 (map (but f c r) cs) (set (map f cs) m.0 r)
    (length-map cs (but f c r) ∙ sym (length-set (map f cs) m.0 r ∙ length-map cs f))
    (λ k l. let h : k < length cs = omega (arith, l, length-map cs (but f c r)) in get_or-map (but f c r) cs k 0 0 h ∙ go k h (cases_eq k m.0))
  where
    go : (k : ℕ) → k < length cs → (k ≡ m.0) ⊎ (k ≡ m.0 → ⊥) → but f c r (get_or cs k 0) ≡ get_or (set (map f cs) m.0 r) k 0
    go k h (inl e) =
        but_here f c r (get_or cs k 0) (ap (λ (j : ℕ). get_or cs j 0) e ∙ at_place cs c m)
        ∙ sym (ap (λ (j : ℕ). get_or (set (map f cs) m.0 r) j 0) e ∙ get_or-set_same (map f cs) m.0 r 0 (omega (arith, m.1, length-map cs f)))
    go k h (inr n) =
        but_there f c r (get_or cs k 0) (λ e. lone cs m.0 k far m.1 h n (e ∙ sym (at_place cs c m)))
        ∙ sym (get_or-set_other (map f cs) m.0 k r 0 n ∙ get_or-map f cs k 0 0 h)

-- what the cell has there before
pub was : (cs : List ℕ) (f : ℕ → ℕ) (c : ℕ) (m : Contains cs c) → get_or (map f cs) m.0 0 ≡ f c
was cs f c m = get_or-map f cs m.0 0 0 m.1 ∙ ap f (at_place cs c m)

module _ {F : ℕ → ℕ} {q : Rule} {lo hi : ℕ → ℕ} (ends : Ends F q lo hi) (far : Apart (q.left ++ q.right)) {ox oy : ℕ → ℕ} (counted : Loaded ox oy (map lo q.left) (map hi q.right)) where
  supports : Supports F q lo hi
  supports = best_decides F q lo hi ends far

  -- where the left outweighs the right by the counts, no choice meets the rule
  pub none_meets : Outweighs ox oy → Meetable F q → ⊥
  none_meets w m = w (map lo q.left) (map hi q.right) counted (supports.meets.0 m)

  module _ {b : Bounds} (is : BoundsOf ox oy b) where
    -- else some choice does
    pub some_meets : Meetable F q
    some_meets = supports.meets.1 (is.met (map lo q.left) (map hi q.right) counted)

    left_says : (c r : ℕ) (m : Contains q.left c) → lo c ≤ r → ((r ≤ left_most b.marks.alpha b.floor (lo c)) ↔ NotHeavier by_rank (map (but lo c r) q.left) (map hi q.right))
    left_says c r m l =
        let e = was q.left lo c m in
        let s = is.left (map lo q.left) (map hi q.right) counted m.0 r (omega (arith, m.1, length-map q.left lo)) (omega (arith, e, l)) in
        subst (λ (xs : List ℕ). (r ≤ left_most b.marks.alpha b.floor (lo c)) ↔ NotHeavier by_rank xs (map hi q.right))
        (sym (but_set q.left lo c r m (apart_left q.left q.right far)))
        (subst (λ (a : ℕ). (r ≤ left_most b.marks.alpha b.floor a) ↔ NotHeavier by_rank (set (map lo q.left) m.0 r) (map hi q.right)) e s)

    right_says : (c r : ℕ) (m : Contains q.right c) → r ≤ hi c → ((right_least b.marks.alpha b.floor (hi c) ≤ r) ↔ NotHeavier by_rank (map lo q.left) (map (but hi c r) q.right))
    right_says c r m l =
        let e = was q.right hi c m in
        let s = is.right (map lo q.left) (map hi q.right) counted m.0 r (omega (arith, m.1, length-map q.right hi)) (omega (arith, e, l)) in
        subst (λ (xs : List ℕ). (right_least b.marks.alpha b.floor (hi c) ≤ r) ↔ NotHeavier by_rank (map lo q.left) xs)
        (sym (but_set q.right hi c r m (apart_right q.left q.right far)))
        (subst (λ (a : ℕ). (right_least b.marks.alpha b.floor a ≤ r) ↔ NotHeavier by_rank (map lo q.left) (set (map hi q.right) m.0 r)) e s)

    -- the supported ranks of a left cell are those of its set up to its bound
    pub left_kept : (c r : ℕ) → Contains q.left c → (In (up_to (F c) (left_most b.marks.alpha b.floor (lo c))) r ↔ Supported F q c r)
    left_kept c r m = (
      λ i.
          let p = (in_upto (F c) (left_most b.marks.alpha b.floor (lo c)) r).0 i in
          (supports.left c r m).1 (p.0, (left_says c r m (ends.least c r m p.0)).0 p.1),
      λ s.
          let p = (supports.left c r m).0 s in
          (in_upto (F c) (left_most b.marks.alpha b.floor (lo c)) r).1 p.0 ((left_says c r m (ends.least c r m p.0)).1 p.1),
    )

    -- and those of a right cell are those from its bound
    pub right_kept : (c r : ℕ) → Contains q.right c → (In (from (F c) (right_least b.marks.alpha b.floor (hi c))) r ↔ Supported F q c r)
    right_kept c r m = (
      λ i.
          let p = (in_from (F c) (right_least b.marks.alpha b.floor (hi c)) r).0 i in
          (supports.right c r m).1 (p.0, (right_says c r m (ends.most c r m p.0)).0 p.1),
      λ s.
          let p = (supports.right c r m).0 s in
          (in_from (F c) (right_least b.marks.alpha b.floor (hi c)) r).1 p.0 ((right_says c r m (ends.most c r m p.0)).1 p.1),
    )
