-- A whole record ends within the bytes there are.
use Rattle.std.proofs.Common.{◌≡◌, ℕ, ◌+◌, ◌-◌, ◌<◌, ◌≤◌, Bool, cond, eqb, ltb, List, length, get_or, take, drop, sym, ap, ◌∙◌, subst, arith, length-drop}
use Rattle.std.proofs.lemmas.List.{take_rest}
use Rattle.std.proofs.lemmas.Bool.{cond_both, ltb-false}
use Rattle.orders.specs.Said.{Said}
use Rattle.orders.specs.Marks.{LO, LI, PR, OT, UT, KT, RD, is_mark}
use Rattle.orders.specs.Parse.{Parsed, order, nothing, cut, unknown, found, answer_at, onward_from, next_of, place_after, rows_of, post_of, marked, record_of, parse}
use Rattle.orders.specs.Within.{Within}

module _ (p e : ℕ) where
  either : (b : Bool) (x y : Parsed) → Within p e x → Within p e y → Within p e (cond b x y)
  either b x y h k = cond_both b x y (Within p e) (λ _. h) (λ _. k)

  -- a record of k bytes whose fields are n of the m bytes after its mark
  short : (m n k : ℕ) (s : Said) → (n ≤ m → (0 < k) × (p + k ≤ e)) → Within p e (cond (ltb m n) cut (order s k))
  short m n k s h = cond_both (ltb m n) cut (order s k) (Within p e) (λ _. tt) (λ no. h (ltb-false m n no))

  rows_end : (l r : ℕ) (bs : List ℕ) → p + 4 + length bs ≤ e → Within p e (rows_of l r bs)
  rows_end l r bs h = short (length bs) (l + r) (4 + l + r) _ (λ k. (omega arith, omega arith))

  post_end : (bs : List ℕ) → p + 2 + length bs ≤ e → Within p e (post_of bs)
  post_end bs h =
      cond_both (ltb (length bs) 2) cut (rows_of (get_or bs 0 0) (get_or bs 1 0) (drop 2 bs)) (Within p e) (λ _. tt)
      (λ no. rows_end (get_or bs 0 0) (get_or bs 1 0) (drop 2 bs) (omega (arith, length-drop 2 bs, ltb-false (length bs) 2 no)))

  marked_end : (a b : ℕ) (bs : List ℕ) → p + 2 + length bs ≤ e → Within p e (marked a b bs)
  marked_end a b bs h =
      either (is_mark LO a b) _ _ (short (length bs) 2 4 _ (λ k. (omega arith, omega arith)))
      (either (is_mark LI a b) _ _ (short (length bs) 7 9 _ (λ k. (omega arith, omega arith)))
      (either (is_mark PR a b) _ _ (post_end bs h)
      (either (is_mark OT a b) _ _ (omega arith, omega arith)
      (either (is_mark UT a b) _ _ (short (length bs) 4 6 _ (λ k. (omega arith, omega arith)))
      (either (is_mark KT a b) _ _ (short (length bs) 4 6 _ (λ k. (omega arith, omega arith)))
      (either (is_mark RD a b) _ _ (short (length bs) 1 3 _ (λ k. (omega arith, omega arith))) tt))))))

  record_end : (bs : List ℕ) → p + length bs ≤ e → Within p e (record_of bs)
  record_end bs h =
      either (eqb (length bs) 0) _ _ tt
      (cond_both (ltb (length bs) 2) cut (marked (get_or bs 0 0) (get_or bs 1 0) (drop 2 bs)) (Within p e) (λ _. tt)
      (λ no. marked_end (get_or bs 0 0) (get_or bs 1 0) (drop 2 bs) (omega (arith, length-drop 2 bs, ltb-false (length bs) 2 no))))

-- what the code reads at p, in the part of the file from there on
pub here : (fs : List ℕ) (p : ℕ) (x : Parsed) → p ≤ length fs → x ≡ record_of (take (length fs - p) (drop p fs)) → (x ≡ parse fs p) × Within p (length fs) x
unfolding parse
here fs p x h e =
    let same : x ≡ record_of (drop p fs) = rw take_rest at e in
    (same, subst (Within p (length fs)) (sym same) (record_end p (length fs) (drop p fs) (omega (arith, length-drop p fs))))

-- a reader that finds an order goes on
on_from : (p e : ℕ) (s : Said) (x : Parsed) → Within p e x → answer_at p x ≡ found s → p < onward_from p x
on_from p e s (order t n) h i = omega (arith, h.0)
on_from p e s nothing h i = absurd cc
on_from p e s cut h i = absurd cc
on_from p e s unknown h i = absurd cc

pub advances : (fs : List ℕ) (p : ℕ) (s : Said) → next_of fs p ≡ found s → p < place_after fs p
unfolding parse
advances fs p s i =
    let e : ℕ = p + length (drop p fs) in
    on_from p e s (record_of (drop p fs)) (record_end p e (drop p fs) (omega arith)) i

-- the measure of a loop over a file's orders: gs and hs are what the reader holds before and after
pub falls : (fs gs hs : List ℕ) (p q : ℕ) → gs ≡ fs → hs ≡ gs → p < q → q ≤ length hs → length fs - q < length fs - p
falls fs gs hs p q g h less within = omega (arith, ap length (h ∙ g))
