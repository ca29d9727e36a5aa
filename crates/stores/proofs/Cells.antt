-- Lists by their places, and what a write leaves; what a test for equal numbers tells.
use Rattle.std.proofs.Common.{◌≡◌, ℕ, ◌+◌, ◌<◌, ◌≤◌, Bool, true, false, eqb, ◌⊎◌, List, length, get_or, take, set, MatchBool, sym, refl, ap, ◌∙◌, subst, inl, inr, arith}
use Rattle.std.proofs.lemmas.List.{get_or-set_same, get_or-set_other, get_or-take, length-take-le, ext_get_or}
use Rattle.std.proofs.lemmas.Bool.{cases_eq, eqb-true, eqb-false}

-- equal places make equal lists
pub same_front : (n : ℕ) (xs ys : List ℕ) → n ≤ length xs → length ys ≡ n → ((k : ℕ) → k < n → get_or xs k 0 ≡ get_or ys k 0) → take n xs ≡ ys
same_front n xs ys h l f =
    let e : length (take n xs) ≡ n = length-take-le n xs h in
    ext_get_or 0 (take n xs) ys (e ∙ sym l) (λ k j. let i : k < n = omega arith in get_or-take n xs k 0 i ∙ f k i)

-- what a test for equal numbers tells
pub when_equal : (a b : ℕ) (P Q : Type 0) → (a ≡ b → P) → ((a ≡ b → ⊥) → Q) → MatchBool (eqb a b) P Q
when_equal a b P Q p q = go (eqb a b) (eqb-true a b) (eqb-false a b)
  where
    go : (t : Bool) → (t ≡ true → a ≡ b) → (t ≡ false → a ≡ b → ⊥) → MatchBool t P Q
    go true f g = p (f refl)
    go false f g = q (g refl)

pub when_zero : (q : ℕ) (P Q : Type 0) → (q ≤ 0 → P) → (0 < q → Q) → MatchBool (eqb q 0) P Q
when_zero q P Q p r = when_equal q 0 P Q (λ e. p (omega (arith, e))) (λ ne. r (omega (arith, ne)))

-- one cell more is as in ys, after it is set to what ys has there
pub set_next : (xs ys zs : List ℕ) (i : ℕ) → i < length xs → zs ≡ set xs i (get_or ys i 0) → ((k : ℕ) → k < i → get_or xs k 0 ≡ get_or ys k 0) → (k : ℕ) → k < i + 1 → get_or zs k 0 ≡ get_or ys k 0
set_next xs ys zs i within is same k l = ap (λ (ws : List ℕ). get_or ws k 0) is ∙ go (cases_eq k i)
  where
    go : (k ≡ i) ⊎ (k ≡ i → ⊥) → get_or (set xs i (get_or ys i 0)) k 0 ≡ get_or ys k 0
    go (inl e) =
        subst (λ (j : ℕ). get_or (set xs i (get_or ys i 0)) j 0 ≡ get_or ys j 0) (sym e) (get_or-set_same xs i (get_or ys i 0) 0 within)
    go (inr ne) = get_or-set_other xs i k (get_or ys i 0) 0 ne ∙ same k (omega (arith, l, ne))
