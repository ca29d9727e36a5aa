-- What cutting one cell more leaves.
use Rattle.std.proofs.Common.{◌≡◌, ℕ, ◌+◌, ◌-◌, ◌<◌, ◌≤◌, ◌⊎◌, List, [], ◌∷◌, ◌++◌, length, get_or, set, take, Fits, w64, sym, refl, ap, ◌∙◌, subst, subst₂, inl, inr, arith}
use Rattle.std.specs.List.{Contains}
use Rattle.std.proofs.lemmas.Bool.{cases_eq}
use Rattle.std.proofs.lemmas.List.{get_or-set_same, get_or-set_other, get_or-take, length-set, length-take-le, take_more}
use Rattle.std.proofs.lemmas.List.Elements.{Contains-append_left, Contains-append_right, Contains-append_cases, All-from_get_or}
use Rattle.std.proofs.lemmas.List.Sums.{sum_by-set, sum_by-le}
use Rattle.domains.specs.Sets.{size}
use Rattle.marking.specs.declared.bounds.Bounds.{Bounds}
use Rattle.rules.specs.Families.{family, total}
use Rattle.rules.specs.Rows.{Apart}
use Rattle.filtering.specs.Bounded.{kept}
use Rattle.filtering.specs.Cuts.{CellCut, Cut}
use Rattle.filtering.specs.declared.sides.Side.{Side}
use Rattle.filtering.proofs.Joined.{at_place}
use Rattle.filtering.proofs.Kept.{kept_fewer, size_le}

difference : (x y a b : ℕ) → x ≡ a → y ≡ b → b ≤ a → x - y + b ≡ a
difference x y a b p q l = omega arith

pub fewer_left : (side : Side) (b : Bounds) (m k x y : ℕ) → k ≡ kept side b m → x ≡ size m → y ≡ size k → y ≤ x
fewer_left side b m k x y f p q = subst₂ (λ (u v : ℕ). u ≤ v) (sym (q ∙ ap size f)) (sym p) (kept_fewer side b m)

-- one cell
pub cell_cut : (side : Side) (b : Bounds) (cs cs' : List ℕ) (cell m k x y : ℕ) → m ≡ family cs cell → k ≡ kept side b m → cs' ≡ set cs cell k → x ≡ size m → y ≡ size k → CellCut (kept side b) cs cs' cell (x - y)
cell_cut side b cs cs' cell m k x y e f w p q =
    let is : k ≡ kept side b (family cs cell) = f ∙ ap (kept side b) e in
    record {
      cells = w ∙ ap (set cs cell) is;
      fewer = difference x y (size (family cs cell)) (size (kept side b (family cs cell))) (p ∙ ap size e) (q ∙ ap size is) (kept_fewer side b (family cs cell));
    }

pub cut_none : (g : ℕ → ℕ) (cs : List ℕ) → Cut g [] cs cs 0
cut_none g cs = record { count = refl; named = λ c m. absurd (omega (arith, m.1)); other = λ c n. refl; fewer = omega arith }

-- at most 64 cells have at most 3072 ranks
pub total_few : (cs : List ℕ) → length cs ≤ 64 → total cs ≤ 3072
total_few cs l = omega (arith, sum_by-le size 48 cs (All-from_get_or (λ m. size m ≤ 48) cs 0 (λ i h. size_le 48 (get_or cs i 0))))

-- what went in all fits, and one cell more does too
pub sum_fits : (a b t u : ℕ) → a + b + t ≡ u → u ≤ 3072 → Fits w64 (a + b)
sum_fits a b t u e l = omega arith

pub more_fits : {g : ℕ → ℕ} {row cs0 cs cs' : List ℕ} {cell went w : ℕ} → length cs0 ≤ 64 → Cut g row cs0 cs went → CellCut g cs cs' cell w → Fits w64 (went + w)
more_fits {g = g} {cs0 = cs0} {cs = cs} {cell = cell} {went = went} {w = w} few cut one =
    within went w (total cs) (total cs0) (size (g (family cs cell))) (size (family cs cell)) cut.fewer (total_few cs0 few) one.fewer (size_le 48 (family cs cell))
  where
    within : (a b t u x y : ℕ) → a + t ≡ u → u ≤ 3072 → b + x ≡ y → y ≤ 48 → Fits w64 (a + b)
    within a b t u x y e l f h = omega arith

module _ {g : ℕ → ℕ} {cs0 cs cs' : List ℕ} {went w : ℕ} (row : List ℕ) (i : ℕ) (l : i < length row) (far : Apart row) (within : get_or row i 0 < length cs0)
    (cut : Cut g (take i row) cs0 cs went) (one : CellCut g cs cs' (get_or row i 0) w) where
  front : length (take i row) ≡ i
  front = length-take-le i row (omega (arith, l))

  -- the cell was not named before
  fresh : (x : ℕ) → Contains (take i row) x → x ≡ get_or row i 0 → ⊥
  fresh x m e =
      let j : m.0 < i = omega (arith, m.1, front) in
      far m.0 i j l (sym (get_or-take i row m.0 0 j) ∙ at_place (take i row) x m ∙ e)

  within_now : get_or row i 0 < length cs
  within_now = omega (arith, within, cut.count)

  before : family cs (get_or row i 0) ≡ family cs0 (get_or row i 0)
  before = cut.other (get_or row i 0) (λ m. fresh (get_or row i 0) m refl)

  here : family cs' (get_or row i 0) ≡ g (family cs0 (get_or row i 0))
  here = ap (λ (xs : List ℕ). get_or xs (get_or row i 0) 0) one.cells ∙ get_or-set_same cs (get_or row i 0) (g (family cs (get_or row i 0))) 0 within_now ∙ ap g before

  there : (x : ℕ) → (x ≡ get_or row i 0 → ⊥) → family cs' x ≡ family cs x
  there x n = ap (λ (xs : List ℕ). get_or xs x 0) one.cells ∙ get_or-set_other cs (get_or row i 0) x (g (family cs (get_or row i 0))) 0 n

  step : Cut g (take i row ++ (get_or row i 0 ∷ [])) cs0 cs' (went + w)
  step = record {
    count = ap length one.cells ∙ length-set cs (get_or row i 0) (g (family cs (get_or row i 0))) ∙ cut.count;
    named = λ x m. named x (Contains-append_cases (take i row) (get_or row i 0 ∷ []) x m);
    other = λ x n.
        there x (λ e. n (Contains-append_right (take i row) (get_or row i 0 ∷ []) x (0, omega arith, sym e)))
        ∙ cut.other x (λ m. n (Contains-append_left (take i row) (get_or row i 0 ∷ []) x m));
    fewer = omega (arith, ap total one.cells, sum_by-set size cs (get_or row i 0) (g (family cs (get_or row i 0))) 0 within_now, one.fewer, cut.fewer);
  }
    where
      named : (x : ℕ) → Contains (take i row) x ⊎ Contains (get_or row i 0 ∷ []) x → family cs' x ≡ g (family cs0 x)
      named x (inl m) = there x (fresh x m) ∙ cut.named x m
      named x (inr m) = let e : get_or row i 0 ≡ x = last m in subst (λ (y : ℕ). family cs' y ≡ g (family cs0 y)) e here
        where
          last : Contains (get_or row i 0 ∷ []) x → get_or row i 0 ≡ x
          last m = go (cases_eq m.0 0)
            where
              go : (m.0 ≡ 0) ⊎ (m.0 ≡ 0 → ⊥) → get_or row i 0 ≡ x
              go (inl e) = sym (ap (λ (k : ℕ). get_or (get_or row i 0 ∷ []) k 0) e) ∙ at_place (get_or row i 0 ∷ []) x m
              go (inr n) = absurd (omega (arith, m.1, n))

  pub cut_more : Cut g (take (i + 1) row) cs0 cs' (went + w)
  cut_more = subst (λ (xs : List ℕ). Cut g xs cs0 cs' (went + w)) (sym (take_more row i 0 l)) step
