-- What opening a trial and ending one do to the list of the open trials.
use Rattle.std.proofs.Common.{arith, sym, subst, ap, ◌∙◌, append_assoc}
use Rattle.std.specs.Prelude.{◌≡◌, ℕ, ◌+◌, ◌<◌, List, [], ◌∷◌, ◌++◌, map, ◌≢◌}
use Rattle.std.proofs.lemmas.List.{map-append}
use Rattle.std.specs.List.{AllByRecursion}
use Rattle.trials.specs.Saved.{Trial, Numbered}
use Rattle.trials.specs.Trials.{NotAmong, Opens, Ends}
use Rattle.trials.specs.Saving.{of_cells}
use Rattle.trials.specs.TrialStores.{Apart}

all_rear : (P : Trial → Type 0) (xs ys : List Trial) → AllByRecursion P (xs ++ ys) → AllByRecursion P ys
all_rear P [] ys h = h
all_rear P (x ∷ xs) ys h = all_rear P xs ys h.1

same_first : (x y : Trial) (xs ys : List Trial) → x ∷ xs ≡ y ∷ ys → x ≡ y
same_first x y xs ys e = cc

same_rest : (x y : Trial) (xs ys : List Trial) → x ∷ xs ≡ y ∷ ys → xs ≡ ys
same_rest x y xs ys e = cc

-- a trial that ends has what every open one has, and so have the older ones
pub ends_that : (P : Trial → Type 0) (t : ℕ) (before : List Trial) (that : Trial) (older : List Trial) → Ends t before that older → AllByRecursion P before → P that × AllByRecursion P older
ends_that P t before that older e h = all_rear P e.newer (that ∷ older) (subst (AllByRecursion P) e.split h)

pub ends_map : (f : Trial → Trial) (t : ℕ) (before : List Trial) (that : Trial) (older : List Trial) → (f that).number ≡ that.number → Ends t before that older → Ends t (map f before) (f that) (map f older)
ends_map f t before that older same e = record { newer = map f e.newer; split = ap (map f) e.split ∙ map-append f e.newer (that ∷ older); named = same ∙ e.named }

-- a number that none has ends none
pub ends_none : (t : ℕ) (before : List Trial) (that : Trial) (older : List Trial) → Ends t before that older → NotAmong t before → ⊥
ends_none t before that older e h = (ends_that (λ x. x.number ≢ t) t before that older e h).0 e.named

-- of a trial in front, whose number is another, the ending is one of the others
pub ends_behind : (t : ℕ) (x : Trial) (before : List Trial) (that : Trial) (older : List Trial) → (x.number ≢ t) → Ends t (x ∷ before) that older → Ends t before that older
ends_behind t x before that older other e = go e.newer e.split
  where
    go : (newer : List Trial) → x ∷ before ≡ newer ++ (that ∷ older) → Ends t before that older
    go [] q = let first : x ≡ that = cc q in absurd (other (ap (λ (y : Trial). y.number) first ∙ e.named))
    go (y ∷ newer) q = record { newer = newer; split = cc q; named = e.named }

-- of a trial in front, whose number no other has, the ending is that one
pub ends_front : (t : ℕ) (x : Trial) (before : List Trial) (that : Trial) (older : List Trial) → NotAmong t before → Ends t (x ∷ before) that older → (that ≡ x) × (older ≡ before)
ends_front t x before that older none e = go e.newer e.split
  where
    go : (newer : List Trial) → x ∷ before ≡ newer ++ (that ∷ older) → (that ≡ x) × (older ≡ before)
    go [] q = (cc q, cc q)
    go (y ∷ newer) q = absurd (ends_none t before that older (record { newer = newer; split = cc q; named = e.named }) none)

-- the next number is new
pub next_new : (g : ℕ) (xs : List Trial) → Numbered g xs → NotAmong (g + 1) xs
next_new g [] h = tt
next_new g (x ∷ xs) h = ((λ q. omega (arith, q, h.1)), next_new g xs h.3)

pub numbered_map : (n g : ℕ) (xs : List Trial) → Numbered g xs → Numbered g (map (of_cells n) xs)
numbered_map n g [] h = tt
numbered_map n g (x ∷ xs) h = (h.0, h.1, lower xs h.2, numbered_map n g xs h.3)
  where
    lower : (ys : List Trial) → AllByRecursion (λ y. y.number < x.number) ys → AllByRecursion (λ y. y.number < x.number) (map (of_cells n) ys)
    lower [] l = tt
    lower (y ∷ ys) l = (l.0, lower ys l.1)

-- each of these leaves the others apart
pub apart_same : (g : ℕ) (before : List Trial) (g' : ℕ) (after : List Trial) → g' ≡ g → after ≡ before → Apart g before g' after
apart_same g before g' after q e = record { spent = omega (arith, q); same = λ t h that older w. subst (λ (xs : List Trial). Ends t xs that older) e w }

pub apart_opens : (g : ℕ) (before : List Trial) (x : Trial) (g' : ℕ) (after : List Trial) → Opens before g x after g' → Apart g before g' after
apart_opens g before x g' after o = record {
  spent = omega (arith, o.spent);
  same = λ t h that older w. ends_behind t x before that older (λ q. omega (arith, q, h, o.next)) (subst (λ (xs : List Trial). Ends t xs that older) o.front w);
}

pub apart_ends : (n g : ℕ) (before : List Trial) (x : Trial) (g' : ℕ) (after : List Trial) → g' ≡ g → Ends n before x after → Apart g before g' after
apart_ends n g before x g' after q e = record {
  spent = omega (arith, q);
  same = λ t h that older w. record {
    newer = e.newer ++ (x ∷ w.newer);
    split = e.split ∙ ap (λ (xs : List Trial). e.newer ++ (x ∷ xs)) w.split ∙ sym (append_assoc e.newer (x ∷ w.newer) (that ∷ older));
    named = w.named;
  };
}

pub apart_then : (g1 g2 g3 : ℕ) (xs ys zs : List Trial) → Apart g1 xs g2 ys → Apart g2 ys g3 zs → Apart g1 xs g3 zs
apart_then g1 g2 g3 xs ys zs a b = record {
  spent = omega (arith, a.spent, b.spent);
  same = λ t h that older w. a.same t h that older (b.same t (omega (arith, h, a.spent)) that older w);
}
