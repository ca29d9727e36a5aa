-- Rows of cells: who is in one, and what a choice makes of one.
use Rattle.std.proofs.Common.{◌≡◌, ℕ, suc, ◌+◌, ◌≤◌, List, [], ◌∷◌, ◌++◌, map, length, sym, refl, ◌∙◌, ap₂, arith, length-append}
use Rattle.std.specs.declared.cmp.Ordering.TheVariants.{Greater}
use Rattle.loads.specs.Kinds.{by_rank}
use Rattle.loads.specs.Laws.{NoneHigher}
use Rattle.loads.specs.Loads.{NotHeavier}
use Rattle.loads.proofs.FromTop.{rank_order}
use Rattle.loads.proofs.Weights.{monotone}
use Rattle.std.proofs.lemmas.Bool.Decides.{nat_tests}
use Rattle.rules.specs.Ends.{but}
use Rattle.rules.specs.Rows.{Apart}
use Rattle.std.specs.List.{Contains}
use Rattle.std.proofs.lemmas.List.{get_or_append_left, get_or_default, get_or-append-add}

-- no cell is in both rows
pub apart_rows : (l r : List ℕ) (c : ℕ) → Apart (l ++ r) → Contains l c → Contains r c → ⊥
apart_rows l r c far m n =
    far m.0 (length l + n.0) (omega (arith, m.1)) (omega (arith, length-append l r, n.1))
    (get_or_append_left l r 0 m.0 m.1 ∙ get_or_default l m.0 0 c m.1 ∙ m.2 ∙ sym n.2 ∙ get_or_default r n.0 c 0 n.1 ∙ sym (get_or-append-add l r n.0 0))

contains_here : (x : ℕ) (xs : List ℕ) → Contains (x ∷ xs) x
contains_here x xs = (0, omega arith, refl)

contains_there : (x : ℕ) (xs : List ℕ) (c : ℕ) → Contains xs c → Contains (x ∷ xs) c
contains_there x xs c m = (suc m.0, omega (arith, m.1), m.2)

-- the changed choice
pub but_here : (f : ℕ → ℕ) (c r x : ℕ) → x ≡ c → but f c r x ≡ r
but_here f c r x e = grind (arith, nat_tests)

pub but_there : (f : ℕ → ℕ) (c r x : ℕ) → (x ≡ c → ⊥) → but f c r x ≡ f x
but_there f c r x e = grind (arith, nat_tests)

pub map_same : (cs : List ℕ) (f g : ℕ → ℕ) → ((x : ℕ) → Contains cs x → f x ≡ g x) → map f cs ≡ map g cs
map_same [] f g e = refl
map_same (x ∷ xs) f g e = ap₂ {C = List ℕ} ◌∷◌ (e x (contains_here x xs)) (map_same xs f g (λ y m. e y (contains_there x xs y m)))

rank_not_higher : (a b : ℕ) → a ≤ b → by_rank a b ≡ Greater → ⊥
rank_not_higher a b l e = grind (arith, nat_tests)

-- lower ranks at each cell make no heavier load
none_higher : (cs : List ℕ) (f g : ℕ → ℕ) → ((x : ℕ) → Contains cs x → f x ≤ g x) → NoneHigher by_rank (map f cs) (map g cs)
none_higher [] f g l = tt
none_higher (x ∷ xs) f g l = (λ h. rank_not_higher (f x) (g x) (l x (contains_here x xs)) h, none_higher xs f g (λ y m. l y (contains_there x xs y m)))

pub map_mono : (cs : List ℕ) (f g : ℕ → ℕ) → ((x : ℕ) → Contains cs x → f x ≤ g x) → NotHeavier by_rank (map f cs) (map g cs)
map_mono cs f g l = monotone by_rank rank_order (map f cs) (map g cs) (none_higher cs f g l)
