-- Tests that compute on numerals, each with what it decides.
use Rattle.std.proofs.Common.{◌≡◌, ℕ, zero, suc, ◌/◌, ◌%◌, ◌^◌, ◌<◌, ◌≤◌, ◌++◌, Bool, true, false, not, List, [], ◌∷◌, length, sym, refl, inl, inr}
use Rattle.std.specs.Prelude.{◌==◌, ◌&&◌, ◌||◌, ◌↔◌, nat_le, nat_lt, slice_index, Decides}
use Rattle.std.specs.List.{AllByRecursion}
use Rattle.std.proofs.lemmas.Bool.{false≢true, and_parts, leb-true, le-leb}
use Rattle.std.proofs.lemmas.Bool.Decides.{Decides-eqb, Decides-ltb, Decides-not, Decides-below_and, Decides-below_or}
use Rattle.domains.specs.Sets.{In}
use Rattle.loads.specs.declared.weighing.Weight.{Weight}
use Rattle.loads.specs.declared.weighing.Weight.TheVariants.{Lighter as lighter, Equal as equal, Heavier as heavier}
use Rattle.loads.specs.Kinds.{by_rank}
use Rattle.loads.specs.Laws.{is_not_heavier}
use Rattle.loads.specs.Loads.{NotHeavier, Weighed}
use Rattle.loads.specs.Recursive.{weighed}
use Rattle.loads.proofs.Agreement.{weighed_holds}
use Rattle.loads.proofs.FromTop.{rank_order}
use Rattle.loads.proofs.Weights.{not_both, not_each}
use Rattle.rules.specs.Rows.{RowSized, Fit}

-- of every number below n, and of some
unfoldable pub every : (ℕ → Bool) → ℕ → Bool
every p zero = true
every p (suc n) = p n && every p n

unfoldable pub some : (ℕ → Bool) → ℕ → Bool
some p zero = false
some p (suc n) = p n || some p n

pub every_decides : (p : ℕ → Bool) (P : ℕ → Type 0) → ((k : ℕ) → Decides (p k) (P k)) → (n : ℕ) → Decides (every p n) ((k : ℕ) → k < n → P k)
unfolding every
every_decides p P each n = Decides-below_and p P (every p) each refl (λ _. refl) n

pub some_decides : (p : ℕ → Bool) (P : ℕ → Type 0) → ((k : ℕ) → Decides (p k) (P k)) → (n : ℕ) → Decides (some p n) ((k : ℕ) × (k < n) × P k)
unfolding some
some_decides p P each n = Decides-below_or p P (some p) each refl (λ _. refl) n

-- one after another, and both alike
abbrev pub when : Bool → Bool → Bool
when true y = y
when false y = true

abbrev pub alike : Bool → Bool → Bool
alike true y = y
alike false y = not y

pub when_decides : {P Q : Type 0} (x y : Bool) → Decides x P → Decides y Q → Decides (when x y) (P → Q)
when_decides true y p q = (λ e _. q.0 e, λ f. q.1 (f (p.0 refl)))
when_decides false y p q = (λ _ a. absurd (false≢true (p.1 a)), λ _. refl)

pub alike_decides : {P Q : Type 0} (x y : Bool) → Decides x P → Decides y Q → Decides (alike x y) (P ↔ Q)
alike_decides true true p q = (λ _. (λ _. q.0 refl, λ _. p.0 refl), λ _. refl)
alike_decides true false p q = (λ e. absurd (false≢true e), λ f. q.1 (f.0 (p.0 refl)))
alike_decides false true p q = (λ e. absurd (false≢true e), λ f. p.1 (f.1 (q.0 refl)))
alike_decides false false p q = (λ _. (λ a. absurd (false≢true (p.1 a)), λ b. absurd (false≢true (q.1 b))), λ _. refl)

pub le_decides : (a b : ℕ) → Decides (nat_le a b) (a ≤ b)
le_decides a b = (leb-true a b, le-leb a b)

-- a rank is in a set
abbrev pub has : ℕ → ℕ → Bool
has m r = m / 2 ^ r % 2 == 1

pub has_decides : (m r : ℕ) → Decides (has m r) (In m r)
has_decides m r = Decides-eqb (m / 2 ^ r % 2) 1

-- the left load is not heavier
abbrev pub light : List ℕ → List ℕ → Bool
light xs ys = is_not_heavier (weighed by_rank xs ys)

pub light_decides : (xs ys : List ℕ) → Decides (light xs ys) (NotHeavier by_rank xs ys)
light_decides xs ys = go (weighed by_rank xs ys) (weighed_holds by_rank rank_order xs ys)
  where
    go : (w : Weight) → Weighed by_rank w xs ys → Decides (is_not_heavier w) (NotHeavier by_rank xs ys)
    go lighter p = (λ _. inl p, λ _. refl)
    go equal p = (λ _. inr p, λ _. refl)
    go heavier p = (λ e. absurd (false≢true e), λ n. absurd (no n))
      where
        no : NotHeavier by_rank xs ys → ⊥
        no (inl l) = not_each by_rank rank_order xs ys l p
        no (inr e) = not_both by_rank rank_order ys xs p (λ h. sym (e h))

-- two rows make a rule
abbrev sized : List ℕ → Bool
sized row = nat_le 1 (length row) && nat_le (length row) 16

abbrev apart : List ℕ → Bool
apart cs = every (λ j. every (λ i. not (slice_index cs i == slice_index cs j)) j) (length cs)

abbrev pub fits : ℕ → List ℕ → List ℕ → Bool
fits n left right = (sized left && sized right) && (every (λ i. nat_lt (slice_index (left ++ right) i) n) (length (left ++ right)) && apart (left ++ right))

sized_only : (row : List ℕ) → sized row ≡ true → RowSized row
sized_only row e =
    let p = and_parts (nat_le 1 (length row)) (nat_le (length row) 16) e in
    record { some = leb-true 1 (length row) p.0; few = leb-true (length row) 16 p.1 }

pub fits_only : (n : ℕ) (left right : List ℕ) → fits n left right ≡ true → Fit n left right
fits_only n left right e =
    let p = and_parts (sized left && sized right) (every (λ i. nat_lt (slice_index (left ++ right) i) n) (length (left ++ right)) && apart (left ++ right)) e in
    let rows = and_parts (sized left) (sized right) p.0 in
    let cells = and_parts (every (λ i. nat_lt (slice_index (left ++ right) i) n) (length (left ++ right))) (apart (left ++ right)) p.1 in
    record {
      left_sized = sized_only left rows.0;
      right_sized = sized_only right rows.1;
      below = (every_decides (λ i. nat_lt (slice_index (left ++ right) i) n) (λ i. slice_index (left ++ right) i < n) (λ i. Decides-ltb (slice_index (left ++ right) i) n) (length (left ++ right))).0 cells.0;
      apart = λ i j l h. far (left ++ right) cells.1 j h i l;
    }
  where
    far : (cs : List ℕ) → apart cs ≡ true → (j : ℕ) → j < length cs → (i : ℕ) → i < j → slice_index cs i ≡ slice_index cs j → ⊥
    far cs t =
        (every_decides (λ j. every (λ i. not (slice_index cs i == slice_index cs j)) j) (λ j. (i : ℕ) → i < j → slice_index cs i ≡ slice_index cs j → ⊥)
        (λ j. every_decides (λ i. not (slice_index cs i == slice_index cs j)) (λ i. slice_index cs i ≡ slice_index cs j → ⊥)
        (λ i. Decides-not (slice_index cs i == slice_index cs j) (Decides-eqb (slice_index cs i) (slice_index cs j))) j)
        (length cs)).0 t

-- all members are ranks
abbrev pub ranks : List ℕ → Bool
ranks [] = true
ranks (x ∷ xs) = nat_lt x 48 && ranks xs

pub ranks_only : (xs : List ℕ) → ranks xs ≡ true → AllByRecursion (λ r. r < 48) xs
ranks_only [] e = tt
ranks_only (x ∷ xs) e =
    let p = and_parts (nat_lt x 48) (ranks xs) e in
    ((Decides-ltb x 48).0 p.0, ranks_only xs p.1)
