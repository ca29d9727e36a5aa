-- One more order of a file that is read order by order, and its two ends; a survey's count.
use Rattle.std.proofs.Common.{◌≡◌, ℕ, ◌+◌, ◌<◌, ◌≤◌, List, [], ◌∷◌, length, get_or, take, drop, sym, refl, ap, ◌∙◌, subst, arith}
use Rattle.std.specs.List.{AllByRecursion}
use Rattle.std.proofs.ByRecursion.{All-from_get_or}
use Rattle.orders.specs.Said.{Said}
use Rattle.orders.specs.Parse.{Parsed, Next, order, nothing, cut, unknown, parse, answer_at, onward_from, ended, found, faulty, next_of, place_after}
use Rattle.orders.specs.Format.{encodings, Bytes, Fits, Faulty, Ending, whole, broken, Reads, done, fault, more}
use Rattle.orders.proofs.Ends.{advances}
use Rattle.orders.proofs.Files.{format}

-- however the file is read from p on, so it is read from its start, and P holds of all the orders and of those from p on
abbrev pub Leads : List ℕ → ℕ → (List Said → List Said → Type 0) → Type 0
Leads fs p P = (ss : List Said) (e : Ending) → Reads fs p ss e → (ts : List Said) × Reads fs 0 ts e × P ts ss

-- what the reader, which holds gs, finds at p is what stands there in fs
found_in : (fs gs : List ℕ) (p : ℕ) (x : Next) → gs ≡ fs → x ≡ next_of gs p → next_of fs p ≡ x
found_in fs gs p x g i = ap (λ (l : List ℕ). next_of l p) (sym g) ∙ sym i

-- one more order
pub turn : {P Q : List Said → List Said → Type 0} (fs gs : List ℕ) (p q : ℕ) (s : Said) → gs ≡ fs → found s ≡ next_of gs p → q ≡ place_after gs p → Leads fs p P →
    ((ts ss : List Said) → P ts (s ∷ ss) → Q ts ss) → (p < q) × Leads fs q Q
turn fs gs p q s g i j leads on =
    let a : next_of fs p ≡ found s = found_in fs gs p (found s) g i in
    let b : place_after fs p ≡ q = ap (λ (l : List ℕ). place_after l p) (sym g) ∙ sym j in (
      omega (arith, advances fs p s a),
      λ ss e r.
          let t = leads (s ∷ ss) e (more a (subst (λ (k : ℕ). Reads fs k ss e) (sym b) r)) in
          (t.0, t.1, on t.0 ss t.2),
    )

-- the two ends
pub ends : {P : List Said → List Said → Type 0} (fs gs : List ℕ) (p : ℕ) → gs ≡ fs → ended ≡ next_of gs p → Leads fs p P → (ts : List Said) × Reads fs 0 ts (whole p) × P ts []
ends fs gs p g i leads = leads [] (whole p) (done (found_in fs gs p ended g i))

pub breaks : {P : List Said → List Said → Type 0} (fs gs : List ℕ) (p k q : ℕ) → gs ≡ fs → faulty k q ≡ next_of gs p → Leads fs p P → (ts : List Said) × Reads fs 0 ts (broken k q) × P ts []
breaks fs gs p k q g i leads = leads [] (broken k q) (fault (found_in fs gs p (faulty k q) g i))

-- a list whose every element, as the code reads it, is a byte
pub bytes_of : (fs : List ℕ) → ((i : ℕ) → get_or fs i 0 < 256) → Bytes fs
bytes_of fs h = All-from_get_or (λ b. b < 256) fs 0 (λ i _. h i)

stays_from : (p : ℕ) (x : Parsed) → ended ≡ answer_at p x → onward_from p x ≡ p
stays_from p (order s n) i = absurd cc
stays_from p nothing i = refl
stays_from p cut i = refl
stays_from p unknown i = refl

-- at the end of a file the reader stays
stays_at : (fs : List ℕ) (p : ℕ) → ended ≡ next_of fs p → place_after fs p ≡ p
stays_at fs p i = stays_from p (parse fs p) i

-- how many orders there are, where n came before those from p on
abbrev pub Counts : ℕ → List Said → List Said → Type 0
Counts n ts ss = length ts ≡ n + length ss

pub at_end : (fs gs : List ℕ) (p q n : ℕ) → Bytes fs → gs ≡ fs → ended ≡ next_of gs p → q ≡ place_after gs p → Leads fs p (Counts n) →
    (ss : List Said) × (length ss ≡ n) × AllByRecursion Fits ss × ((fs ≡ encodings ss) × (q ≡ length fs))
at_end fs gs p q n h g i j leads =
    let t = ends fs gs p g i leads in
    let f = (format.whole_file fs t.0 p h).0 t.1 in
    (t.0, omega (arith, t.2), f.0, (f.1, j ∙ stays_at gs p i ∙ f.2))

pub at_fault : (fs gs : List ℕ) (p n k q : ℕ) → Bytes fs → gs ≡ fs → faulty k q ≡ next_of gs p → Leads fs p (Counts n) →
    (ss : List Said) × (length ss ≡ n) × AllByRecursion Fits ss × ((take q fs ≡ encodings ss) × (q ≤ length fs) × Faulty k (drop q fs))
at_fault fs gs p n k q h g i leads =
    let t = breaks fs gs p k q g i leads in
    let f = (format.broken_file fs t.0 k q h).0 t.1 in
    (t.0, omega (arith, t.2), f.0, (f.1, f.2, f.3))
