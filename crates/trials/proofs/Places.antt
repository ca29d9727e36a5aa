-- The open trials by the places of the table.
use Rattle.std.proofs.Common.{◌≡◌, ℕ, zero, suc, ◌+◌, ◌-◌, ◌<◌, ◌≤◌, List, [], ◌∷◌, ◌++◌, length, take, drop, map, reverse, set, sym, refl, ap, ◌∙◌, subst, append_assoc, arith, ◌≢◌}
use Rattle.std.specs.Prelude.{Option, Some, None, MatchOption, nat_eq}
use Rattle.std.specs.List.{AllByRecursion, position}
use Rattle.std.proofs.lemmas.Grind.{common_steps}
use Rattle.std.proofs.lemmas.List.Quantifiers.{position-Some}
use Rattle.std.proofs.lemmas.List.Sums.{fails_before_first}
use Rattle.std.proofs.lemmas.List.{reverse-append, map-append, take-append-drop, take-take, take_more_set, get_or-take, length-take-le, length-map, length-reverse}
use Rattle.std.proofs.Math.Seq.{split_at}
use Rattle.trials.specs.Saved.{Trial, trial, trials_from, at, Numbered}
use Rattle.trials.specs.Trials.{trials_of, NotAmong, Ends}
use Rattle.trials.specs.declared.saved.Saved.{Saved}
use Rattle.trials.specs.declared.table.TrialTable.{TrialTable}

from_append : (os ns : List Saved) → trials_from (os ++ ns) ≡ trials_from ns ++ trials_from os
from_append os ns = ap (map trial) (reverse-append os ns) ∙ map-append trial (reverse ns) (reverse os)

-- the newer ones, the one at a place, and the older ones
pub around : (os ns : List Saved) (x : Saved) → trials_from (os ++ (x ∷ ns)) ≡ trials_from ns ++ (trial x ∷ trials_from os)
around os ns x = from_append os (x ∷ ns) ∙ ap (λ (xs : List Trial). xs ++ trials_from os) (from_append (x ∷ []) ns) ∙ append_assoc (trials_from ns) (trial x ∷ []) (trials_from os)

-- one more is put behind
pub front_put : (ss : List Saved) (x : Saved) → trials_from (ss ++ x ∷ []) ≡ trial x ∷ trials_from ss
front_put ss x = around ss [] x

-- the trial at a place, and the older ones
pub ends_at : (ss : List Saved) (t p : ℕ) → p < length ss → (at ss p).number ≡ t → Ends t (trials_from ss) (trial (at ss p)) (trials_from (take p ss))
ends_at ss t p h q = record {
  newer = trials_from (drop (suc p) ss);
  split = ap trials_from (split_at ss p _ h) ∙ around (take p ss) (drop (suc p) ss) (at ss p);
  named = q;
}

all_behind : (P : Trial → Type 0) (xs : List Trial) (y : Trial) → AllByRecursion P xs → P y → AllByRecursion P (xs ++ y ∷ [])
all_behind P [] y h p = (p, tt)
all_behind P (x ∷ xs) y h p = (h.0, all_behind P xs y h.1 p)

-- what holds at each place holds of each trial
each_from : (P : Trial → Type 0) (ss : List Saved) → ((k : ℕ) → k < length ss → P (trial (at ss k))) → AllByRecursion P (trials_from ss)
each_from P [] f = tt
each_from P (s ∷ ss) f = rw (around [] ss s) (all_behind P (trials_from ss) (trial s) (each_from P ss (λ k h. f (suc k) (omega (arith, h)))) (f zero (omega arith)))

-- the first place with a number is that of the trial that ends
pub placed : (ss : List Saved) (t : ℕ) (r : Option ℕ) → r ≡ position (λ s. nat_eq s.number t) ss
    → MatchOption r (NotAmong t (trials_from ss)) (λ p. (p < length ss) × Ends t (trials_from ss) (trial (at ss p)) (trials_from (take p ss)))
placed ss t None e = each_from (λ x. x.number ≢ t) ss (λ k h q. let f = fails_before_first (λ s. nat_eq s.number t) ss k (at [] 0) in grind (arith, common_steps))
placed ss t (Some p) e = let w = position-Some (λ s. nat_eq s.number t) ss p (at [] 0) (sym e) in (w.0, ends_at ss t p w.0 (grind (arith, w.1)))

-- the same of the first n places
ends_in : (ss : List Saved) (n t p : ℕ) → n ≤ length ss → p < n → (at ss p).number ≡ t → Ends t (trials_from (take n ss)) (trial (at ss p)) (trials_from (take p ss))
ends_in ss n t p h l q =
    let e : at (take n ss) p ≡ at ss p = get_or-take n ss p (at [] 0) l in
    let w = ends_at (take n ss) t p (omega (arith, l, length-take-le n ss h)) (ap (λ (x : Saved). x.number) e ∙ q) in
    subst (λ (x : Saved). Ends t (trials_from (take n ss)) (trial x) (trials_from (take p ss))) e
    (subst (λ (xs : List Saved). Ends t (trials_from (take n ss)) (trial (at (take n ss) p)) (trials_from xs)) (take-take p n ss (omega (arith, l))) w)

pub placed_in : (ss : List Saved) (n t : ℕ) (r : Option ℕ) → n ≤ length ss → r ≡ position (λ s. nat_eq s.number t) (take n ss)
    → MatchOption r (NotAmong t (trials_from (take n ss))) (λ p. (p < n) × Ends t (trials_from (take n ss)) (trial (at ss p)) (trials_from (take p ss)))
placed_in ss n t None h e = placed (take n ss) t None e
placed_in ss n t (Some p) h e =
    let w = placed (take n ss) t (Some p) e in
    let l : p < n = omega (arith, w.0, length-take-le n ss h) in
    (l, ends_in ss n t p h l (sym (ap (λ (x : Saved). x.number) (get_or-take n ss p (at [] 0) l)) ∙ w.1.named))

-- the numbers of the older ones, and those with one more
pub numbered_rear : (g : ℕ) (newer older : List Trial) → Numbered g (newer ++ older) → Numbered g older
numbered_rear g [] older h = h
numbered_rear g (x ∷ newer) older h = numbered_rear g newer older h.3

below_next : (g : ℕ) (xs : List Trial) → Numbered g xs → AllByRecursion (λ y. y.number < g + 1) xs
below_next g [] h = tt
below_next g (x ∷ xs) h = (omega (arith, h.1), below_next g xs h.3)

more_granted : (g : ℕ) (xs : List Trial) → Numbered g xs → Numbered (g + 1) xs
more_granted g [] h = tt
more_granted g (x ∷ xs) h = (h.0, omega (arith, h.1), h.2, more_granted g xs h.3)

pub numbered_front : (g : ℕ) (x : Trial) (xs : List Trial) → x.number ≡ g + 1 → Numbered g xs → Numbered (g + 1) (x ∷ xs)
numbered_front g x xs q h = (omega (arith, q), omega (arith, q), rw q (below_next g xs h), more_granted g xs h)

-- a place past the end cuts nothing
pub numbered_cut : (g : ℕ) (ss : List Saved) (p : ℕ) → Numbered g (trials_from ss) → Numbered g (trials_from (take p ss))
numbered_cut g ss p n =
    numbered_rear g (trials_from (drop p ss)) (trials_from (take p ss)) (subst (Numbered g) (ap trials_from (sym (take-append-drop p ss)) ∙ from_append (take p ss) (drop p ss)) n)

-- what the count of a table says of its trials
pub count_of : (t : TrialTable) → t.count ≡ length (trials_of t)
count_of t =
    sym (length-map (reverse (take t.count t.saved)) trial ∙ length-reverse (take t.count t.saved) ∙ length-take-le t.count t.saved (omega (arith, t.few, t.long)))

pub room_of : (t : TrialTable) → length (trials_of t) < 16 → t.count < length t.saved
room_of t h = omega (arith, h, count_of t, t.long)

pub few_more : (t : TrialTable) → length (trials_of t) < 16 → t.count + 1 ≤ 16
few_more t h = omega (arith, h, count_of t)

-- one more is put at the place behind the others
pub put_front : (t : TrialTable) (x : Saved) → length (trials_of t) < 16 → trials_from (take (t.count + 1) (set t.saved t.count x)) ≡ trial x ∷ trials_of t
put_front t x h = ap trials_from (take_more_set t.saved t.count x (room_of t h)) ∙ front_put (take t.count t.saved) x

pub put_numbered : (t : TrialTable) (x : Saved) → length (trials_of t) < 16 → x.number ≡ t.granted + 1 → Numbered (t.granted + 1) (trials_from (take (t.count + 1) (set t.saved t.count x)))
put_numbered t x h q = subst (Numbered (t.granted + 1)) (sym (put_front t x h)) (numbered_front t.granted (trial x) (trials_of t) q t.numbered)

-- the trials from a place on end
pub cut_numbered : (t : TrialTable) (p : ℕ) → p ≤ t.count → Numbered t.granted (trials_from (take p t.saved))
cut_numbered t p h =
    subst (λ (ss : List Saved). Numbered t.granted (trials_from ss)) (take-take p t.count t.saved h) (numbered_cut t.granted (take t.count t.saved) p t.numbered)

-- the trial at a place: its number is among those granted, and the older ones have lower numbers, so that as few could be granted
number_at : (t : TrialTable) (p : ℕ) → p < t.count → Numbered t.granted (trial (at t.saved p) ∷ trials_from (take p t.saved))
number_at t p h =
    let e = ends_in t.saved t.count (at t.saved p).number p (omega (arith, t.few, t.long)) h refl in
    numbered_rear t.granted e.newer (trial (at t.saved p) ∷ trials_from (take p t.saved)) (subst (Numbered t.granted) e.split t.numbered)

fewer_granted : (g n : ℕ) (xs : List Trial) → 1 ≤ n → AllByRecursion (λ y. y.number < n) xs → Numbered g xs → Numbered (n - 1) xs
fewer_granted g n [] s a h = tt
fewer_granted g n (x ∷ xs) s a h = (h.0, omega (arith, s, a.0), h.2, fewer_granted g n xs s a.1 h.3)

pub some_at : (t : TrialTable) (p : ℕ) → p < t.count → 1 ≤ (at t.saved p).number
some_at t p h = (number_at t p h).0

pub granted_at : (t : TrialTable) (p : ℕ) → p < t.count → (at t.saved p).number ≤ t.granted
granted_at t p h = (number_at t p h).1

pub older_numbered : (t : TrialTable) (p : ℕ) → p < t.count → Numbered ((at t.saved p).number - 1) (trials_from (take p t.saved))
older_numbered t p h = let n = number_at t p h in fewer_granted t.granted (at t.saved p).number (trials_from (take p t.saved)) n.0 n.2 n.3
