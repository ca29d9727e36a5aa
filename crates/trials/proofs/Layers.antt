-- The trials of a store by those of its table.
use Rattle.std.proofs.Common.{arith, sym, refl, subst, ap, ap₂, ◌∙◌}
use Rattle.std.specs.Prelude.{◌≡◌, ℕ, List, [], ◌∷◌, map, length, take, Ok, Err, Result, MatchResult, slice_set}
use Rattle.std.specs.List.{AllByRecursion}
use Rattle.std.proofs.lemmas.List.{length-set, length-map}
use Rattle.stores.specs.Stores.{Savable, Accepted, Refused}
use Rattle.stores.specs.declared.store.Store.{Ghosts}
use Rattle.stores.specs.declared.faults.WriteFault.{WriteFault}
use Rattle.trials.specs.Saved.{Trial, trial}
use Rattle.trials.specs.Trials.{trials_of, NotAmong, Opens, CannotOpen, Ends, CannotEnd}
use Rattle.trials.specs.Saving.{of_cells, trials_over, opened, Sound}
use Rattle.trials.specs.TrialStores.{open_trials, IsSound, Apart, Closed, Undone}
use Rattle.trials.specs.declared.saved.Saved.{Saved}
use Rattle.trials.specs.declared.table.TrialTable.{TrialTable}
use Rattle.trials.specs.declared.trial_store.TrialStore.{TrialStore}
use Rattle.trials.specs.declared.faults.TrialFault.{TrialFault}
use Rattle.trials.specs.declared.faults.TrialFault.TheVariants.{TooManyOpen, AllGranted, NotOpen}
use Rattle.trials.proofs.Ending.{ends_that, ends_map, apart_same, apart_opens, apart_ends}

cannot_open_map : (f : Trial → Trial) (xs : List Trial) (g : ℕ) (e : TrialFault) → CannotOpen xs g e → CannotOpen (map f xs) g e
cannot_open_map f xs g TooManyOpen h = omega (arith, h, length-map xs f)
cannot_open_map f xs g AllGranted h = (omega (arith, h.0, length-map xs f), h.1)
cannot_open_map f xs g NotOpen h = h

none_map : (n t : ℕ) (xs : List Trial) → NotAmong t xs → NotAmong t (map (of_cells n) xs)
none_map n t [] h = tt
none_map n t (x ∷ xs) h = (h.0, none_map n t xs h.1)

pub cannot_end_map : (n t : ℕ) (xs : List Trial) (e : TrialFault) → CannotEnd t xs e → CannotEnd t (map (of_cells n) xs) e
cannot_end_map n t xs TooManyOpen h = h
cannot_end_map n t xs AllGranted h = h
cannot_end_map n t xs NotOpen h = none_map n t xs h

-- two stores with trials are one where the stores below and the tables are
pub same_store : {S : Type 0} (s t : TrialStore S) → s.below ≡ t.below → s.table ≡ t.table → s ≡ t
same_store {S} s t p q = ap₂ (λ (b : S) (u : TrialTable). record { below = b; table = u }) p q

pub same_apart : (n : ℕ) (t u : TrialTable) → u ≡ t → Apart t.granted (trials_over n t) u.granted (trials_over n u)
same_apart n t u q = apart_same t.granted (trials_over n t) u.granted (trials_over n u) (ap (λ (v : TrialTable). v.granted) q) (ap (trials_over n) q)

-- the store below becomes c, of as many cells and the same width
pub write_sound : {S : Type 0} (m : Ghosts S) (b c : S) (t : TrialTable) → length (m.cells c) ≡ length (m.cells b) → m.width c ≡ m.width b → Sound m b t → Sound m c t
write_sound m b c t count scale h =
    subst (λ (k : ℕ). AllByRecursion (λ y. Savable m.holds (m.width c) k y.masks) (trials_of t)) (sym count)
    (subst (λ (d : ℕ). AllByRecursion (λ y. Savable m.holds d (length (m.cells b)) y.masks) (trials_of t)) (sym scale) h)

-- a trial of the table is opened, with the masks of the cells
module _ {S : Type 0} (m : Ghosts S) (b : S) (t u : TrialTable) (xs : List ℕ) where
  abbrev pub Answered : Result ℕ TrialFault → Type 0
  Answered r = MatchResult r (λ k. Opens (trials_of t) t.granted (record { number = k; note = 0; masks = xs }) (trials_of u) u.granted) (λ e. CannotOpen (trials_of t) t.granted e × (u ≡ t))

  module _ (same : take (length (m.cells b)) xs ≡ m.cells b) where
    over : (k : ℕ) → Opens (trials_of t) t.granted (record { number = k; note = 0; masks = xs }) (trials_of u) u.granted
        → Opens (trials_over (length (m.cells b)) t) t.granted (opened k (m.cells b)) (trials_over (length (m.cells b)) u) u.granted
    over k o =
        let f = of_cells (length (m.cells b)) in
        record {
          few = omega (arith, o.few, length-map (trials_of t) f);
          left = o.left;
          next = o.next;
          front = ap (map f) o.front ∙ ap (λ (ys : List ℕ). opened k ys ∷ map f (trials_of t)) same;
          spent = o.spent;
        }

    pub open_outcome : (X : Type 0) → (u ≡ t → X) → (r : Result ℕ TrialFault) → Answered r
        → MatchResult r (λ k. Opens (trials_over (length (m.cells b)) t) t.granted (opened k (m.cells b)) (trials_over (length (m.cells b)) u) u.granted × (b ≡ b))
        (λ e. CannotOpen (trials_over (length (m.cells b)) t) t.granted e × X)
    open_outcome X f (Ok k) o = (over k o, refl)
    open_outcome X f (Err e) o = (cannot_open_map (of_cells (length (m.cells b))) (trials_of t) t.granted e o.0, f o.1)

    pub open_apart : (r : Result ℕ TrialFault) → Answered r → Apart t.granted (trials_over (length (m.cells b)) t) u.granted (trials_over (length (m.cells b)) u)
    open_apart (Ok k) o = apart_opens t.granted (trials_over (length (m.cells b)) t) (opened k (m.cells b)) u.granted (trials_over (length (m.cells b)) u) (over k o)
    open_apart (Err e) o = same_apart (length (m.cells b)) t u o.1

-- a trial of the table ends
module _ {S : Type 0} (m : Ghosts S) (s : TrialStore S) (u : TrialTable) (n : ℕ) where
  abbrev EndAnswered : Result Saved TrialFault → Type 0
  EndAnswered r = MatchResult r (λ x. Ends n (trials_of s.table) (trial x) (trials_of u) × (u.granted ≡ s.table.granted)) (λ e. CannotEnd n (trials_of s.table) e × (u ≡ s.table))

  abbrev ended : TrialStore S
  ended = record { below = s.below; table = u }

  pub end_outcome : (r : Result Saved TrialFault) → EndAnswered r → MatchResult r (λ x. Closed m n x s ended) (λ e. CannotEnd n (open_trials m s) e × (ended ≡ s))
  end_outcome (Ok x) o = record {
    kept = record {
      that = of_cells (length (m.cells s.below)) (trial x);
      ends = ends_map (of_cells (length (m.cells s.below))) n (trials_of s.table) (trial x) (trials_of u) refl o.0;
      below = refl;
      granted = o.1;
    };
    saved = refl;
    can = λ h. (ends_that (λ y. Savable m.holds (m.width s.below) (length (m.cells s.below)) y.masks) n (trials_of s.table) (trial x) (trials_of u) o.0 h).0;
  }
  end_outcome (Err e) o = (cannot_end_map (length (m.cells s.below)) n (trials_of s.table) e o.0, same_store ended s refl o.1)

  pub ended_sound : (r : Result Saved TrialFault) → EndAnswered r → IsSound m s → IsSound m ended
  ended_sound (Ok x) o h = (ends_that (λ y. Savable m.holds (m.width s.below) (length (m.cells s.below)) y.masks) n (trials_of s.table) (trial x) (trials_of u) o.0 h).1
  ended_sound (Err e) o h = subst (Sound m s.below) (sym o.1) h

  pub end_apart : (r : Result Saved TrialFault) → EndAnswered r → Apart s.table.granted (open_trials m s) u.granted (trials_over (length (m.cells s.below)) u)
  end_apart (Ok x) o = apart_ends n s.table.granted (open_trials m s) (of_cells (length (m.cells s.below)) (trial x)) u.granted (trials_over (length (m.cells s.below)) u) o.1
      (ends_map (of_cells (length (m.cells s.below))) n (trials_of s.table) (trial x) (trials_of u) refl o.0)
  end_apart (Err e) o = same_apart (length (m.cells s.below)) s.table u o.1

-- the store below is written to, and has as many cells and the same width: what can be written back still can
pub restored_sound : {S : Type 0} (m : Ghosts S) (s t : TrialStore S) (b : S) → length (m.cells b) ≡ length (m.cells t.below) → m.width b ≡ m.width t.below
    → (IsSound m s → IsSound m t) → IsSound m s → IsSound m (record { below = b; table = t.table })
restored_sound m s t b count scale f h = write_sound m t.below b t.table count scale (f h)

-- and then its masks are written back to the store below
module _ {S : Type 0} (m : Ghosts S) (s t : TrialStore S) (n : ℕ) (x : Saved) (o : Closed m n x s t) (b : S) (count : length (m.cells b) ≡ length (m.cells t.below)) where
  restored_ends : Ends n (open_trials m s) o.kept.that (trials_over (length (m.cells b)) t.table)
  restored_ends = subst (λ (k : ℕ). Ends n (open_trials m s) o.kept.that (trials_over k t.table)) (sym count) o.kept.ends

  pub restored_apart : Apart s.table.granted (open_trials m s) t.table.granted (trials_over (length (m.cells b)) t.table)
  restored_apart = apart_ends n s.table.granted (open_trials m s) o.kept.that t.table.granted (trials_over (length (m.cells b)) t.table) o.kept.granted restored_ends

  pub restored_undone : m.width b ≡ m.width t.below → m.stays t.below b
      → (Savable m.holds (m.width t.below) (length (m.cells t.below)) x.masks → m.cells b ≡ take (length (m.cells t.below)) x.masks)
      → Undone m n s (record { below = b; table = t.table })
  restored_undone scale stays same = record {
    that = o.kept.that;
    ends = restored_ends;
    back = λ h. same (o.can h) ∙ ap (λ (c : S). take (length (m.cells c)) x.masks) o.kept.below ∙ sym (ap (λ (y : Trial). y.masks) o.saved);
    count = count ∙ ap (λ (c : S). length (m.cells c)) o.kept.below;
    scale = scale ∙ ap m.width o.kept.below;
    rest = subst (λ (c : S). m.stays c b) o.kept.below stays;
    granted = o.kept.granted;
  }

-- a write to the store below leaves the number of its cells
pub write_count : {S : Type 0} (m : Ghosts S) (b c : S) (cell mask : ℕ) (r : Result Unit WriteFault)
    → MatchResult r (λ _. Accepted m.holds (length (m.cells b)) (m.width b) cell mask × (m.cells c ≡ slice_set (m.cells b) cell mask))
    (λ e. Refused m.holds (length (m.cells b)) (m.width b) cell mask e × (c ≡ b))
    → length (m.cells c) ≡ length (m.cells b)
write_count m b c cell mask (Ok x) o = ap length o.1 ∙ length-set (m.cells b) cell mask
write_count m b c cell mask (Err e) o = ap (λ (s : _). length (m.cells s)) o.1

pub write_outcome : {S : Type 0} (m : Ghosts S) (b c : S) (cell mask : ℕ) (r : Result Unit WriteFault) (X : Type 0) → (c ≡ b → X)
    → MatchResult r (λ _. Accepted m.holds (length (m.cells b)) (m.width b) cell mask × (m.cells c ≡ slice_set (m.cells b) cell mask))
    (λ e. Refused m.holds (length (m.cells b)) (m.width b) cell mask e × (c ≡ b))
    → MatchResult r (λ _. Accepted m.holds (length (m.cells b)) (m.width b) cell mask × (m.cells c ≡ slice_set (m.cells b) cell mask))
    (λ e. Refused m.holds (length (m.cells b)) (m.width b) cell mask e × X)
write_outcome m b c cell mask (Ok x) X f o = o
write_outcome m b c cell mask (Err e) X f o = (o.0, f o.1)
