-- That what is saved can be written back: a new store with trials is sound, and whatever a call leaves is sound where what it found was.
use Rattle.std.proofs.Common.{sym, refl, subst, ap, ◌∙◌}
use Rattle.std.specs.Prelude.{◌≡◌, ℕ, List, [], ◌∷◌, map, length, take, slice_set, Ok, Err, Result, MatchResult}
use Rattle.std.specs.List.{AllByRecursion}
use Rattle.std.proofs.lemmas.List.{get_or-take}
use Rattle.stores.specs.Stores.{Holdable, Laws, Savable, Accepted, Refused}
use Rattle.stores.specs.declared.store.Store.{Ghosts}
use Rattle.stores.specs.declared.faults.WriteFault.{WriteFault}
use Rattle.trials.specs.Saved.{Trial, trial}
use Rattle.trials.specs.Trials.{trials_of, Ends}
use Rattle.trials.specs.Saving.{of_cells, trials_over, Sound}
use Rattle.trials.specs.TrialStores.{open_trials, IsSound, Apart, OpenAnswers, KeepAnswers, Rests, UndoAnswers}
use Rattle.trials.specs.Rehearsals.{Step, Ran}
use Rattle.trials.specs.declared.saved.Saved.{Saved}
use Rattle.trials.specs.declared.table.TrialTable.{TrialTable}
use Rattle.trials.specs.declared.trial_store.TrialStore.{TrialStore}
use Rattle.trials.specs.declared.faults.TrialFault.{TrialFault}
use Rattle.trials.specs.declared.rehearsal.TrialCall.{TrialCall}
use Rattle.trials.specs.declared.rehearsal.TrialCall.TheVariants.{Write, Open, Undo, Keep}
use Rattle.trials.proofs.Ending.{ends_that, ends_map, apart_ends}
use Rattle.trials.proofs.Layers.{same_store, same_apart, write_sound, write_count, Answered}

-- the table is as it was
module _ {S : Type 0} (m : Ghosts S) (b : S) (t u : TrialTable) (q : u ≡ t) where
  pub kept_sound : Sound m b t → Sound m b u
  kept_sound h = subst (Sound m b) (sym q) h

  pub kept_apart : Apart t.granted (trials_over (length (m.cells b)) t) u.granted (trials_over (length (m.cells b)) u)
  kept_apart = same_apart (length (m.cells b)) t u q

pub kept_whole : {S : Type 0} (s t : TrialStore S) → s.below ≡ t.below → s.table ≡ t.table → s ≡ t
kept_whole = same_store

-- a trial of the table is opened, with the masks of the cells
pub open_sound : {S : Type 0} (m : Ghosts S) (b : S) (t u : TrialTable) (xs : List ℕ) → Savable m.holds (m.width b) (length (m.cells b)) xs → (r : Result ℕ TrialFault) → Answered m b t u xs r → Sound m b t → Sound m b u
open_sound m b t u xs can (Ok k) o h = subst (AllByRecursion (λ x. Savable m.holds (m.width b) (length (m.cells b)) x.masks)) (sym o.front) (can, h)
open_sound m b t u xs can (Err e) o h = kept_sound m b t u o.1 h

-- a trial of the table ends, and the store below becomes c, of as many cells and the same width
module _ {S : Type 0} (m : Ghosts S) (b c : S) (t u : TrialTable) (n : ℕ) (x : Saved)
    (count : length (m.cells c) ≡ length (m.cells b)) (scale : m.width c ≡ m.width b) (e : Ends n (trials_of t) (trial x) (trials_of u)) where
  pub end_ends : Ends n (trials_over (length (m.cells b)) t) (of_cells (length (m.cells b)) (trial x)) (trials_over (length (m.cells c)) u)
  end_ends =
      let f = of_cells (length (m.cells b)) in
      subst (λ (k : ℕ). Ends n (map f (trials_of t)) (f (trial x)) (map (of_cells k) (trials_of u))) (sym count) (ends_map f n (trials_of t) (trial x) (trials_of u) refl e)

  pub end_sound : Sound m b t → Sound m c u
  end_sound h =
      let older = (ends_that (λ y. Savable m.holds (m.width b) (length (m.cells b)) y.masks) n (trials_of t) (trial x) (trials_of u) e h).1 in
      subst (λ (k : ℕ). AllByRecursion (λ y. Savable m.holds (m.width c) k y.masks) (trials_of u)) (sym count)
      (subst (λ (d : ℕ). AllByRecursion (λ y. Savable m.holds d (length (m.cells b)) y.masks) (trials_of u)) (sym scale) older)

  pub end_can : Sound m b t → Savable m.holds (m.width b) (length (m.cells b)) x.masks
  end_can h = (ends_that (λ y. Savable m.holds (m.width b) (length (m.cells b)) y.masks) n (trials_of t) (trial x) (trials_of u) e h).0

  pub end_apart : u.granted ≡ t.granted → Apart t.granted (trials_over (length (m.cells b)) t) u.granted (trials_over (length (m.cells c)) u)
  end_apart q =
      apart_ends n t.granted (trials_over (length (m.cells b)) t) (of_cells (length (m.cells b)) (trial x)) u.granted (trials_over (length (m.cells c)) u) q end_ends

-- a write to the store below leaves the trials
pub write_rests : {S : Type 0} (m : Ghosts S) (s t : TrialStore S) → t.table ≡ s.table → length (m.cells t.below) ≡ length (m.cells s.below) → m.width t.below ≡ m.width s.below → Rests m s t
write_rests m s t q count scale = record {
  trials = ap (λ (k : ℕ). trials_over k t.table) count ∙ ap (trials_over (length (m.cells s.below))) q;
  granted = ap (λ (u : TrialTable). u.granted) q;
  sound = λ h. subst (Sound m t.below) (sym q) (write_sound m s.below t.below s.table count scale h);
}

pub rests_same : {S : Type 0} (m : Ghosts S) (s : TrialStore S) → Rests m s s
rests_same m s = record { trials = refl; granted = refl; sound = λ h. h }

pub rests_then : {S : Type 0} (m : Ghosts S) (s t u : TrialStore S) → Rests m s t → Rests m t u → Rests m s u
rests_then m s t u p q = record { trials = q.trials ∙ p.trials; granted = q.granted ∙ p.granted; sound = λ h. q.sound (p.sound h) }

-- what can be written back of n cells can be so of the first n masks, and the other way
module _ (holds : ℕ → ℕ → Type 0) (d n : ℕ) where
  front : (xs : List ℕ) → Savable holds d n xs → Savable holds d n (take n xs)
  front xs h k l = subst (Holdable holds d) (sym (get_or-take n xs k 0 l)) (h k l)

  whole : (xs : List ℕ) → Savable holds d n (take n xs) → Savable holds d n xs
  whole xs h k l = subst (Holdable holds d) (get_or-take n xs k 0 l) (h k l)

  fronts : (xs : List Trial) → AllByRecursion (λ x. Savable holds d n x.masks) xs → AllByRecursion (λ x. Savable holds d n x.masks) (map (of_cells n) xs)
  fronts [] h = tt
  fronts (x ∷ xs) h = (front x.masks h.0, fronts xs h.1)

  wholes : (xs : List Trial) → AllByRecursion (λ x. Savable holds d n x.masks) (map (of_cells n) xs) → AllByRecursion (λ x. Savable holds d n x.masks) xs
  wholes [] h = tt
  wholes (x ∷ xs) h = (whole x.masks h.0, wholes xs h.1)

-- what is saved for each of some trials can be written back
abbrev Saves : (ℕ → ℕ → Type 0) → ℕ → ℕ → List Trial → Type 0
Saves holds d n xs = AllByRecursion (λ x. Savable holds d n x.masks) xs

module _ {S : Type 0} (m : Ghosts S) where
  saves : (s : TrialStore S) → IsSound m s → Saves m.holds (m.width s.below) (length (m.cells s.below)) (open_trials m s)
  saves s h = fronts m.holds (m.width s.below) (length (m.cells s.below)) (trials_of s.table) h

  saved : (s t : TrialStore S) → length (m.cells t.below) ≡ length (m.cells s.below) → m.width t.below ≡ m.width s.below
      → Saves m.holds (m.width s.below) (length (m.cells s.below)) (open_trials m t) → IsSound m t
  saved s t count scale h =
      wholes m.holds (m.width t.below) (length (m.cells t.below)) (trials_of t.table)
      (subst (λ (n : ℕ). Saves m.holds (m.width t.below) n (open_trials m t)) (sym count) (subst (λ (d : ℕ). Saves m.holds d (length (m.cells s.below)) (open_trials m t)) (sym scale) h))

  unchanged : (s t : TrialStore S) → t ≡ s → IsSound m s → IsSound m t
  unchanged s t e h = subst (IsSound m) (sym e) h

  -- without trials there is nothing to write back
  pub sound_new : (s : TrialStore S) → open_trials m s ≡ [] → IsSound m s
  sound_new s e =
      wholes m.holds (m.width s.below) (length (m.cells s.below)) (trials_of s.table)
      (subst (Saves m.holds (m.width s.below) (length (m.cells s.below))) (sym e) tt)

  pub sound_opens : Laws m.cells m.width m.holds m.stays → (s t : TrialStore S) (r : Result ℕ TrialFault) → OpenAnswers m s t r → IsSound m s → IsSound m t
  sound_opens laws s t (Ok k) o h =
      saved s t (ap (λ (b : S). length (m.cells b)) o.1) (ap m.width o.1)
      (subst (Saves m.holds (m.width s.below) (length (m.cells s.below))) (sym o.0.front) ((laws.formed s.below).each, saves s h))
  sound_opens laws s t (Err e) o h = unchanged s t o.1 h

  sound_ends : (n : ℕ) (s t : TrialStore S) (that : Trial) → Ends n (open_trials m s) that (open_trials m t) → length (m.cells t.below) ≡ length (m.cells s.below) → m.width t.below ≡ m.width s.below
      → IsSound m s → IsSound m t
  sound_ends n s t that e count scale h =
      saved s t count scale (ends_that (λ y. Savable m.holds (m.width s.below) (length (m.cells s.below)) y.masks) n (open_trials m s) that (open_trials m t) e (saves s h)).1

  pub sound_undo : (n : ℕ) (s t : TrialStore S) (r : Result ℕ TrialFault) → UndoAnswers m n s t r → IsSound m s → IsSound m t
  sound_undo n s t (Ok k) o h = sound_ends n s t o.0.that o.0.ends o.0.count o.0.scale h
  sound_undo n s t (Err e) o h = unchanged s t o.1 h

  pub sound_keep : (n : ℕ) (s t : TrialStore S) (r : Result ℕ TrialFault) → KeepAnswers m n s t r → IsSound m s → IsSound m t
  sound_keep n s t (Ok k) o h = sound_ends n s t o.0.that o.0.ends (ap (λ (b : S). length (m.cells b)) o.0.below) (ap m.width o.0.below) h
  sound_keep n s t (Err e) o h = unchanged s t o.1 h

  pub sound_rests : (s t : TrialStore S) → length (m.cells t.below) ≡ length (m.cells s.below) → m.width t.below ≡ m.width s.below → Rests m s t → IsSound m s → IsSound m t
  sound_rests s t count scale w h = saved s t count scale (subst (Saves m.holds (m.width s.below) (length (m.cells s.below))) (sym w.trials) (saves s h))

  below : (cell mask : ℕ) (s t : TrialStore S) (r : Result Unit WriteFault)
      → MatchResult r (λ _. Accepted m.holds (length (m.cells s.below)) (m.width s.below) cell mask × (m.cells t.below ≡ slice_set (m.cells s.below) cell mask))
      (λ fault. Refused m.holds (length (m.cells s.below)) (m.width s.below) cell mask fault × (t ≡ s))
      → MatchResult r (λ _. Accepted m.holds (length (m.cells s.below)) (m.width s.below) cell mask × (m.cells t.below ≡ slice_set (m.cells s.below) cell mask))
      (λ fault. Refused m.holds (length (m.cells s.below)) (m.width s.below) cell mask fault × (t.below ≡ s.below))
  below cell mask s t (Ok x) o = o
  below cell mask s t (Err e) o = (o.0, ap (λ (x : TrialStore S). x.below) o.1)

  pub sound_step : Laws m.cells m.width m.holds m.stays → (call : TrialCall) (s t : TrialStore S) → Step m call s t → IsSound m s → IsSound m t
  sound_step laws (Write cell part) s t h k =
      sound_rests s t (write_count m s.below t.below cell part.mask h.0 (below cell part.mask s t h.0 h.1.outcome)) h.1.scale h.1.rest k
  sound_step laws Open s t h k = sound_opens laws s t h.0 h.1 k
  sound_step laws (Undo n) s t h k = sound_undo n s t h.0 h.1 k
  sound_step laws (Keep n) s t h k = sound_keep n s t h.0 h.1 k

  -- whatever the calls
  pub sound_ran : Laws m.cells m.width m.holds m.stays → (calls : List TrialCall) (s t : TrialStore S) → Ran m calls s t → IsSound m s → IsSound m t
  sound_ran laws [] s t e h = unchanged s t e h
  sound_ran laws (c ∷ cs) s t r h = sound_ran laws cs r.0 t r.2 (sound_step laws c s r.0 r.1 h)
