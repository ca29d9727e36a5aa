-- What any list of calls leaves of a trial that is open.
use Rattle.std.proofs.Common.{◌≡◌, ℕ, ◌+◌, ◌<◌, ◌≤◌, List, [], ◌∷◌, ◌++◌, length, get_or, take, Ok, Err, Result, sym, refl, ap, ◌∙◌, subst, arith}
use Rattle.std.proofs.lemmas.List.{take_more}
use Rattle.trials.specs.Saved.{Trial}
use Rattle.trials.specs.Trials.{trials_of, NotAmong, Ends}
use Rattle.stores.specs.declared.store.Store.{Ghosts}
use Rattle.trials.specs.Saving.{opened}
use Rattle.trials.specs.TrialStores.{open_trials, IsSound, TrialsApart, OpenAnswers, KeepAnswers, Undone, UndoAnswers}
use Rattle.trials.specs.Rehearsals.{Step, Ran, Back}
use Rattle.trials.specs.declared.trial_store.TrialStore.{TrialStore}
use Rattle.trials.specs.declared.faults.TrialFault.{TrialFault}
use Rattle.trials.specs.declared.rehearsal.TrialCall.{TrialCall}
use Rattle.trials.specs.declared.rehearsal.TrialCall.TheVariants.{Write, Open, Undo, Keep}
use Rattle.trials.proofs.Ending.{ends_front, next_new, numbered_map, apart_same, apart_opens, apart_ends, apart_then}

module _ {S : Type 0} (m : Ghosts S) where
  -- one more call
  ran_more : (cs : List TrialCall) (s u t : TrialStore S) (c : TrialCall) → Ran m cs s u → Step m c u t → Ran m (cs ++ (c ∷ [])) s t
  ran_more [] s u t c e h = (t, subst (λ (x : TrialStore S). Step m c x t) e h, refl)
  ran_more (d ∷ cs) s u t c r h = (r.0, r.1, ran_more cs r.0 u t c r.2 h)

  pub ran_next : (cs : List TrialCall) (i : ℕ) (d : TrialCall) (s u t : TrialStore S) → i < length cs → Ran m (take i cs) s u → Step m (get_or cs i d) u t
      → Ran m (take (i + 1) cs) s t
  ran_next cs i d s u t h r st = subst (λ (xs : List TrialCall). Ran m xs s t) (sym (take_more cs i d h)) (ran_more (take i cs) s u t (get_or cs i d) r st)

  apart_unchanged : (s t : TrialStore S) → t ≡ s → TrialsApart m s t
  apart_unchanged s t e =
      apart_same s.table.granted (open_trials m s) t.table.granted (open_trials m t) (ap (λ (x : TrialStore S). x.table.granted) e) (ap (open_trials m) e)

  pub open_leaves : (s t : TrialStore S) (r : Result ℕ TrialFault) → OpenAnswers m s t r → TrialsApart m s t × (m.width t.below ≡ m.width s.below)
  open_leaves s t (Ok k) o = (apart_opens s.table.granted (open_trials m s) (opened k (m.cells s.below)) t.table.granted (open_trials m t) o.0, ap m.width o.1)
  open_leaves s t (Err e) o = (apart_unchanged s t o.1, ap (λ (x : TrialStore S). m.width x.below) o.1)

  undo_leaves : (n : ℕ) (s t : TrialStore S) (r : Result ℕ TrialFault) → UndoAnswers m n s t r → TrialsApart m s t × (m.width t.below ≡ m.width s.below)
  undo_leaves n s t (Ok k) o = (apart_ends n s.table.granted (open_trials m s) o.0.that t.table.granted (open_trials m t) o.0.granted o.0.ends, o.0.scale)
  undo_leaves n s t (Err e) o = (apart_unchanged s t o.1, ap (λ (x : TrialStore S). m.width x.below) o.1)

  keep_leaves : (n : ℕ) (s t : TrialStore S) (r : Result ℕ TrialFault) → KeepAnswers m n s t r → TrialsApart m s t × (m.width t.below ≡ m.width s.below)
  keep_leaves n s t (Ok k) o = (apart_ends n s.table.granted (open_trials m s) o.0.that t.table.granted (open_trials m t) o.0.granted o.0.ends, ap m.width o.0.below)
  keep_leaves n s t (Err e) o = (apart_unchanged s t o.1, ap (λ (x : TrialStore S). m.width x.below) o.1)

  step_leaves : (c : TrialCall) (s t : TrialStore S) → Step m c s t → TrialsApart m s t × (m.width t.below ≡ m.width s.below)
  step_leaves (Write cell part) s t h =
      (apart_same s.table.granted (open_trials m s) t.table.granted (open_trials m t) h.1.rest.granted h.1.rest.trials, h.1.scale)
  step_leaves Open s t h = open_leaves s t h.0 h.1
  step_leaves (Undo n) s t h = undo_leaves n s t h.0 h.1
  step_leaves (Keep n) s t h = keep_leaves n s t h.0 h.1

  ran_leaves : (cs : List TrialCall) (s t : TrialStore S) → Ran m cs s t → TrialsApart m s t × (m.width t.below ≡ m.width s.below)
  ran_leaves [] s t e = (apart_unchanged s t e, ap (λ (x : TrialStore S). m.width x.below) e)
  ran_leaves (c ∷ cs) s t r =
      let u = r.0 in
      let a = step_leaves c s u r.1 in
      let b = ran_leaves cs u t r.2 in
      (apart_then s.table.granted u.table.granted t.table.granted (open_trials m s) (open_trials m u) (open_trials m t) a.0 b.0, b.1 ∙ a.1)

  -- the next number is of no open trial
  next_free : (s : TrialStore S) → NotAmong (s.table.granted + 1) (open_trials m s)
  next_free s =
      let t = s.table in
      next_new t.granted (open_trials m s)
      (numbered_map (length (m.cells s.below)) t.granted (trials_of t) t.numbered)

  -- a trial is opened, the trials are then left apart, and it is undone: all is as it was
  module _ (s first last t : TrialStore S) (number : ℕ) (o : OpenAnswers m s first (Ok number)) (a : TrialsApart m first last) (w : m.width last.below ≡ m.width first.below)
      (sound : IsSound m s → IsSound m last) (u : Undone m number last t) where
    found : (u.that ≡ opened number (m.cells s.below)) × (open_trials m t ≡ open_trials m s)
    found =
        let g = s.table.granted in
        let next : number ≡ g + 1 = o.0.next in
        let within : number ≤ first.table.granted = omega (arith, next, o.0.spent) in
        let e : Ends number (open_trials m first) u.that (open_trials m t) = a.same number within u.that (open_trials m t) u.ends in
        ends_front number (opened number (m.cells s.below)) (open_trials m s) u.that (open_trials m t)
        (subst (λ (k : ℕ). NotAmong k (open_trials m s)) (sym next) (next_free s))
        (subst (λ (xs : List Trial). Ends number xs u.that (open_trials m t)) o.0.front e)

    pub goes_back : Back m s t
    goes_back = record {
      same = λ h. u.back (sound h) ∙ ap (λ (x : Trial). x.masks) found.0;
      scale = u.scale ∙ w ∙ ap m.width o.1;
      trials = found.1;
    }

  pub calls_go_back : (cs : List TrialCall) (s first last : TrialStore S) (number : ℕ) → OpenAnswers m s first (Ok number) → Ran m cs first last → (IsSound m s → IsSound m last) → (t : TrialStore S) → Undone m number last t → Back m s t
  calls_go_back cs s first last number o r sound t u =
      let l = ran_leaves cs first last r in
      goes_back s first last t number o l.0 l.1 sound u
