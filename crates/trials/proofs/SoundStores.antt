-- Of a store with trials that is sound, where all that is known of it is its type: a ghost field is truncated, and gives these still.
use Rattle.std.proofs.Common.{ap, subst, sym}
use Rattle.std.proofs.Math.Logic.{∥∥₁_map, ∥∥₁_prop, ∥∥₁_elim}
use Rattle.std.specs.Coded.{coded_ℕ, coded_list}
use base.Stored.{Coded-set}
use Rattle.std.specs.Prelude.{◌≡◌, ℕ, Ok, Err, Result, MatchResult, OnErr}
use Rattle.stores.specs.declared.store.Store.{Ghosts}
use Rattle.trials.specs.TrialStores.{IsSound, Closed as closed_where_sound, UndoAnswers as undo_answers, Undone as undone_where_sound}
use Rattle.trials.specs.Rehearsals.{told, Answered as answered, Back}
use Rattle.trials.specs.SoundStores.{Closed, Undone, UndoAnswers, Answered}
use Rattle.trials.specs.declared.saved.Saved.{Saved}
use Rattle.trials.specs.declared.trial_store.TrialStore.{TrialStore}
use Rattle.trials.specs.declared.sound_store.SoundTrialStore.{SoundTrialStore}
use Rattle.trials.specs.declared.faults.TrialFault.{TrialFault}
use Rattle.trials.specs.declared.faults.CallFault.{CallFault}
use Rattle.trials.specs.declared.rehearsal.CallAnswer.{CallAnswer}
use Rattle.trials.specs.declared.rehearsal.TrialCall.{TrialCall}
use Rattle.trials.specs.declared.rehearsal.TrialCall.TheVariants.{Write, Open, Undo, Keep}

module _ {S : Type 0} (m : Ghosts S) where
  -- what holds where a store is sound holds of one whose type says so
  pub sound_masks : (n : ℕ) (s t : TrialStore S) → ∥ IsSound m s ∥₁ → (u : undone_where_sound m n s t) → m.cells t.below ≡ u.that.masks
  sound_masks n s t sound u = ∥∥₁_elim sound (Coded-set (coded_list coded_ℕ) (m.cells t.below) u.that.masks) u.back

  pub sound_undone : (n : ℕ) (s t : TrialStore S) → ∥ IsSound m s ∥₁ → undone_where_sound m n s t → Undone m n s t
  sound_undone n s t sound u = record { undone = u; back = sound_masks n s t sound u }

  pub sound_back : (s t : TrialStore S) → ∥ IsSound m s ∥₁ → Back m s t → m.cells t.below ≡ m.cells s.below
  sound_back s t sound b = ∥∥₁_elim sound (Coded-set (coded_list coded_ℕ) (m.cells t.below) (m.cells s.below)) b.same

  pub sound_closed : (n : ℕ) (x : Saved) (s t : TrialStore S) → ∥ IsSound m s ∥₁ → closed_where_sound m n x s t → Closed m n x s t
  sound_closed n x s t sound c = record { closed = c; can = ∥∥₁_map sound c.can }

  -- what keeps a store sound keeps it so where its type says it
  pub still_sound : (s t : TrialStore S) → (IsSound m s → IsSound m t) → ∥ IsSound m s ∥₁ → ∥ IsSound m t ∥₁
  still_sound s t f h = ∥∥₁_map h f

  undo_answered : (n : ℕ) (s t : TrialStore S) → ∥ IsSound m s ∥₁ → (w : Result ℕ TrialFault) → undo_answers m n s t w → UndoAnswers m n s t w
  undo_answered n s t sound (Ok k) o = (sound_undone n s t sound o.0, o.1)
  undo_answered n s t sound (Err e) o = o

  pub sound_answered : (call : TrialCall) (s t : TrialStore S) (r : Result CallAnswer CallFault) → ∥ IsSound m s ∥₁ → answered m call s t r → Answered m call s t r
  sound_answered (Undo n) s t r sound h = (h.0, undo_answered n s t sound h.0 h.1, h.2)
  sound_answered call s t r sound h = h

  abbrev pub holding : (x : TrialStore S) → ∥ IsSound m x ∥₁ → SoundTrialStore S m
  holding x k = record { store = x; sound = k }

  -- two sound stores are one where the stores with trials are
  pub same_sound : (s : SoundTrialStore S m) (u : TrialStore S) (h : ∥ IsSound m u ∥₁) → u ≡ s.store → holding u h ≡ s
  same_sound s u h p = subst (λ (x : TrialStore S). (k : ∥ IsSound m x ∥₁) → holding u h ≡ holding x k) p (λ k. ap (holding u) (∥∥₁_prop h k)) s.sound

  -- where a refusal leaves the store with trials as it was, it leaves the whole so
  module _ (s : SoundTrialStore S m) (u : TrialStore S) (h : ∥ IsSound m u ∥₁) where
    pub whole : {A F : Type 0} (P : A → Type 0) (Q : F → Type 0) (r : Result A F) → MatchResult r P (λ e. Q e × (u ≡ s.store)) → MatchResult r P (λ e. Q e × (holding u h ≡ s))
    whole P Q (Ok a) o = o
    whole P Q (Err e) o = (o.0, same_sound s u h o.1)

  -- a refused call leaves the whole as it was
  refusal : {A F : Type 0} (f : A → CallAnswer) (g : F → CallFault) (P : A → Type 0) (Q : F → Type 0) (X Y : Type 0) → (X → Y) → (w : Result A F) (r : Result CallAnswer CallFault)
      → r ≡ told f g w → MatchResult w P (λ e. Q e × X) → OnErr r Y
  refusal f g P Q X Y k (Ok a) r q h = subst (λ (v : Result CallAnswer CallFault). OnErr v Y) (sym q) tt
  refusal f g P Q X Y k (Err e) r q h = subst (λ (v : Result CallAnswer CallFault). OnErr v Y) (sym q) (k h.1)

  module _ (s : SoundTrialStore S m) (u : TrialStore S) (h : ∥ IsSound m u ∥₁) (r : Result CallAnswer CallFault) where
    pub sound_refused : (call : TrialCall) → answered m call s.store u r → OnErr r (holding u h ≡ s)
    sound_refused (Write cell part) a = refusal _ _ _ _ (u ≡ s.store) (holding u h ≡ s) (same_sound s u h) a.0 r a.2 a.1.outcome
    sound_refused Open a = refusal _ _ _ _ (u ≡ s.store) (holding u h ≡ s) (same_sound s u h) a.0 r a.2 a.1
    sound_refused (Undo n) a = refusal _ _ _ _ (u ≡ s.store) (holding u h ≡ s) (same_sound s u h) a.0 r a.2 a.1
    sound_refused (Keep n) a = refusal _ _ _ _ (u ≡ s.store) (holding u h ≡ s) (same_sound s u h) a.0 r a.2 a.1
