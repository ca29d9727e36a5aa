-- The marks decide: of a change by one, and of a member of a load that is moved.
use Rattle.std.proofs.Common.{◌≡◌, ℕ, suc, ◌+◌, ◌<◌, ◌≤◌, true, false, not, ◌⊎◌, List, ◌∷◌, ◌++◌, length, get_or, take, drop, set, Some, None, Option, sym, refl, ap, ◌∙◌, subst, subst₂, inl, inr, arith}
use lib.ListN.{get_or-eq_default}
use lib.Seq.{set_split, split_at}
use Rattle.std.proofs.lemmas.Bool.{cases_eq, cases_lt, cases_order, not-true}
use Rattle.std.specs.Prelude.{◌↔◌, IsTrue}
use Rattle.std.proofs.lemmas.Bool.Decides.{not_from_Decides}
use Rattle.loads.specs.Counts.{Counted}
use Rattle.loads.specs.Kinds.{by_rank}
use Rattle.loads.specs.Loads.{count, NotHeavier}
use Rattle.loads.proofs.FromTop.{rank_lower, lower_rank, count_past}
use Rattle.loads.proofs.Weights.{count_insert}
use Rattle.marking.specs.declared.marks.Marks.{Marks}
use Rattle.marking.specs.declared.counts.Counts.{Counts}
use Rattle.marking.specs.Marks.{occurs, on_left, on_right, AlphaIs, BetaIs, GammaSays, SigmaSays}
use Rattle.marking.specs.Bounds.{Loaded, IsFloor, FewerAtAlpha}
use Rattle.marking.proofs.Comparing.{AtMost, one, Shifted, Moved, Alpha, Beta, NoBeta, Gamma, Sigma}
use Rattle.marking.proofs.Shifts.{at_alpha_spare, at_alpha_no_beta, at_alpha_over_beta, at_alpha_no_gamma, at_alpha_under_beta, at_beta_short, at_beta_sigma, at_beta_no_sigma}

-- loads compare as their counts do
pub by_loads : (xs ys : List ℕ) → NotHeavier by_rank xs ys → AtMost (λ h. count by_rank h xs) (λ h. count by_rank h ys)
by_loads xs ys (inl x) = inl (x.0, x.1, λ h l. x.2 h (lower_rank x.0 h l))
by_loads xs ys (inr x) = inr x

pub to_loads : (xs ys : List ℕ) → AtMost (λ h. count by_rank h xs) (λ h. count by_rank h ys) → NotHeavier by_rank xs ys
to_loads xs ys (inl x) = inl (x.0, x.1, λ h l. x.2 h (rank_lower x.0 h l))
to_loads xs ys (inr x) = inr x

-- another member at a place moves one from the old rank to the new
pub moved_at : (xs : List ℕ) (i r : ℕ) → i < length xs → Moved (λ h. count by_rank h xs) (λ h. count by_rank h (set xs i r)) (get_or xs i 0) r
unfolding one
moved_at xs i r l h =
    let was : count by_rank h xs ≡ count by_rank h (take i xs ++ (get_or xs i 0 ∷ drop (suc i) xs)) = ap (count by_rank h) (split_at xs i 0 l) in
    let is : count by_rank h (set xs i r) ≡ count by_rank h (take i xs ++ (r ∷ drop (suc i) xs)) = ap (count by_rank h) (set_split xs i r l) in
    omega (arith, was, is, count_insert by_rank h (get_or xs i 0) (take i xs) (drop (suc i) xs), count_insert by_rank h r (take i xs) (drop (suc i) xs))

-- the counts are those of the loads, at every rank
module _ (ox oy : ℕ → ℕ) (px : (h : ℕ) → 48 ≤ h → ox h ≡ 0) (py : (h : ℕ) → 48 ≤ h → oy h ≡ 0) where
  all_counts : (o : ℕ → ℕ) → ((h : ℕ) → 48 ≤ h → o h ≡ 0) → (xs : List ℕ) → Counted o 48 xs → (h : ℕ) → o h ≡ count by_rank h xs
  all_counts o p xs k h = go (cases_lt h 48)
    where
      go : (h < 48) ⊎ (48 ≤ h) → o h ≡ count by_rank h xs
      go (inl l) = k.counts h l
      go (inr l) = p h l ∙ sym (count_past 48 h l xs k.bounded)

  module _ (xs ys : List ℕ) (k : Loaded ox oy xs ys) where
    left_is : (h : ℕ) → ox h ≡ count by_rank h xs
    left_is = all_counts ox px xs k.left_counted

    right_is : (h : ℕ) → oy h ≡ count by_rank h ys
    right_is = all_counts oy py ys k.right_counted

    -- a member of the left raised, or one of the right lowered: one more in favour at t, one less at u
    pub raised_shift : (i r : ℕ) → i < length xs → Shifted ox oy (λ h. count by_rank h (set xs i r)) (λ h. count by_rank h ys) (get_or xs i 0) r
    raised_shift i r l h = omega (arith, moved_at xs i r l h, left_is h, right_is h)

    pub lowered_shift : (i r : ℕ) → i < length ys → Shifted ox oy (λ h. count by_rank h xs) (λ h. count by_rank h (set ys i r)) r (get_or ys i 0)
    lowered_shift i r l h = omega (arith, moved_at ys i r l h, left_is h, right_is h)

    pub loads_meet : AtMost ox oy → NotHeavier by_rank xs ys
    loads_meet (inl x) = to_loads xs ys (inl (x.0, omega (arith, x.1, left_is x.0, right_is x.0), λ h l. sym (left_is h) ∙ x.2 h l ∙ right_is h))
    loads_meet (inr x) = to_loads xs ys (inr (λ h. sym (left_is h) ∙ x h ∙ right_is h))

    pub meet_loads : NotHeavier by_rank xs ys → AtMost ox oy
    meet_loads n = go (by_loads xs ys n)
      where
        go : AtMost (λ h. count by_rank h xs) (λ h. count by_rank h ys) → AtMost ox oy
        go (inl x) = inl (x.0, omega (arith, x.1, left_is x.0, right_is x.0), λ h l. left_is h ∙ x.2 h l ∙ sym (right_is h))
        go (inr x) = inr (λ h. left_is h ∙ x h ∙ sym (right_is h))

  -- what is shown of every change by one at α is a floor
  abbrev pub Decides : ℕ → ℕ → Type 0
  Decides α fl = (f g : ℕ → ℕ) (t : ℕ) → t < α → Shifted ox oy f g t α → (fl ≤ t) ↔ AtMost f g

  pub floor_is : (α fl : ℕ) → Decides α fl → IsFloor ox oy α fl
  floor_is α fl d = record {
    raised = λ xs ys k i l m.
        let e = d (λ h. count by_rank h (set xs i α)) (λ h. count by_rank h ys) (get_or xs i 0) m (raised_shift xs ys k i α l) in
        (λ p. to_loads (set xs i α) ys (e.0 p), λ n. e.1 (by_loads (set xs i α) ys n));
    lowered = λ xs ys k i r l q m.
        let e = d (λ h. count by_rank h xs) (λ h. count by_rank h (set ys i r)) r m (subst (λ (u : ℕ). Shifted ox oy (λ h. count by_rank h xs) (λ h. count by_rank h (set ys i r)) r u) q (lowered_shift xs ys k i r l)) in
        (λ p. to_loads xs (set ys i r) (e.0 p), λ n. e.1 (by_loads xs (set ys i r) n));
  }

  -- the cases of the floor
  module _ (α : ℕ) (a : Alpha ox oy α) where
    pub floor_spare : ox α + 1 < oy α → IsFloor ox oy α 0
    floor_spare x = floor_is α 0 (λ f g t l s. (λ _. at_alpha_spare ox oy f g t α l s a x, λ _. omega arith))

    module _ (x : ox α + 1 ≡ oy α) where
      pub floor_no_beta : NoBeta ox oy α → IsFloor ox oy α 0
      floor_no_beta b = floor_is α 0 (λ f g t l s. (λ _. at_alpha_no_beta ox oy f g t α l s a x b, λ _. omega arith))

      pub floor_no_gamma : (β : ℕ) → Beta ox oy α β → (Gamma ox oy α β → ⊥) → IsFloor ox oy α 0
      floor_no_gamma β b n = floor_is α 0 (λ f g t l s. (λ _. at_alpha_no_gamma ox oy f g t α l s β a x b n, λ _. omega arith))

      module _ (β : ℕ) (b : Beta ox oy α β) (c : Gamma ox oy α β) where
        -- β itself does not make up for it
        past : ((f g : ℕ → ℕ) (t : ℕ) → t < α → Shifted ox oy f g t α → t ≡ β → AtMost f g → ⊥) → IsFloor ox oy α (β + 1)
        past never = floor_is α (β + 1) (λ f g t l s. (λ m. at_alpha_over_beta ox oy f g t α l s β a x b (omega (arith, m)), λ n. go f g t l s n (cases_order t β)))
          where
            go : (f g : ℕ → ℕ) (t : ℕ) → t < α → Shifted ox oy f g t α → AtMost f g → (t ≡ β) ⊎ ((t < β) ⊎ (β < t)) → β + 1 ≤ t
            go f g t l s n (inl e) = absurd (never f g t l s e n)
            go f g t l s n (inr (inl m)) = absurd (at_alpha_under_beta ox oy f g t α l s β a x b c m n)
            go f g t l s n (inr (inr m)) = omega (arith, m)

        pub floor_short : oy β + 1 < ox β → IsFloor ox oy α (β + 1)
        floor_short y = past (λ f g t l s e n. at_beta_short ox oy f g t α l s a x (subst (Gamma ox oy α) (sym e) c) (subst (λ (z : ℕ). oy z + 1 < ox z) (sym e) y) n)

        pub floor_sigma : ox β ≡ oy β + 1 → Sigma ox oy β → IsFloor ox oy α (β + 1)
        floor_sigma y z = past (λ f g t l s e n. at_beta_sigma ox oy f g t α l s a x (subst (Gamma ox oy α) (sym e) c) (subst (λ (v : ℕ). ox v ≡ oy v + 1) (sym e) y) (subst (Sigma ox oy) (sym e) z) n)

        pub floor_beta : ox β ≡ oy β + 1 → (Sigma ox oy β → ⊥) → IsFloor ox oy α β
        floor_beta y z = floor_is α β (λ f g t l s. (λ m. go f g t l s m (cases_eq t β), λ n. under f g t l s n (cases_lt t β)))
          where
            go : (f g : ℕ → ℕ) (t : ℕ) → t < α → Shifted ox oy f g t α → β ≤ t → (t ≡ β) ⊎ (t ≡ β → ⊥) → AtMost f g
            go f g t l s m (inl e) = at_beta_no_sigma ox oy f g t α l s a x (subst (Gamma ox oy α) (sym e) c) (subst (λ (v : ℕ). ox v ≡ oy v + 1) (sym e) y) (λ w. z (subst (Sigma ox oy) e w))
            go f g t l s m (inr n) = at_alpha_over_beta ox oy f g t α l s β a x b (omega (arith, m, n))

            under : (f g : ℕ → ℕ) (t : ℕ) → t < α → Shifted ox oy f g t α → AtMost f g → (t < β) ⊎ (β ≤ t) → β ≤ t
            under f g t l s n (inl m) = absurd (at_alpha_under_beta ox oy f g t α l s β a x b c m n)
            under f g t l s n (inr m) = m

-- a list of 48 counts nothing from there up
pub none_past : (counts : List ℕ) → length counts ≡ 48 → (h : ℕ) → 48 ≤ h → occurs counts h ≡ 0
none_past counts e h l = get_or-eq_default counts 0 {n = h} (omega (arith, e, l))

-- the same of counts in arrays and the marks found
module _ (counts : Counts) (m : Marks) (α : ℕ) (known : FewerAtAlpha (on_left counts) (on_right counts) m α) where
  none_left : (h : ℕ) → 48 ≤ h → on_left counts h ≡ 0
  none_left = none_past counts.left.now counts.left_len

  none_right : (h : ℕ) → 48 ≤ h → on_right counts h ≡ 0
  none_right = none_past counts.right.now counts.right_len

  alpha_here : Alpha (on_left counts) (on_right counts) α
  alpha_here = (known.fewer, (subst (AlphaIs (on_left counts) (on_right counts)) known.at known.marked.alpha_is).1)

  beta_here : (o : Option ℕ) → m.beta ≡ o → BetaIs (on_left counts) (on_right counts) (Some α) o
  beta_here o e = subst₂ (BetaIs (on_left counts) (on_right counts)) known.at e known.marked.beta_is

  pub spare : on_left counts α + 1 < on_right counts α → IsFloor (on_left counts) (on_right counts) α 0
  spare x = floor_spare (on_left counts) (on_right counts) none_left none_right α alpha_here x

  pub no_beta : m.beta ≡ None → IsFloor (on_left counts) (on_right counts) α 0
  no_beta e = go (cases_lt (on_left counts α + 1) (on_right counts α))
    where
      go : (on_left counts α + 1 < on_right counts α) ⊎ (on_right counts α ≤ on_left counts α + 1) → IsFloor (on_left counts) (on_right counts) α 0
      go (inl x) = spare x
      go (inr x) = floor_no_beta (on_left counts) (on_right counts) none_left none_right α alpha_here (omega (arith, known.fewer, x)) (beta_here None e)

  module _ (β : ℕ) (e : m.beta ≡ Some β) where
    beta_there : Beta (on_left counts) (on_right counts) α β
    beta_there = beta_here (Some β) e

    gamma_there : IsTrue m.gamma ↔ Gamma (on_left counts) (on_right counts) α β
    gamma_there = subst₂ (λ (a b : Option ℕ). IsTrue m.gamma ↔ GammaSays (on_left counts) (on_right counts) a b) known.at e known.marked.gamma_is

    sigma_there : IsTrue m.sigma ↔ Sigma (on_left counts) (on_right counts) β
    sigma_there = subst (λ (o : Option ℕ). IsTrue m.sigma ↔ SigmaSays (on_left counts) (on_right counts) o) e known.marked.sigma_is

    pub beta_more : on_right counts β < on_left counts β
    beta_more = beta_there.1

    module _ (g : m.gamma ≡ true) (x : on_right counts α ≤ on_left counts α + 1) where
      one_less : on_left counts α + 1 ≡ on_right counts α
      one_less = omega (arith, known.fewer, x)

      gamma_holds : Gamma (on_left counts) (on_right counts) α β
      gamma_holds = gamma_there.0 g

      pub short : on_right counts β + 1 < on_left counts β → IsFloor (on_left counts) (on_right counts) α (β + 1)
      short y = floor_short (on_left counts) (on_right counts) none_left none_right α alpha_here one_less β beta_there gamma_holds y

      pub with_sigma : m.sigma ≡ true → IsFloor (on_left counts) (on_right counts) α (β + 1)
      with_sigma s = go (cases_lt (on_right counts β + 1) (on_left counts β))
        where
          go : (on_right counts β + 1 < on_left counts β) ⊎ (on_left counts β ≤ on_right counts β + 1) → IsFloor (on_left counts) (on_right counts) α (β + 1)
          go (inl y) = short y
          go (inr y) = floor_sigma (on_left counts) (on_right counts) none_left none_right α alpha_here one_less β beta_there gamma_holds (omega (arith, y, beta_more)) (sigma_there.0 s)

      pub without_sigma : on_left counts β ≤ on_right counts β + 1 → m.sigma ≡ false → IsFloor (on_left counts) (on_right counts) α β
      without_sigma y s = floor_beta (on_left counts) (on_right counts) none_left none_right α alpha_here one_less β beta_there gamma_holds (omega (arith, y, beta_more)) (not_from_Decides m.sigma sigma_there s)

  -- without γ, whether there is a β or not
  pub no_gamma : not m.gamma ≡ true → IsFloor (on_left counts) (on_right counts) α 0
  no_gamma g = go m.beta refl (cases_lt (on_left counts α + 1) (on_right counts α))
    where
      go : (o : Option ℕ) → m.beta ≡ o → (on_left counts α + 1 < on_right counts α) ⊎ (on_right counts α ≤ on_left counts α + 1) → IsFloor (on_left counts) (on_right counts) α 0
      go o e (inl x) = spare x
      go None e (inr x) = no_beta e
      go (Some β) e (inr x) = floor_no_gamma (on_left counts) (on_right counts) none_left none_right α alpha_here (omega (arith, known.fewer, x)) β (beta_there β e) (not_from_Decides m.gamma (gamma_there β e) (not-true m.gamma g))

-- which floor it is, by the marks
pub ruleset floors = (no_beta, no_gamma, spare, short, with_sigma, without_sigma)
