-- The marks found from the top are the marks, and there are no others.
use Rattle.std.proofs.Common.{◌≡◌, ℕ, ◌<◌, ◌≤◌, max, ◌⊎◌, List, length, take, Some, None, Option, sym, refl, ap, ◌∙◌, subst, ⊎_elim, inl, inr, arith}
use Rattle.std.specs.Prelude.{◌↔◌, IsTrue}
use Rattle.std.specs.Bool.{one_answer}
use lib.ListN.{get_or-eq_default}
use Rattle.std.proofs.lemmas.List.{get_or-take, length-take}
use Rattle.std.proofs.lemmas.Bool.{cases_lt, cases_order}
use Rattle.loads.specs.declared.weighing.Weight.{Weight}
use Rattle.loads.specs.declared.weighing.Weight.TheVariants.{Lighter as lighter, Equal as equal, Heavier as heavier}
use Rattle.loads.specs.Counts.{by_counts, Deciding}
use Rattle.marking.specs.declared.counts.Counts.{Counts}
use Rattle.marking.specs.declared.marks.Marks.{Marks}
use Rattle.marking.specs.Marks.{occurs, on_left, on_right, AlphaIs, BetaIs, GammaSays, SigmaSays, Marked, OnlyMarks}
use Rattle.marking.proofs.Comparing.{Says}
use Rattle.marking.proofs.Order.{Front, cmp_front}

-- σ by comparing the counts below b
sigma_of : (f g : ℕ → ℕ) (b : ℕ) (w : Weight) → Says w (Front f g b) ((h : ℕ) → h < b → f h ≡ g h) (Front g f b) → (w ≡ heavier) ↔ SigmaSays f g (Some b)
sigma_of f g b lighter x = (λ e. absurd (cc), λ y. absurd (meet y (cases_order x.0 y.0)))
  where
    meet : (y : SigmaSays f g (Some b)) → (x.0 ≡ y.0) ⊎ ((x.0 < y.0) ⊎ (y.0 < x.0)) → ⊥
    meet y (inl e) =
        let z : g x.0 < f x.0 = subst (λ (p : ℕ). g p < f p) (sym e) y.2 in
        omega (arith, x.2)
    meet y (inr (inl l)) = omega (arith, x.3 y.0 l y.1, y.2)
    meet y (inr (inr l)) = omega (arith, y.3 x.0 l x.1, x.2)
sigma_of f g b equal x = (λ e. absurd (cc), λ y. absurd (omega (arith, x y.0 y.1, y.2)))
sigma_of f g b heavier x = (λ _. (x.0, x.1, x.2, λ h l m. sym (x.3 h l m)), λ _. refl)

-- only the counts below b matter
sigma_front : (f g p q : ℕ → ℕ) (b : ℕ) → ((h : ℕ) → h < b → f h ≡ p h) → ((h : ℕ) → h < b → g h ≡ q h) → SigmaSays f g (Some b) → SigmaSays p q (Some b)
sigma_front f g p q b u v s = (s.0, s.1, omega (arith, s.2, u s.0 s.1, v s.0 s.1), λ h l m. sym (u h m) ∙ s.3 h l m ∙ v h m)

-- σ by what is answered of the ranks below b
pub sigma_by : (counts : Counts) (b : ℕ) (w : Weight) → b ≤ 48
    → w ≡ by_counts (occurs (take b counts.left.now)) (occurs (take b counts.right.now)) (max (length (take b counts.left.now)) (length (take b counts.right.now)))
    → (w ≡ heavier) ↔ SigmaSays (on_left counts) (on_right counts) (Some b)
sigma_by counts b w l e =
    let n : max (length (take b counts.left.now)) (length (take b counts.right.now)) ≡ b =
    omega (arith, length-take b counts.left.now, length-take b counts.right.now, counts.left_len, counts.right_len) in
    let f : ℕ → ℕ = occurs (take b counts.left.now) in
    let g : ℕ → ℕ = occurs (take b counts.right.now) in
    let u : (h : ℕ) → h < b → f h ≡ on_left counts h = λ h k. get_or-take b counts.left.now h 0 k in
    let v : (h : ℕ) → h < b → g h ≡ on_right counts h = λ h k. get_or-take b counts.right.now h 0 k in
    let told : (w ≡ heavier) ↔ SigmaSays f g (Some b) =
    sigma_of f g b w (subst (λ (o : Weight). Says o (Front f g b) ((h : ℕ) → h < b → f h ≡ g h) (Front g f b)) (sym (e ∙ ap (by_counts f g) n)) (cmp_front f g b)) in (
      λ q. sigma_front f g (on_left counts) (on_right counts) b u v (told.0 q),
      λ s. told.1 (sigma_front (on_left counts) (on_right counts) f g b (λ h k. sym (u h k)) (λ h k. sym (v h k)) s),
    )

-- past the end nothing is counted
pub past : (xs ys : List ℕ) (h : ℕ) → length xs ≤ h → length ys ≤ h → occurs xs h ≡ occurs ys h
past xs ys h l m = get_or-eq_default xs 0 {n = h} l ∙ sym (get_or-eq_default ys 0 {n = h} m)

-- the marks are determined
module _ (ox oy : ℕ → ℕ) where
  alpha_same : (a b : Option ℕ) → AlphaIs ox oy a → AlphaIs ox oy b → a ≡ b
  alpha_same None None p q = refl
  alpha_same None (Some b) p q = absurd (q.0 (p b))
  alpha_same (Some a) None p q = absurd (p.0 (q a))
  alpha_same (Some a) (Some b) p q = ap Some (go (cases_order a b))
    where
      go : (a ≡ b) ⊎ ((a < b) ⊎ (b < a)) → a ≡ b
      go (inl e) = e
      go (inr (inl l)) = absurd (q.0 (p.1 b l))
      go (inr (inr l)) = absurd (p.0 (q.1 a l))

  beta_same : (a b c : Option ℕ) → BetaIs ox oy a b → BetaIs ox oy a c → b ≡ c
  beta_same None b c p q = p ∙ sym q
  beta_same (Some a) None None p q = refl
  beta_same (Some a) None (Some c) p q = absurd (omega (arith, p c q.0, q.1))
  beta_same (Some a) (Some b) None p q = absurd (omega (arith, q b p.0, p.1))
  beta_same (Some a) (Some b) (Some c) p q = ap Some (go (cases_order b c))
    where
      go : (b ≡ c) ⊎ ((b < c) ⊎ (c < b)) → b ≡ c
      go (inl e) = e
      go (inr (inl l)) = absurd (omega (arith, p.2 c l q.0, q.1))
      go (inr (inr l)) = absurd (omega (arith, q.2 b l p.0, p.1))

pub only : (ox oy : ℕ → ℕ) (m : Marks) → Marked ox oy m → (n : Marks) → Marked ox oy n → n ≡ m
only ox oy m p n q =
    let a : n.alpha ≡ m.alpha = alpha_same ox oy n.alpha m.alpha q.alpha_is p.alpha_is in
    let b : n.beta ≡ m.beta = beta_same ox oy m.alpha n.beta m.beta (subst (λ (o : Option ℕ). BetaIs ox oy o n.beta) a q.beta_is) p.beta_is in
    let c : n.gamma ≡ m.gamma = one_answer n.gamma m.gamma
    (subst (λ (o : Option ℕ). IsTrue n.gamma ↔ GammaSays ox oy o m.beta) a
    (subst (λ (o : Option ℕ). IsTrue n.gamma ↔ GammaSays ox oy n.alpha o) b q.gamma_is))
    p.gamma_is in
    let d : n.sigma ≡ m.sigma = one_answer n.sigma m.sigma
    (subst (λ (o : Option ℕ). IsTrue n.sigma ↔ SigmaSays ox oy o) b q.sigma_is)
    p.sigma_is in
    λ i. record { alpha = a i; beta = b i; gamma = c i; sigma = d i }

-- so what has the marks has the only ones
pub only_marks : (ox oy : ℕ → ℕ) (m : Marks) → Marked ox oy m → OnlyMarks ox oy m
only_marks ox oy m p = record { marked = p; alone = only ox oy m p }

-- the highest rank below k whose counts differ is the highest of all, where none from k up differ
pub alpha_is : (f g : ℕ → ℕ) (k : ℕ) (r : Option ℕ) → ((h : ℕ) → k ≤ h → f h ≡ g h) → Deciding f g k r → AlphaIs f g r
alpha_is f g k None e p = λ h. ⊎_elim (p h (omega arith)) (e h) (cases_lt h k)
alpha_is f g k (Some α) e p = (p.1, λ h m. ⊎_elim (p.2 h (omega (arith, m))) (e h) (cases_lt h k))

-- the same of two lists of 48
pub alpha_found : (left right : List ℕ) (r : Option ℕ) → length left ≡ 48 → length right ≡ 48 → Deciding (occurs left) (occurs right) 48 r → AlphaIs (occurs left) (occurs right) r
alpha_found left right r e f p = alpha_is (occurs left) (occurs right) 48 r (λ h l. past left right h (omega (arith, e, l)) (omega (arith, f, l))) p
